-- An accepted write takes a card in order to a card in order that holds the new entry; it is accepted if the fresh buckets needed remain.
use mathlib.Core.Path.{◌∙◌, ◌≡◌, ap, refl, subst, sym}
use mathlib.Core.Logic.{inl, inr}
use mathlib.Core.Bool.{false, true, Bool}
use Rattle.std.specs.Prelude.{Option, Some}
use Prim.Native.Nat.{◌+◌, ◌<◌, ◌≤◌, suc, ℕ}
use native.Mathlib.Omega.{arith}
use mathlib.Core.List.{List, [], ◌++◌, ◌∷◌, append-nil}
use lib.ListN.{length, length-append}
use borrow.Author.Tests.{eqb-false, ne_eqb, le-ltb}
use lib.Dec.{eqb}
use Rattle.rules.specs.declared.Entry.{Entry}
use Rattle.rules.specs.declared.Head.{Head}
use Rattle.rules.specs.Bucket.{blanks_of, bucket, log, log_blanks}
use Rattle.rules.specs.Layout.{base, size_of}
use Rattle.rules.specs.Rewrite.{Rise, fill, into, one_bucket}
use Rattle.rules.specs.Sector.{is_data, is_index, is_root, root_entry, sector_at}
use Rattle.rules.specs.Walk.{Visit, path}
use Rattle.rules.specs.Write.{accept, climb, finish, log_full, logged, plan_on, rooted, top_used, refuse_if, checked}
use Rattle.laws.proofs.Tools.{true-false}
use Rattle.laws.proofs.Lists.{All, last_snoc}
use Rattle.laws.proofs.Blocks.{blank-room}
use Rattle.laws.proofs.Entries.{Fine, root-fine}
use Rattle.laws.proofs.Buckets.{bucket-raw, bucket-within}
use Rattle.laws.proofs.Fresh.{rooted-fresh, climb-mono, New, climb-new, fresh_after}
use Rattle.laws.proofs.Heads.{Lim, head-facts, head-same}
use Rattle.laws.proofs.Plans.{checked-inv}
use Rattle.laws.proofs.Used.{used-top}
use Rattle.laws.proofs.Blanks.{blanks-left}
use Rattle.laws.proofs.AsMet.{front-met}
use Rattle.laws.proofs.Logs.{log-raw, log-blanks-same, log-same}
use Rattle.tree.proofs.AsOf.{Grows, Late}
use Rattle.tree.proofs.Tree.{Shape, Tree, tree-fresh}
use Rattle.tree.proofs.Content.{shape-sound, tree-parts}
use Rattle.tree.proofs.Outcome.{Closed, Mark, One, Open, Outcome, Two}
use Rattle.tree.proofs.Climb.{climb-tree, start, upd}
use Rattle.tree.proofs.Log.{log-step}
use Rattle.tree.proofs.State.{State, early-max, kids-pair, state-walk}
use Rattle.tree.proofs.Ready.{fresh-bucket, ready-top}

-- what an accepted write with the stamp s gives
pub record Wrote (h : Head) (card card' : List ℕ) (g' : ℕ → Option Entry) (s : ℕ) (lg : List Entry) : Type 0 where
  pub height : ℕ
  pub state : State h card' g' height
  pub grows : Grows s (bucket h card) (bucket h card')
  pub mark : Mark s (bucket h card')
  pub new-log : List Entry
  pub log-grows : (log h card' ≡ Some (lg ++ new-log)) × Late s new-log × All (λ e. e.stamp ≤ s) new-log

all-grows : (h : Head) (card card' : List ℕ) (s : ℕ) → ((c : ℕ) (cs : List Entry) → bucket h card c ≡ Some cs → bucket h card' c ≡ Some cs)
    → Grows s (bucket h card) (bucket h card')
all-grows h card card' s f c cs q = ([], f c cs q ∙ ap Some (sym (append-nil cs)), tt)

is-root : (s b : ℕ) → is_root (root_entry s b) ≡ true
unfolding is_root
is-root s b = refl

module _ (h : Head) (card : List ℕ) (g g' : ℕ → Option Entry) (k s : ℕ) (st : State h card g k) (s32 : s < 4294967296) where
  -- the head and the log are as before
  abbrev Front : List ℕ → Type 0
  Front c = (j : ℕ) → j < 1 + h.n → sector_at c j ≡ sector_at card j

  lim : Lim h
  lim = (head-facts card h st.head).0

  size : size_of h ≡ length card
  size = (head-facts card h st.head).1

  -- the same root, with one bucket changed
  closed-state : (card' : List ℕ) (f : ℕ) → Front card' → Closed h card card' g g' k st.last.value 0 4294967296 s f → Wrote h card card' g' s st.logs
  closed-state card' f front c =
      let tb = st.tall in
      let gr = c.grows tb.0 tb.1 tb.2 in
      let ls = log-same h card card' front ∙ st.log_is in
      record {
        height = k;
        state = record {
          bytes = c.ready.bytes;
          head = head-same card card' (front 0 (omega arith)) (sym c.ready.size ∙ size) ∙ st.head;
          logs = st.logs;
          log_is = ls;
          last = st.last;
          last-is = st.last-is;
          tree = c.tree;
          whole = c.ready.whole;
          tall = (tb.0, tb.1 ++ gr.0, gr.1, tb.3, tb.4);
        };
        grows = c.grows;
        mark = c.mark;
        new-log = [];
        log-grows = (ls ∙ ap Some (sym (append-nil st.logs)), tt, tt);
      }

  -- a new root b of height k', a fresh bucket of the card card1, logged
  log-state : (card1 : List ℕ) (f b k' : ℕ) (es : List Entry) → Front card1 → Open h card card1 s f → 1 ≤ length (log_blanks h card1) → bucket h card1 b ≡ Some es
      → Tree (bucket h card1) g' k' b 0 4294967296 → k' + 1 ≤ b → top_used h card h.n < b
      → Wrote h card (fill card1 (log_blanks h card1) (root_entry s b ∷ [])) g' s st.logs
  log-state card1 f b k' es front op room bq tr kb nb =
      let ls = log-same h card card1 front ∙ st.log_is in
      let r = bucket-raw h card1 b es bq in
      let w = bucket-within h card1 b es op.ready.size bq in
      let lg = log-step h card1 f st.logs (root_entry s b) op.ready ls room (root-fine h.n s b s32 r.0 w lim.n4096) (is-root s b) in
      let card' = fill card1 (log_blanks h card1) (root_entry s b ∷ []) in
      let same : (c : ℕ) (cs : List Entry) → bucket h card1 c ≡ Some cs → bucket h card' c ≡ Some cs = λ c cs q. lg.same c ∙ q in
      let tb = st.tall in
      let before = tb.4 in
      let used = used-top h card tb.0 tb.1 size tb.2 in
      let more = length-append st.logs (root_entry s b ∷ []) in
      record {
        height = k';
        state = record {
          bytes = lg.ready.bytes;
          head = head-same card card' (lg.head ∙ front 0 (omega arith)) (sym lg.ready.size ∙ size) ∙ st.head;
          logs = st.logs ++ (root_entry s b ∷ []);
          log_is = lg.logged;
          last = root_entry s b;
          last-is = last_snoc st.logs (root_entry s b);
          tree = tree-fresh (bucket h card1) (bucket h card') g' same k' b 0 4294967296 tr;
          whole = lg.ready.whole;
          tall = (b, es, same b es bq, kb, omega arith);
        };
        grows = all-grows h card card' s (λ c cs q. same c cs (op.same c cs q));
        mark = (let m = op.mark in (m.0, m.1, same m.0 m.1 m.2, m.3));
        new-log = root_entry s b ∷ [];
        log-grows = (lg.logged, (omega arith, tt), (omega arith, tt));
      }

  one_state : (r : Rise) (p : Entry) → Front r.card → 1 ≤ length (log_blanks h r.card) → top_used h card h.n < p.value
      → One h card r.card g' k 0 4294967296 s r.fresh p
      → Wrote h card (fill r.card (log_blanks h r.card) (root_entry s p.value ∷ [])) g' s st.logs
  one_state r p front room nb o =
      let tp = tree-parts (bucket h r.card) g' k p.value 0 4294967296 o.tree1 in
      let tb = st.tall in
      let tl = tb.3 in
      let used = used-top h card tb.0 tb.1 size tb.2 in
      log-state r.card r.fresh p.value k tp.0 front o.opened room tp.1 o.tree1 (omega arith) nb

  -- a root above two buckets, in the fresh bucket f
  two-state : (r : Rise) (p q : Entry) (f : ℕ) → Front r.card → 1 ≤ length (log_blanks h r.card) → r.fresh ≤ f → f ≤ h.n → 2 ≤ length (blanks_of h r.card f)
      → k + 2 ≤ f → top_used h card h.n < f
      → Two h card r.card g' k 0 4294967296 s r.fresh p q
      → Wrote h card (fill (into h f (p ∷ q ∷ []) r.card) (log_blanks h (into h f (p ∷ q ∷ []) r.card)) (root_entry s f ∷ [])) g' s st.logs
  two-state r p q f front room rf fn fr kf nb o =
      let card1 = r.card in
      let es : List Entry = p ∷ q ∷ [] in
      let pr = o.pair1 in
      let qr = o.pair2 in
      let md = o.mid in
      let pk = pr.0 in
      let sh : Shape true 0 4294967296 es = (pk, ((pr.1, omega arith, omega arith, pr.1), ((qr.1, omega arith, omega arith, qr.1), tt))) in
      let fb = fresh-bucket h card1 r.fresh f es o.opened.ready rf (omega arith) fn fr
      (pr.2, (qr.2, tt)) (shape-sound true 0 4294967296 es sh) in
      let card2 = into h f es card1 in
      let m = o.opened.mark in
      let op : Open h card card2 s (f + 1) = record {
        ready = fb.ready;
        mark = (m.0, m.1, fb.same m.0 m.1 m.2, m.3);
        same = λ c cs z. fb.same c cs (o.opened.same c cs z);
      } in
      let tr : Tree (bucket h card2) g' (suc k) f 0 4294967296 = (
        es,
        fb.here,
        sh,
        kids-pair (bucket h card2) g' k 4294967296 p q pk (omega arith) md.1
            (tree-fresh (bucket h card1) (bucket h card2) g' fb.same k p.value 0 q.key o.tree1)
            (tree-fresh (bucket h card1) (bucket h card2) g' fb.same k q.value q.key 4294967296 o.tree2),
      ) in
      log-state card2 (f + 1) f (suc k) es (λ i lt. fb.front i lt ∙ front i lt) op (subst (λ z. 1 ≤ length z) (sym (log-blanks-same h card1 card2 fb.front)) room) fb.here tr (omega arith) nb

module _ (h : Head) (card : List ℕ) (g g' : ℕ → Option Entry) (k s : ℕ) (st : State h card g k) (s32 : s < 4294967296) where
  -- a log that is not full has a blank
  log-room : (c : List ℕ) → eqb (length (log_blanks h c)) 0 ≡ false → 1 ≤ length (log_blanks h c)
  log-room c q = let n = eqb-false (length (log_blanks h c)) 0 q in omega arith

  abbrev End : Rise → List Entry → Type 0
  End r top = (rooted h s top r).fresh ≤ h.n + 1 → log_full h r.card top ≡ false → Wrote h card (rooted h s top r).card g' s st.logs

  ending : (r : Rise) → top_used h card h.n + 1 ≤ r.fresh → k + 1 ≤ top_used h card h.n → ((j : ℕ) → j < 1 + h.n → sector_at r.card j ≡ sector_at card j) → All (New (top_used h card h.n + 1)) r.hand
      → Outcome h card g g' k st.last.value 0 4294967296 s r → End r r.hand
  unfolding rooted logged one_bucket log_full blanks_of
  ending r ff tall front nw (inl c) = subst (End r) (sym c.0) (λ cap room. closed-state h card g g' k s st s32 r.card r.fresh front c.1)
  ending r ff tall front nw (inr (inl c)) = subst (End r) (sym c.1)
      (λ cap room.
      let pn = (subst (All (New (top_used h card h.n + 1))) c.1 nw).0 c.2.pair1.1 in
      one_state h card g g' k s st s32 r c.0 front (log-room r.card room) (omega arith) c.2)
  ending r ff tall front nw (inr (inr c)) = subst (End r) (sym c.2)
      (λ cap room.
      let m4 = (head-facts card h st.head).0.m4 in
      let fr = blank-room h.n r.card (base h r.fresh) h.m (c.3.opened.ready.blank r.fresh (omega arith) (omega arith)) in
      two-state h card g g' k s st s32 r c.0 c.1 r.fresh front (log-room r.card room) (omega arith) (omega arith) (omega arith) (omega arith) (omega arith) c.3)

-- the log of a card in order has a blank
log-open : (h : Head) (card : List ℕ) (g : ℕ → Option Entry) (k : ℕ) (st : State h card g k) → 1 ≤ length (log_blanks h card)
unfolding log_blanks
log-open h card g k st =
    let tb = st.tall in
    let more = tb.4 in
    let within = bucket-within h card tb.0 tb.1 (head-facts card h st.head).1 tb.2 in
    let rest = blanks-left h.n card 1 h.n st.logs (log-raw h card st.logs st.log_is).0 in
    omega arith

log-free : (h : Head) (card : List ℕ) (top : List Entry) → 1 ≤ length (log_blanks h card) → log_full h card top ≡ false
unfolding log_full
log-free h card [] room = refl
log-free h card (e ∷ es) room = ne_eqb (length (log_blanks h card)) 0 (λ z. omega arith)

checked-accept : (h : Head) (full : Bool) (r : Rise) → r.fresh ≤ h.n + 1 → full ≡ false → checked h full r ≡ accept r.card
unfolding checked refuse_if
checked-accept h full r le free = rw (le-ltb (h.n + 1) r.fresh le, free)

-- a write: what it leaves if it is accepted, and that it is if the fresh buckets needed remain
pub write_step : (h : Head) (card : List ℕ) (g : ℕ → Option Entry) (k : ℕ) (st : State h card g k) (e : Entry) → Fine h.n e
    → (is_index e ≡ false) × (is_data e ≡ true)
    → (p : List Visit) × (path (bucket h card) 4294967295 e.key h.n st.last.value 0 ≡ Some p)
    × ((new : List ℕ) → plan_on h card e p ≡ accept new → Wrote h card new (upd g e) e.stamp st.logs)
    × (fresh_after h card e p ≤ h.n + 1 → (new : List ℕ) × (plan_on h card e p ≡ accept new))
unfolding plan_on finish fresh_after
write_step h card g k st e fine isd =
    let hf = head-facts card h st.head in
    let tb = st.tall in
    let bn = bucket-within h card tb.0 tb.1 hf.1 tb.2 in
    let bt = used-top h card tb.0 tb.1 hf.1 tb.2 in
    let f0 = top_used h card h.n + 1 in
    let tl = tb.3 in
    let ready = ready-top h card st.bytes hf.1 st.whole in
    let early = early-max h card st.bytes in
    let ct = climb-tree h hf.0 card g 4294967295 early e fine isd f0 ready (omega arith) k st.last.value 0 4294967296 h.n st.tree
    (omega arith) (omega arith) (omega arith) fine.0.key (omega arith) in
    let r = climb h e.stamp ct.0 (start card e f0) in
    let cf = climb-mono h e.stamp ct.0 (start card e f0) in
    let nw = climb-new h e.stamp f0 ct.0 (start card e f0) (omega arith) ((λ i. absurd (true-false (sym i ∙ isd.0))), tt) in
    let front = front-met h card st.head 4294967295 e.key [] ct.0 (state-walk h card g k st e.key ∙ ct.1) e.stamp (e ∷ []) in (
      ct.0,
      ct.1,
      λ new q.
          let ci = checked-inv h (log_full h r.card r.hand) (rooted h e.stamp r.hand r) new q in
          let rf = rooted-fresh h e.stamp r.hand r in
          let cap = ci.0 in
          subst (λ z. Wrote h card z (upd g e) e.stamp st.logs) ci.2
          (ending h card g (upd g e) k e.stamp st fine.0.stamp r cf (omega arith) (front (omega arith)) nw (ct.2 (omega arith)) ci.0 ci.1),
      λ cap.
          let rf = rooted-fresh h e.stamp r.hand r in
          let room = subst (λ z. 1 ≤ length z) (sym (log-blanks-same h card r.card (front (omega arith)))) (log-open h card g k st) in
          let last = rooted h e.stamp r.hand r in
          (last.card, checked-accept h (log_full h r.card r.hand) last cap (log-free h r.card r.hand room)),
    )
