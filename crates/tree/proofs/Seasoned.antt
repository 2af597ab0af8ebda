-- A season card answers for the records that it began with.
use mathlib.Core.Path.{◌≡◌, refl, ap, ap₂, sym, ◌∙◌, subst}
use mathlib.Core.Logic.{⊎_elim}
use mathlib.Core.Bool.{Bool, true, false, not}
use Rattle.std.specs.Prelude.{Option, None, Some}
use Prim.Native.Nat.{ℕ, zero, suc, ◌+◌, ◌*◌, ◌-◌, ◌≤◌, ◌<◌}
use native.Mathlib.Omega.{arith}
use mathlib.Core.List.{List, [], ◌∷◌}
use lib.ListN.{length}
use lib.Dec.{eqb, ltb}
use borrow.Author.Tests.{le-leb, ltb-false, eqb-true}
use Rattle.rules.specs.declared.Entry.{Entry}
use Rattle.rules.specs.declared.Head.{Head}
use Rattle.rules.specs.Bucket.{bucket, log, onto, run, sound_bucket, sound_log}
use Rattle.rules.specs.Format.{dummy, meant}
use Rattle.rules.specs.Layout.{base, beginning, head_bytes, head_in, head_of, limits, size_of}
use Rattle.rules.specs.Plain.{◌&◌, zeros, and_then, every, last_of}
use Rattle.rules.specs.Records.{Roll}
use Rattle.rules.specs.Rewrite.{Rise, pair}
use Rattle.rules.specs.Season.{storey, tower_on, built, rooted_on, season_on, season_to, season_for, season, standing_at}
use Rattle.rules.specs.Sector.{put, encode, is_data, is_index, is_post, is_root, legal, root_entry, sector_at, word}
use Rattle.rules.specs.Walk.{copy_of, standing}
use Rattle.rules.specs.Write.{accept, refuse_if, stamp_on}
use Rattle.laws.proofs.Buckets.{raw}
use Rattle.laws.proofs.Bytes.{bytes-encode, bytes-put, zero-bytes}
use Rattle.laws.proofs.Tells.{Rec}
use Rattle.laws.proofs.Codec.{length-encode}
use Rattle.laws.proofs.Copies.{copy-cons, cstep}
use Rattle.laws.proofs.Entries.{Fine, dummy-fine, root-fine, root-says}
use Rattle.laws.proofs.Halves.{Sorted}
use Rattle.laws.proofs.Heads.{Lim, head-begins, head-length, head_read, limits-hold, log-fits}
use Rattle.laws.proofs.Lists.{All, all_both, all_map}
use Rattle.laws.proofs.Plans.{no-accept, not-false, passed}
use Rattle.laws.proofs.Puts.{Chain, chain_more, chain-size}
use Rattle.laws.proofs.Run.{decode-put, run_agree}
use Rattle.laws.proofs.Sectors.{length-put, sector-put-other, sector-put-same}
use Rattle.laws.proofs.Stamps.{bucket-stamps, stamp-blank}
use Rattle.laws.proofs.Tools.{and-true, le-or-lt}
use Rattle.laws.proofs.Used.{run-blank}
use Rattle.laws.proofs.Writes.{chain-top}
use Rattle.laws.proofs.Zeros.{zero-sector}
use Rattle.tree.proofs.Begin.{bytes-head}
use Rattle.tree.proofs.Content.{tree-parts}
use Rattle.tree.proofs.Keeps.{Keeps, now-ends}
use Rattle.tree.proofs.Ready.{Ready}
use Rattle.tree.proofs.Rows.{Hand, Stamped}
use Rattle.tree.proofs.State.{State}
use Rattle.tree.proofs.Storeys.{storey-chain, tower-chain}
use Rattle.tree.proofs.Towers.{Topped, head-some, row-stack, storey-row, storey-up, tower-topped, tower-up}
use Rattle.tree.proofs.Tree.{Span, Tree, tree-fresh}

-- what stands by a list of entries, the last copy of a bib deciding
abbrev pub said : List Entry → ℕ → Option Entry
said rs x = standing (copy_of x rs)

-- records that stand as of t, by rising bib
abbrev pub Records : ℕ → List Entry → Type 0
Records t rs = All (Rec t) rs × Sorted rs

rec-span : (t : ℕ) (e : Entry) → Rec t e → Span false 0 4294967296 e
unfolding is_index is_data
rec-span t e r = let k = r.0.key in rw r.1 (refl, omega arith, omega arith, refl)

rec-fine : (n t : ℕ) (e : Entry) → Rec t e → Fine n e
unfolding legal
rec-fine n t e r = (r.0, rw (r.1, le-leb 1 e.key r.2, le-leb 1 e.stamp r.3) r.5)

-- the dummy says nothing
dummy-said : (b : Bool) (r : Option Entry) → standing (cstep b dummy r) ≡ standing r
unfolding standing is_post
dummy-said true None = refl
dummy-said true (Some c) = refl
dummy-said false None = refl
dummy-said false (Some c) = refl

dummy-span : Span false 0 4294967296 dummy
unfolding is_index is_data
dummy-span = (refl, omega arith, omega arith, refl)

pair-upto : (t b : ℕ) (ks : List Entry) → (pair t b ks).stamp ≤ t
unfolding pair
pair-upto t b ks = omega arith

-- an entry that can be read is not stamped above the largest stamp
stamped-top : (h : Head) (card : List ℕ) (s : ℕ) → size_of h ≡ length card → Stamped s (bucket h card) → s ≤ stamp_on h card
stamped-top h card s size m =
    ⊎_elim (λ (le : s ≤ stamp_on h card). le)
    (λ (gt : stamp_on h card < s). absurd (m.3 (all_map (λ e. e.stamp ≤ stamp_on h card) (λ e. e.stamp ≡ s → ⊥) (λ e l z. omega arith) m.1
    (bucket-stamps h card size (stamp_on h card) (omega arith) m.0 m.1 m.2))))
    (le-or-lt s (stamp_on h card))

module _ (h : Head) (lim : limits h ≡ true) (t : ℕ) (t32 : t < 4294967296) (target : List ℕ) (size : length target ≡ size_of h) (zs : zeros target ≡ true)
    (rs : List Entry) (recs : Records t rs) (cap : (built h t rs target).fresh ≤ h.n + 1) where
  limit : Lim h
  limit = limits-hold h lim

  abbrev card0 : List ℕ
  card0 = put target 0 (head_bytes h t)

  long : 16 * (1 + h.n) ≤ length target
  long = log-fits h target (sym size)

  len0 : length card0 ≡ length target
  len0 = let l = long in length-put target 0 (head_bytes h t) (head-length h t) (omega arith)

  blank0 : (j : ℕ) → 1 ≤ j → zeros (sector_at card0 j) ≡ true
  blank0 j lo =
      let l = long in
      ap zeros (sector-put-other target 0 j (head_bytes h t) (head-length h t) (omega arith) (λ z. omega arith)) ∙ zero-sector target j zs

  ready0 : Ready h card0 1
  unfolding base size_of
  ready0 = record {
    bytes = bytes-put target 0 (head_bytes h t) (zero-bytes target zs) (bytes-head h t limit.n4096 limit.m32 limit.tdm limit.tim t32);
    size = sym (len0 ∙ size);
    blank = λ c p q. run-blank h.n card0 (base h c) h.m (λ j a b. blank0 j (omega arith));
    whole = λ c p. ([], run-blank h.n card0 (base h c) h.m (λ j a b. blank0 j (omega arith)));
  }

  abbrev start : Rise
  start = record { hand = dummy ∷ rs; fresh = 1; card = card0 }

  abbrev ground : Rise
  ground = storey h t start

  hand0 : Hand h card0 (said rs) t 1 0 0 4294967296 (dummy ∷ rs)
  hand0 = record {
    ready = ready0;
    one = omega arith;
    shape = (refl, (dummy-span, all_map (Rec t) (Span false 0 4294967296) (rec-span t) rs recs.0));
    sorted = (all_map (Rec t) (λ e. 0 < e.key) (λ e r. let z = r.2 in omega arith) rs recs.0, recs.1);
    content = λ x p q. ap standing (copy-cons x dummy rs) ∙ dummy-said (eqb 0 x) (copy_of x rs);
    fine = (dummy-fine h.n, all_map (Rec t) (Fine h.n) (rec-fine h.n t) rs recs.0);
  }

  topped : Topped h card0 (built h t rs target).card (said rs) t (built h t rs target).fresh
  unfolding built tower_on
  topped =
      let up = tower-up h t (length ground.hand) ground in
      let w = storey-row h limit (said rs) t t32 start 0 hand0 (omega arith) in
      let count = w.next in
      let some_up = head-some 0 ground.hand w.shape.0 in
      tower-topped h limit (said rs) t t32 card0 (length ground.hand) ground 0
      (row-stack h card0 card0 ground.card (said rs) t 1 0 ground.fresh (dummy ∷ rs) ground.hand w (λ j lt. refl) (omega arith))
      (omega arith) cap

  abbrev card1 : List ℕ
  card1 = (built h t rs target).card

  abbrev top : ℕ
  top = (built h t rs target).fresh - 1

  abbrev root : Entry
  root = root_entry t top

  abbrev card2 : List ℕ
  card2 = put card1 1 (encode root)

  fine-root : Fine h.n root
  fine-root = let hi = topped.high in root-fine h.n t top t32 (omega arith) (omega arith) limit.n4096

  len1 : length card1 ≡ length target
  len1 = sym topped.ready.size ∙ sym size

  room : 16 * 1 + 16 ≤ length card1
  room = let l = long in let n2 = limit.n2 in let e = len1 in omega arith

  same2 : (j : ℕ) → (j ≡ 1 → ⊥) → sector_at card2 j ≡ sector_at card1 j
  same2 j ne = sector-put-other card1 1 j (encode root) (length-encode root) room ne

  blank-log : (j : ℕ) → 2 ≤ j → j < 1 + h.n → zeros (sector_at card2 j) ≡ true
  blank-log j lo hi = ap zeros (same2 j (λ z. omega arith) ∙ topped.front j hi) ∙ blank0 j (omega arith)

  raws : (c : ℕ) → raw h card2 c ≡ raw h card1 c
  unfolding base
  raws c = let n2 = limit.n2 in run_agree h.n card2 card1 (base h c) h.m (λ j p q. same2 j (λ z. omega arith))

  buckets : (c : ℕ) → bucket h card2 c ≡ bucket h card1 c
  unfolding bucket
  buckets zero = refl
  buckets (suc c) = ap (λ z. and_then z sound_bucket) (raws (suc c))

  log2 : log h card2 ≡ Some (root ∷ [])
  unfolding log sound_log every is_root run onto
  log2 = log-one h.n refl
    where
      log-one : (n : ℕ) → h.n ≡ n → and_then (run h.n card2 1 n) sound_log ≡ Some (root ∷ [])
      log-one zero e = absurd (let n2 = limit.n2 in omega arith)
      log-one (suc c) e =
          rw (decode-put h.n card1 root fine-root.1 1 1 refl room, run-blank h.n card2 2 c (λ j p q. blank-log j p (omega arith)))

  first2 : sector_at card2 0 ≡ head_bytes h t
  first2 =
      let l = long in
      same2 0 (λ z. omega arith) ∙ topped.front 0 (omega arith) ∙ sector-put-same target 0 (head_bytes h t) (head-length h t) (omega arith)

  len2 : length card2 ≡ size_of h
  len2 = length-put card1 1 (encode root) (length-encode root) room ∙ sym topped.ready.size

  tree2 : Tree (bucket h card2) (said rs) topped.height top 0 4294967296
  tree2 = tree-fresh (bucket h card1) (bucket h card2) (said rs) (λ b es q. buckets b ∙ q) topped.height top 0 4294967296 topped.tree

  state2 : State h card2 (said rs) topped.height
  unfolding last_of head_of
  state2 =
      let tp = tree-parts (bucket h card2) (said rs) topped.height top 0 4294967296 tree2 in
      let hi = topped.high in
      let index = topped.index in
      record {
        bytes = bytes-put card1 1 (encode root) topped.ready.bytes (bytes-encode root fine-root.0);
        head = ap₂ head_in first2 len2 ∙ head_read h t (size_of h) lim refl;
        logs = root ∷ [];
        log_is = log2;
        last = root;
        last-is = refl;
        tree = tree2;
        whole = λ c p. ((topped.ready.whole c p).0, raws c ∙ (topped.ready.whole c p).1);
        tall = (top, tp.0, tp.1, omega arith, omega arith);
      }

  -- what is put behind the head: the dummy, the records and pairs, whatever is asked of them
  chain2 : (Q : Entry → Type 0) → ((b : ℕ) (ks : List Entry) → Q (pair t b ks)) → Q dummy → All Q rs → Chain h Q card0 card2
  unfolding built tower_on
  chain2 Q qp qd qs =
      let n2 = limit.n2 in
      let hands : All (λ d. Fine h.n d × Q d) (dummy ∷ rs) = ((dummy-fine h.n, qd), all_both (Fine h.n) Q rs (all_map (Rec t) (Fine h.n) (rec-fine h.n t) rs recs.0) qs) in
      let up = tower-up h t (length ground.hand) ground in
      let first = storey-chain h limit.n4096 t t32 Q qp start (omega arith) (omega arith) ready0.size hands in
      let low = storey-up h t start in
      let levels = tower-chain h limit.n4096 t t32 Q qp (length ground.hand) ground (omega arith) cap (chain-size h Q card0 ground.card ready0.size first.0) first.1 in
      chain_more h Q card0 card1 card2 (chain_more h Q card0 ground.card card1 first.0 levels) (
        1 ∷ [],
        (
          root,
          record {
            blank = ap zeros (topped.front 1 (omega arith)) ∙ blank0 1 (omega arith);
            high = omega arith;
            says = root-says t top;
            area = λ z. absurd (omega arith);
          },
          refl,
        ),
      )

  top2 : stamp_on h card2 ≡ t
  top2 =
      let st = topped.stamped in
      let put-upto = chain2 (λ d. d.stamp ≤ t) (pair-upto t) (omega arith) (all_map (Rec t) (λ e. e.stamp ≤ t) (λ e r. r.4) rs recs.0) in
      let up = chain-top h t card0 card2 ready0.size put-upto (λ j lo hi. let z = stamp-blank (sector_at card0 j) (blank0 j (omega arith)) in omega arith) in
      let low = stamped-top h card2 t (sym len2) (st.0, st.1, buckets st.0 ∙ st.2, st.3) in
      omega arith

  begins2 : beginning card2 ≡ t
  unfolding beginning
  begins2 = ap (λ (s : List ℕ). word s 8) first2 ∙ head-begins h t

  built-keeps : Keeps h card2 (λ u. said rs) t t
  unfolding state2
  built-keeps = record {
    height = topped.height;
    now = said rs;
    state = state2;
    calm = λ u x le. refl;
    top = top2;
    logs-upto = (omega arith, tt);
    begins = begins2;
    since = omega arith;
    small = t32;
    answers = λ u x le lt. now-ends h card2 (said rs) topped.height state2 u (omega (arith, top2)) (le, tt) x lt;
  }

-- what an accepted season has passed, and what it leaves
pub record Passed (h : Head) (t : ℕ) (target : List ℕ) (r : Roll) (new : List ℕ) : Type 0 where
  pub lim : limits h ≡ true
  pub long : length target ≡ size_of h
  pub blank : zeros target ≡ true
  pub code : r.code ≡ 0
  pub room : (built h t r.records target).fresh ≤ h.n + 1
  pub leaves : put (built h t r.records target).card 1 (encode (root_entry t ((built h t r.records target).fresh - 1))) ≡ new

pub to-passed : (h : Head) (t : ℕ) (target : List ℕ) (r : Roll) (new : List ℕ) → season_to h t target r ≡ accept new → Passed h t target r new
unfolding season_to season_on rooted_on
to-passed h t target r new q =
    let fits = eqb (length target) (size_of h) in
    let rise = built h t r.records target in
    let last = put rise.card 1 (encode (root_entry t (rise.fresh - 1))) in
    let full = ltb (h.n + 1) rise.fresh in
    let sound = eqb r.code 0 in
    let a = passed (not (limits h & fits)) 8 (refuse_if (not (zeros target)) 9 (refuse_if (not sound) 4 (refuse_if full 6 (accept last)))) new q in
    let b = passed (not (zeros target)) 9 (refuse_if (not sound) 4 (refuse_if full 6 (accept last))) new a.1 in
    let c = passed (not sound) 4 (refuse_if full 6 (accept last)) new b.1 in
    let d = passed full 6 (accept last) new c.1 in
    let e = and-true (limits h) fits (not-false (limits h & fits) a.0) in
    let same : accept last ≡ accept new = d.1 in
    record {
      lim = e.0;
      long = eqb-true (length target) (size_of h) e.1;
      blank = not-false (zeros target) b.0;
      code = eqb-true r.code 0 (not-false sound c.0);
      room = ltb-false (h.n + 1) rise.fresh d.0;
      leaves = cc;
    }

-- a season card begun with records keeps what a card of ours does
pub season-keeps : (h : Head) (t : ℕ) (target : List ℕ) (r : Roll) (new : List ℕ) → t < 4294967296 → Records t r.records → season_to h t target r ≡ accept new
    → Keeps h new (λ u. said r.records) t t
season-keeps h t target r new t32 recs q =
    let p = to-passed h t target r new q in
    subst (λ z. Keeps h z (λ u. said r.records) t t) p.leaves
    (built-keeps h p.lim t t32 target p.long p.blank r.records recs p.room)

-- and is written by entries put at blanks, behind the head
pub season-chain : (h : Head) (t : ℕ) (target : List ℕ) (r : Roll) (new : List ℕ) → t < 4294967296 → Records t r.records → season_to h t target r ≡ accept new
    → (Q : Entry → Type 0) → ((b : ℕ) (ks : List Entry) → Q (pair t b ks)) → Q dummy → All Q r.records → Chain h Q (put target 0 (head_bytes h t)) new
season-chain h t target r new t32 recs q Q qp qd qs =
    let p = to-passed h t target r new q in
    subst (λ z. Chain h Q (put target 0 (head_bytes h t)) z) p.leaves
    (chain2 h p.lim t t32 target p.long p.blank r.records recs p.room Q qp qd qs)

for-passed : (card : List ℕ) (t : ℕ) (target : List ℕ) (th : Head) (o : Option Head) (new : List ℕ) → season_for card t target th o ≡ accept new
    → (h : Head) × (o ≡ Some h) × (beginning card ≤ t) × (season_to th t target (standing_at card t) ≡ accept new)
unfolding season_for
for-passed card t target th None new q = absurd (no-accept 1 new q)
for-passed card t target th (Some h) new q =
    let a = passed (ltb t (beginning card)) 13 (season_to th t target (standing_at card t)) new q in
    (h, refl, ltb-false t (beginning card) a.0, a.1)

-- the source has a head, and its beginning is not after t
pub season-passed : (card : List ℕ) (t : ℕ) (target : List ℕ) (n m td ti : ℕ) (new : List ℕ) → season card t target n m td ti ≡ accept new
    → (h : Head) × (head_of card ≡ Some h) × (beginning card ≤ t) × (season_to (meant n m td ti) t target (standing_at card t) ≡ accept new)
unfolding season
season-passed card t target n m td ti new q = for-passed card t target (meant n m td ti) (head_of card) new q
