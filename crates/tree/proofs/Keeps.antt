-- A card that answers as it should does so with one accepted entry more.
use Prim.Native.Nat.{◌<◌, ◌≤◌, ℕ, ◌+◌}
use borrow.Author.Tests.{le-leb, lt-leb, le-ltb}
use lib.Dec.{eqb, leb}
use lib.ListN.{length}
use mathlib.Core.Bool.{true}
use mathlib.Core.List.{List, ◌++◌}
use mathlib.Core.Logic.{⊎_elim}
use Rattle.std.specs.Prelude.{Option, Some}
use mathlib.Core.Path.{◌∙◌, ◌≡◌, ap, subst, sym}
use native.Mathlib.Omega.{arith}
use Rattle.rules.specs.declared.Entry.{Entry}
use Rattle.rules.specs.declared.Head.{Head}
use Rattle.rules.specs.Bucket.{bucket}
use Rattle.rules.specs.Layout.{size_of, beginning}
use Rattle.rules.specs.Next.{next, next_in}
use Rattle.rules.specs.Plain.{if}
use Rattle.rules.specs.Sector.{is_data, status_fits}
use Rattle.rules.specs.Walk.{Visit, path_from, path_in, standing, walk}
use Rattle.rules.specs.Write.{accept, plan, plan_on, stamp_on, latest}
use Rattle.laws.proofs.Buckets.{bucket-within}
use Rattle.laws.proofs.Carries.{beginning-after}
use Rattle.laws.proofs.Heads.{head-facts}
use Rattle.laws.proofs.Lists.{All, all_append, all_map}
use Rattle.laws.proofs.Plans.{plan-inv}
use Rattle.laws.proofs.Tools.{le-or-lt}
use Rattle.laws.proofs.Entries.{Asks, asks-kind, asks-stamp, asks-small, asks-fine}
use Rattle.laws.proofs.Writes.{top-after}
use Rattle.laws.proofs.Fresh.{fresh_after}
use Rattle.laws.proofs.Stamps.{bucket-stamps}
use Rattle.laws.proofs.Left.{left-upto}
use Rattle.tree.proofs.Walks.{walk-late}
use Rattle.tree.proofs.Climb.{upd}
use Rattle.tree.proofs.Hops.{NextIs, next-loop}
use Rattle.tree.proofs.Ends.{Ends, tree-ends, ends-alike, ends-ext}
use Rattle.tree.proofs.Outcome.{Mark}
use Rattle.tree.proofs.State.{State, state-walk}
use Rattle.tree.proofs.Write.{Wrote, write_step}
use Rattle.tree.proofs.Tree.{some_inj, Early}

-- what stands as of each stamp, with one accepted entry more
abbrev pub more : (ℕ → ℕ → Option Entry) → Entry → ℕ → ℕ → Option Entry
more g e t x = if (leb e.stamp t) (upd (g t) e x) (g t x)

-- the card, begun at a stamp and last written at s, answers from its beginning on as g has it
pub record Keeps (h : Head) (card : List ℕ) (g : ℕ → ℕ → Option Entry) (begin s : ℕ) : Type 0 where
  -- what its tree holds stands as of s and of every later stamp
  pub height : ℕ
  pub now : ℕ → Option Entry
  pub state : State h card now height
  pub calm : (t x : ℕ) → s ≤ t → now x ≡ g t x
  -- s is the largest stamp, in the buckets and in the log
  pub top : stamp_on h card ≡ s
  pub logs-upto : All (λ e. e.stamp ≤ s) state.logs
  pub begins : beginning card ≡ begin
  pub since : begin ≤ s
  pub small : s < 4294967296
  -- every walk arrives at a data bucket that tells the truth for its range of keys
  pub answers : (t x : ℕ) → begin ≤ t → x < 4294967296 → (p : List Visit) × (walk h card t x ≡ Some p) × Ends (g t) t x 0 4294967296 p

-- no entry of the buckets is stamped after t
early-upto : (h : Head) (card : List ℕ) (t : ℕ) → size_of h ≡ length card → stamp_on h card ≤ t → Early t (bucket h card)
early-upto h card t size le c cs q = left-upto t cs (bucket-stamps h card size t le c cs q)

-- as of a stamp that nothing is after, a card in order gives what its tree holds
pub now-ends : (h : Head) (card : List ℕ) (g : ℕ → Option Entry) (k : ℕ) (st : State h card g k) (t : ℕ) → stamp_on h card ≤ t
    → All (λ e. e.stamp ≤ t) st.logs
    → (x : ℕ) → x < 4294967296 → (p : List Visit) × (walk h card t x ≡ Some p) × Ends g t x 0 4294967296 p
unfolding walk path_in path_from
now-ends h card g k st t up lu x lt =
    let hf = head-facts card h st.head in
    let tb = st.tall in
    let bn = bucket-within h card tb.0 tb.1 hf.1 tb.2 in
    let tl = tb.3 in
    let a = tree-ends (bucket h card) g t (early-upto h card t hf.1 up) k st.last.value 0 4294967296 st.tree x (omega arith) lt h.n (omega arith) in
    (a.0, rw (st.log_is, left-upto t st.logs lu, st.last-is) a.2, a.3)

-- the stamp of an entry that can be read is not above the largest
mark-top : (h : Head) (card : List ℕ) (s : ℕ) → size_of h ≡ length card → Mark s (bucket h card) → s ≤ stamp_on h card
mark-top h card s size m =
    ⊎_elim (λ (le : s ≤ stamp_on h card). le)
    (λ (gt : stamp_on h card < s). absurd (m.3 (all_map (λ e. e.stamp ≤ stamp_on h card) (λ e. is_data e ≡ true → e.stamp ≡ s → ⊥) (λ e l i z. omega arith) m.1
    (bucket-stamps h card size (stamp_on h card) (omega arith) m.0 m.1 m.2))))
    (le-or-lt s (stamp_on h card))

module _ (h : Head) (card : List ℕ) (g : ℕ → ℕ → Option Entry) (begin s : ℕ) (ke : Keeps h card g begin s) (e : Entry) (asks : Asks e) where
  -- the walk of a write
  pub write-walk : (p : List Visit) × (walk h card latest e.key ≡ Some p)
  write-walk =
      let sm = ke.small in
      let si = ke.since in
      let a = ke.answers latest e.key (omega arith) (asks-small e asks) in
      (a.0, a.1)

  -- a write whose stamp is above every one
  pub keeps-write : 1 ≤ e.key → s < e.stamp → status_fits e.status e.value ≡ true
      → ((new : List ℕ) → plan_on h card e write-walk.0 ≡ accept new → Wrote h card new (upd ke.now e) e.stamp ke.state.logs)
      × (fresh_after h card e write-walk.0 ≤ h.n + 1 → (new : List ℕ) × (plan_on h card e write-walk.0 ≡ accept new))
  keeps-write key above fits =
      let st = ke.state in
      let top = ke.top in
      let w = write-walk in
      let step = write_step h card ke.now ke.height st e (asks-fine h.n e asks key (omega arith) fits) (asks-kind e asks) in
      let same : step.0 ≡ w.0 = some_inj (sym step.1 ∙ sym (state-walk h card ke.now ke.height st e.key) ∙ w.1) in
      subst (λ p. ((new : List ℕ) → plan_on h card e p ≡ accept new → Wrote h card new (upd ke.now e) e.stamp ke.state.logs)
      × (fresh_after h card e p ≤ h.n + 1 → (new : List ℕ) × (plan_on h card e p ≡ accept new))) same (step.2, step.3)

  pub keeps-passed : (new : List ℕ) → plan card e ≡ accept new → (1 ≤ e.key) × (s < e.stamp) × (plan_on h card e write-walk.0 ≡ accept new) × (status_fits e.status e.value ≡ true)
  keeps-passed new q =
      let w = write-walk in
      let inv = plan-inv h card e new w.0 ke.state.head w.1 q in
      let above = inv.1 in
      let top = ke.top in
      (inv.0, omega arith, inv.2, inv.3)

  pub keeps-wrote : (new : List ℕ) → plan card e ≡ accept new → Wrote h card new (upd ke.now e) e.stamp ke.state.logs
  keeps-wrote new q = let a = keeps-passed new q in (keeps-write a.0 a.1 a.3).0 new a.2

  -- one accepted entry more
  pub keeps-step : (new : List ℕ) → plan card e ≡ accept new → Keeps h new (more g e) begin e.stamp
  keeps-step new q =
      let st = ke.state in
      let above = (keeps-passed new q).1 in
      let w = keeps-wrote new q in
      let size = (head-facts new h w.state.head).1 in
      let since = ke.since in
      let low = mark-top h new e.stamp size w.mark in
      let high = top-after h card st.head st.bytes e asks new q in
      let top : stamp_on h new ≡ e.stamp = omega arith in
      let lgs : st.logs ++ w.new-log ≡ w.state.logs = some_inj (sym w.log-grows.0 ∙ w.state.log_is) in
      let lu : All (λ d. d.stamp ≤ e.stamp) w.state.logs =
      subst (All (λ d. d.stamp ≤ e.stamp)) lgs
      (all_append (λ d. d.stamp ≤ e.stamp) st.logs w.new-log
      (all_map (λ d. d.stamp ≤ s) (λ d. d.stamp ≤ e.stamp) (λ d l. omega arith) st.logs ke.logs-upto) w.log-grows.2) in
      let calm : (t x : ℕ) → e.stamp ≤ t → upd ke.now e x ≡ more g e t x
      = λ t x le. sym (rw (le-leb e.stamp t le) (ap (λ z. if (eqb e.key x) (standing (Some e)) z) (sym (ke.calm t x (omega arith))))) in
      record {
        height = w.height;
        now = upd ke.now e;
        state = w.state;
        calm = calm;
        top = top;
        logs-upto = lu;
        begins = beginning-after h card st.head st.bytes e asks new q ∙ ke.begins;
        since = omega arith;
        small = asks-stamp e asks;
        answers = λ t x le lt.
            ⊎_elim
            (λ (up : e.stamp ≤ t).
            let a = now-ends h new (upd ke.now e) w.height w.state t (omega arith)
            (all_map (λ d. d.stamp ≤ e.stamp) (λ d. d.stamp ≤ t) (λ d l. omega arith) w.state.logs lu) x lt in
            (a.0, a.1, ends-ext (upd ke.now e) (more g e t) t x 0 4294967296 a.0 (λ y. calm t y up) a.2))
            (λ (down : t < e.stamp).
            let o = ke.answers t x le lt in
            let a = walk-late h card new (upd ke.now e) e.stamp st.logs st.log_is w t x down o.0 o.1 in
            (a.0, a.1, ends-ext (g t) (more g e t) t x 0 4294967296 a.0 (λ y. sym (rw (lt-leb e.stamp t down))) (ends-alike (g t) t x 0 4294967296 o.0 a.0 a.2 o.2)))
            (le-or-lt e.stamp t);
      }

-- next: the smallest bib above k that stands as of t, or the end
pub keeps-next : (h : Head) (card : List ℕ) (g : ℕ → ℕ → Option Entry) (begin s : ℕ) → Keeps h card g begin s → (k t : ℕ) → begin ≤ t → k < 4294967296
    → NextIs (g t) k (next card k t)
unfolding next next_in
keeps-next h card g begin s ke k t le lt =
    let begins = ke.begins in
    rw (ke.state.head, le-ltb t (beginning card) (omega arith))
    (next-loop (g t) k t (walk h card t) (λ x small. ke.answers t x le small) 4294967296 k (omega arith) lt (omega arith) (λ y a b. absurd (omega arith)))
