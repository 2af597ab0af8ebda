-- What a card says of itself.
use mathlib.Core.Bool.{true}
use mathlib.Core.Path.{◌≡◌, refl, sym, ◌∙◌}
use mathlib.Core.List.{List}
use Rattle.std.specs.Prelude.{Option, None, Some}
use Prim.Native.Nat.{ℕ, ◌≤◌, ◌<◌}
use native.Mathlib.Omega.{arith}
use lib.Dec.{leb}
use borrow.Author.Tests.{le-leb, lt-leb, ne_eqb}
use Rattle.rules.specs.declared.Entry.{Entry}
use Rattle.rules.specs.declared.Head.{Head}
use Rattle.rules.specs.Answers.{refused}
use Rattle.rules.specs.Layout.{head_of}
use Rattle.rules.specs.Sector.{post_entry, status_fits}
use Rattle.rules.specs.Walk.{Visit, walk}
use Rattle.rules.specs.Write.{Plan, refuse, accept, refuse_if, plan_answer, plan_at, plan_for, plan, post, stamp_on, latest}
use Rattle.rules.specs.State.{state_in, state}
use Rattle.rules.specs.Calls.{called, planned, post_call}
use Rattle.laws.proofs.Numbers.{Refuses, at-refuses}
use Rattle.state.proofs.States.{with-head}
use Rattle.promises.specs.Calls.{card_after}
use Rattle.promises.specs.Promises.{StateTellsTheTruth, StateTellsTheNext, StateIsSettled}
use Rattle.promises.proofs.Begun.{begun-starts}
use Rattle.promises.proofs.Truth.{calls-keep}

pub state-tells-the-truth : StateTellsTheTruth
state-tells-the-truth h begin rs card b calls s =
    let ke = (calls-keep h begin rs card (begun-starts h begin rs card b) calls s).0 in
    let d = card_after card calls in
    sym (with-head d h ke.state.head begin _ _ (sym ke.begins) (sym ke.top) refl)

-- past the stamp no plan is refused with 3
other-number : (p : Plan) → Refuses (λ c. c ≡ 3 → ⊥) p → (plan_answer p).code ≡ 3 → ⊥
unfolding plan_answer refused
other-number (refuse c) n z = n z
other-number (accept new) n z = omega arith

at-not-three : (h : Head) (card : List ℕ) (e : Entry) (w : Option (List Visit)) → (plan_answer (plan_at h card e w)).code ≡ 3 → ⊥
at-not-three h card e w = other-number (plan_at h card e w) (at-refuses (λ c. c ≡ 3 → ⊥) (λ z. omega arith) (λ z. omega arith) (λ z. omega arith) h card e w)

-- a post on a card with a head
module _ (card : List ℕ) (h : Head) (q : head_of card ≡ Some h) (e : Entry) (key : 1 ≤ e.key) (fits : status_fits e.status e.value ≡ true) where
  plan-is : plan card e ≡ refuse_if (leb e.stamp (stamp_on h card)) 3 (plan_at h card e (walk h card latest e.key))
  unfolding plan plan_for refuse_if
  plan-is = rw (q, ne_eqb e.key 0 (λ z. omega arith), fits)

  three : e.stamp ≤ stamp_on h card → (plan_answer (plan card e)).code ≡ 3
  unfolding refuse_if plan_answer refused
  three le = rw (plan-is, le-leb e.stamp (stamp_on h card) le)

  not_three : stamp_on h card < e.stamp → (plan_answer (plan card e)).code ≡ 3 → ⊥
  unfolding refuse_if
  not_three lt = rw (plan-is, lt-leb e.stamp (stamp_on h card) lt) (at-not-three h card e (walk h card latest e.key))

abbrev Tells : List ℕ → ℕ → ℕ → ℕ → ℕ → ℕ → Type 0
Tells card bib at status time last =
    (at ≤ last → (called card (post_call bib at status time)).answer.code ≡ 3) × (last < at → (called card (post_call bib at status time)).answer.code ≡ 3 → ⊥)

in-tells : (card : List ℕ) (o : Option Head) → head_of card ≡ o → (state_in card o).code ≡ 0 → (bib at status time : ℕ) → 1 ≤ bib → status_fits status time ≡ true
    → Tells card bib at status time (state_in card o).last
unfolding state_in called planned post
in-tells card None q z bib at status time lo fits = absurd (omega arith)
in-tells card (Some h) q z bib at status time lo fits = (three card h q (post_entry bib at status time) lo fits, not_three card h q (post_entry bib at status time) lo fits)

pub state-tells-the-next : StateTellsTheNext
unfolding state
state-tells-the-next card z bib at status time lo fits = in-tells card (head_of card) refl z bib at status time lo fits

pub state-is-settled : StateIsSettled
state-is-settled card one two a b = a ∙ sym b
