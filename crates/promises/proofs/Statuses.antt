-- A result is a time or a status, never both.
use mathlib.Core.Path.{◌≡◌, refl}
use mathlib.Core.Logic.{⊎_elim}
use mathlib.Core.Bool.{Bool, true, false}
use Rattle.std.specs.Prelude.{Option, None, Some}
use mathlib.Core.List.{List}
use Prim.Native.Nat.{ℕ, ◌≤◌, ◌<◌}
use native.Mathlib.Omega.{arith}
use lib.Dec.{ltb, eqb}
use lib.ListN.{length}
use borrow.Author.Tests.{ne_eqb}
use Rattle.rules.specs.declared.Answer.{Answer}
use Rattle.rules.specs.declared.Entry.{Entry}
use Rattle.rules.specs.declared.Head.{Head}
use Rattle.rules.specs.Answers.{refused, sheet}
use Rattle.rules.specs.Calls.{called, planned}
use Rattle.rules.specs.Layout.{head_of, beginning}
use Rattle.rules.specs.Look.{look, look_in, look_on}
use Rattle.rules.specs.Next.{next}
use Rattle.rules.specs.Plain.{if}
use Rattle.rules.specs.Sector.{post_entry, status_fits}
use Rattle.rules.specs.State.{state, state_in}
use Rattle.rules.specs.Walk.{Visit, walk, stands_on}
use Rattle.rules.specs.Write.{plan, plan_for, plan_answer, refuse_if, post}
use Rattle.laws.proofs.Bytes.{Bytes, get-bytes}
use Rattle.laws.proofs.Tells.{Rec, given, walk-stands, next-tells}
use Rattle.promises.specs.Promises.{StatusFitsItsTime, MisfitIsRefused}

abbrev Fit : Answer → Type 0
Fit a = status_fits a.status a.time ≡ true

refused-fits : (c : ℕ) → Fit (refused c)
unfolding refused status_fits
refused-fits c = refl

sheet-fits : (bib reads : ℕ) (r : Option Entry) → ((e : Entry) → r ≡ Some e → status_fits e.status e.value ≡ true) → Fit (sheet bib reads r)
unfolding sheet status_fits
sheet-fits bib reads None f = refl
sheet-fits bib reads (Some e) f = f e refl

on_fits : (h : Head) (card : List ℕ) → Bytes card → (bib t : ℕ) (w : Option (List Visit)) → walk h card t bib ≡ w → Fit (look_on bib t w)
unfolding look_on
on_fits h card by bib t None q = refused-fits 4
on_fits h card by bib t (Some p) q = sheet-fits bib (length p) (stands_on t bib p) (λ e s. (walk-stands h card by t bib p q e s).5)

look-fits : (card : List ℕ) → Bytes card → (bib t : ℕ) → Fit (look card bib t)
unfolding look look_in
look-fits card by bib t = go (head_of card)
  where
    late : (h : Head) (b : Bool) → Fit (if b (refused 13) (look_on bib t (walk h card t bib)))
    late h true = refused-fits 13
    late h false = on_fits h card by bib t (walk h card t bib) refl

    known : (h : Head) (b : Bool) → Fit (if b (refused 2) (if (ltb t (beginning card)) (refused 13) (look_on bib t (walk h card t bib))))
    known h true = refused-fits 2
    known h false = late h (ltb t (beginning card))

    go : (o : Option Head) → Fit (look_in bib t card o)
    go None = refused-fits 1
    go (Some h) = known h (eqb bib 0)

next_fits : (card : List ℕ) → Bytes card → (bib t : ℕ) → Fit (next card bib t)
unfolding status_fits
next_fits card by bib t =
    ⊎_elim
    (λ (z : ((next card bib t).bib ≡ 0) × ((next card bib t).status ≡ 0)). rw z.1)
    (λ (s : (e : Entry) × (next card bib t ≡ given (Some e)) × Rec t e × (bib < e.key)). rw s.1 s.2.5)
    (next-tells card by t bib)

pub status-fits-its-time : StatusFitsItsTime
status-fits-its-time card by bib t = let bytes = get-bytes card by in (look-fits card bytes bib t, next_fits card bytes bib t)

-- 14 on a card with a head
misfit : (card : List ℕ) (e : Entry) (o : Option Head) → (state_in card o).code ≡ 0 → 1 ≤ e.key → status_fits e.status e.value ≡ false
    → plan_answer (plan_for card e o) ≡ refused 14
unfolding state_in plan_for refuse_if plan_answer
misfit card e None z key f = absurd (omega arith)
misfit card e (Some h) z key f = rw (ne_eqb e.key 0 (λ n. omega arith), f)

pub misfit-is-refused : MisfitIsRefused
unfolding state called planned post plan
misfit-is-refused card z bib at status time key f = misfit card (post_entry bib at status time) (head_of card) z key f
