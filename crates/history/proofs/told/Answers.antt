-- `history::told` meets its contract: each way out is a clause of the rule.
use mathlib.Core.Path.{◌≡◌, refl, ap, sym, ◌∙◌}
use Prim.Native.Nat.{ℕ, ◌/◌}
use native.Mathlib.Omega.{arith}
use lib.ListN.{length}
use Rattle.std.specs.Prelude.{Some, Result, Ok, Err}
use Rattle.rules.specs.declared.refusal.Refusal.{Refusal}
use Rattle.std.proofs.lemmas.Result.{err_from_is_err_and}
use Rattle.rules.specs.declared.refusal.Refusal.TheVariants.{NoBib, Damage}
use Rattle.rules.specs.History.{history}
use Rattle.gather.specs.Pages.{said, firsts}
use Rattle.gather.proofs.Paging.{page-held, page-none}
use Rattle.scroll.proofs.Rolls.{refused-roll}
use Rattle.history.specs.Told.{fit_after, row_of}
use Rattle.history.proofs.Tells.{Tells, told-broken, told-zero, told-early, told_fit, room-fit}
use Rattle.history.proofs.told.Goals as goal
use Rattle.history.proofs.told.Goals.{In_ok-as_of, In_ok-first, In_ok-total}

pub returns-in_err-card : goal.returns-in_err-card
returns-in_err-card c =
    let a = c.args in
    let p = err_from_is_err_and c.from_residual.result c.from_residual.ensures.1 in
    refused-roll _ a.out.now _ _ p.1 (rw (p.2, c.in_err-card.ensures.0) (told-broken a.card.now a.bib a.at _ c.in_err-card.ensures.1))

pub returns-then-bib-eq0 : goal.returns-then-bib-eq0
returns-then-bib-eq0 c = let a = c.args in refused-roll _ a.out.now NoBib _ refl (told-zero a.card.now a.bib a.at _ _ c.in_ok-card.ensures.0 c.if-bib-eq0.true)

pub returns-in_err-as_of : goal.returns-in_err-as_of
returns-in_err-as_of c =
    let a = c.args in
    let p = err_from_is_err_and c.from_residual-in_err-as_of.result c.from_residual-in_err-as_of.ensures.1 in
    let early = rw c.in_ok-card.ensures.1 at c.in_err-as_of.ensures.1 in
    refused-roll _ a.out.now _ _ p.1 (rw (p.2, c.in_err-as_of.ensures.0) (told-early a.card.now a.bib a.at _ _ c.in_ok-card.ensures.0 c.if-bib-eq0.false early))

-- what goes with what fits, once the card, the bib and the stamp are judged
fit-told : (q : In_ok-as_of) → let a = q.args in (r : Result ℕ Refusal) → r ≡ fit_after (length a.out.now / 16) 0 (said q.in_ok-card.card.head a.card.now a.bib a.at 0)
    → Tells (said q.in_ok-card.card.head a.card.now a.bib a.at 0) r (history a.card.now a.bib a.at (length a.out.now / 16))
fit-told q =
    let a = q.args in
    told_fit a.card.now a.bib a.at (length a.out.now / 16) _ q.in_ok-card.ensures.0 q.if-bib-eq0.false (rw q.in_ok-card.ensures.1 at q.in_ok-as_of.ensures)

pub returns-in_err-first : goal.returns-in_err-first
unfolding fit_after
returns-in_err-first c =
    let p = err_from_is_err_and c.from_residual-in_err-first.result c.from_residual-in_err-first.ensures.1 in
    let none = page-none c.page_from.result _ _ (rw c.in_ok-card.ensures.1 at c.page_from.ensures) c.in_err-first.was in
    refused-roll _ c.args.out.now _ _ p.1 (rw p.2 (fit-told (goal.at.returns-in_err-first c).In_ok-as_of (Err Damage) (ap (fit_after _ 0) (sym none))))

-- the first page, and what is said from there on
first-page : (q : In_ok-first) → let a = q.args in let card = q.in_ok-card.card in Some q.in_ok-first.first ≡ firsts (said card.head card.bytes.now a.bib a.at 0)
first-page q = page-held q.page_from.result _ _ q.page_from.ensures q.in_ok-first.was

pub counted-requires : goal.counted-requires
counted-requires c = (omega arith, first-page (goal.at.counted-requires c).In_ok-first)

pub returns-in_err-total : goal.returns-in_err-total
returns-in_err-total c =
    let p = err_from_is_err_and c.from_residual-in_err-total.result c.from_residual-in_err-total.ensures.1 in
    refused-roll _ c.args.out.now _ _ p.1
    (rw p.2 (fit-told (goal.at.returns-in_err-total c).In_ok-as_of (Err c.in_err-total.field-0.0) (sym c.in_err-total.was ∙ (rw c.in_ok-card.ensures.1 at c.counted.ensures))))

pub lay-requires : goal.lay-requires
lay-requires c =
    let a = c.args in
    (first-page (goal.at.lay-requires c).In_ok-first, room-fit (length a.out.now / 16) (length a.out.now) (omega arith) _ _ (sym c.in_ok-total.was ∙ c.counted.ensures))

pub returns : goal.returns
unfolding row_of
returns c =
    let a = c.args in
    let told = fit-told (goal.at.returns c).In_ok-as_of (Ok c.in_ok-total.total) (sym c.in_ok-total.was ∙ (rw c.in_ok-card.ensures.1 at c.counted.ensures)) in
    rw (told.2, told.3) (record { value = refl; out_after = (rw c.in_ok-card.ensures.1 at c.lay.ensures) ∙ ap (row_of a.out.now 0) told.1 })
