-- Each way out of next is a clause of the rule.
use mathlib.Core.Path.{sym, ap, ◌∙◌}
use Rattle.std.proofs.lemmas.Result.{err_from_is_err_and}
use Rattle.next.specs.Found.{told}
use Rattle.next.proofs.Rounds.{next-broken, next-early, next-lost, next-rounds}
use Rattle.next.proofs.following.Goals as goal

pub returns-in_err-card-clause-answer : goal.returns-in_err-card-clause-answer
unfolding told
returns-in_err-card-clause-answer c =
    let p = err_from_is_err_and c.from_residual.result c.from_residual.ensures.1 in
    ap told p.1 ∙ rw (p.2, c.in_err-card.ensures.0) (next-broken c.args.card.now _ _ c.in_err-card.ensures.1)

pub returns-in_err-as_of-clause-answer : goal.returns-in_err-as_of-clause-answer
unfolding told
returns-in_err-as_of-clause-answer c =
    let p = err_from_is_err_and c.from_residual-in_err-as_of.result c.from_residual-in_err-as_of.ensures.1 in
    ap told p.1 ∙ rw (p.2, c.in_err-as_of.ensures.0)
    (next-early c.args.card.now c.args.bib _ _ c.in_ok-card.ensures.0 (rw c.in_ok-card.ensures.1 at c.in_err-as_of.ensures.1))

pub returns-in_err-root-clause-answer : goal.returns-in_err-root-clause-answer
unfolding told
returns-in_err-root-clause-answer c =
    let p = err_from_is_err_and c.from_residual-in_err-root.result c.from_residual-in_err-root.ensures.1 in
    let le = rw c.in_ok-card.ensures.1 at c.in_ok-as_of.ensures in
    let lost = rw c.in_ok-card.ensures.1 at (sym c.root_at.ensures ∙ c.in_err-root.was) in
    ap told p.1 ∙ rw p.2 (next-lost c.args.card.now c.args.bib _ _ c.in_ok-card.ensures.0 le _ lost)

pub returns-clause-answer : goal.returns-clause-answer
returns-clause-answer c =
    let le = rw c.in_ok-card.ensures.1 at c.in_ok-as_of.ensures in
    (rw c.in_ok-card.ensures.1 at c.walk_on.ensures.answer) ∙ next-rounds c.args.card.now _ _ _ c.in_ok-card.ensures.0 le

pub walk_on-requires : goal.walk_on-requires
walk_on-requires c = sym c.root_at.ensures ∙ c.in_ok-root.was
