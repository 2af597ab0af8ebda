-- Each way out of a look is a clause of the rule.
use mathlib.Core.Path.{◌≡◌, sym, ap, ◌∙◌}
use Rattle.std.proofs.lemmas.Result.{err_from_is_err_and}
use Rattle.rules.specs.Answers.{result_of}
use Rattle.scan.specs.Look.{told_of}
use Rattle.walk.proofs.Walks.{look-broken, look-zero, look-early, look-told}
use Rattle.walk.proofs.looked.Goals as goal

pub returns-in_err-card : goal.returns-in_err-card
unfolding result_of
returns-in_err-card c =
    let p = err_from_is_err_and c.from_residual.result c.from_residual.ensures.1 in
    ap result_of p.1 ∙ rw (p.2, c.in_err-card.ensures.0) (look-broken c.args.card.now _ _ c.in_err-card.ensures.1)

pub returns-then-bib-eq0 : goal.returns-then-bib-eq0
unfolding result_of
returns-then-bib-eq0 c = look-zero c.args.card.now _ _ _ c.in_ok-card.ensures.0 c.if-bib-eq0.true

pub returns-in_err-as_of : goal.returns-in_err-as_of
unfolding result_of
returns-in_err-as_of c =
    let p = err_from_is_err_and c.from_residual-in_err-as_of.result c.from_residual-in_err-as_of.ensures.1 in
    ap result_of p.1 ∙ rw (p.2, c.in_err-as_of.ensures.0)
    (look-early c.args.card.now _ _ _ c.in_ok-card.ensures.0 c.if-bib-eq0.false (rw c.in_ok-card.ensures.1 at c.in_err-as_of.ensures.1))

pub returns-in_err-trip : goal.returns-in_err-trip
unfolding result_of told_of
returns-in_err-trip c =
    let p = err_from_is_err_and c.from_residual-in_err-trip.result c.from_residual-in_err-trip.ensures.1 in
    let le = rw c.in_ok-card.ensures.1 at c.in_ok-as_of.ensures in
    let walked = rw c.in_ok-card.ensures.1 at c.walk.ensures in
    ap result_of p.1 ∙ rw p.2 (rw c.in_err-trip.was at (look-told c.args.card.now _ _ _ c.in_ok-card.ensures.0 _ c.if-bib-eq0.false le walked))

pub returns : goal.returns
unfolding result_of told_of
returns c =
    let le = rw c.in_ok-card.ensures.1 at c.in_ok-as_of.ensures in
    let walked = rw c.in_ok-card.ensures.1 at c.walk.ensures in
    c.tell.ensures ∙ (rw c.in_ok-trip.was at (look-told c.args.card.now _ _ _ c.in_ok-card.ensures.0 _ c.if-bib-eq0.false le walked))
