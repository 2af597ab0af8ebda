-- `scroll::page` meets its contract: the records above a bib as of a stamp, laid down as post sectors, as many as fit.
use mathlib.Core.Path.{ap, ◌∙◌}
use Rattle.std.proofs.lemmas.Result.{err_from_is_err_and}
use Rattle.scroll.specs.Records.{tally_from}
use Rattle.scroll.proofs.Rolls.{page-all, page-none, tally-all}
use Rattle.scroll.proofs.page.Goals as goal

pub returns-in_err-count-clause-value : goal.returns-in_err-count-clause-value
returns-in_err-count-clause-value c =
    let a = c.args in
    let p = err_from_is_err_and c.from_residual.result c.from_residual.ensures.1 in
    ap tally_from p.1 ∙ rw p.2 (page-none a.card.now a.at _ a.bib a.out.now _ c.in_err-count.ensures.value).0

pub returns-in_err-count-clause-out_after : goal.returns-in_err-count-clause-out_after
returns-in_err-count-clause-out_after c = let a = c.args in (page-none a.card.now a.at _ a.bib a.out.now _ c.in_err-count.ensures.value).1

pub returns-clause-value : goal.returns-clause-value
returns-clause-value c = tally-all _ _ c.in_ok-count.ensures.value

pub returns-clause-out_after : goal.returns-clause-out_after
returns-clause-out_after c =
    let a = c.args in
    page-all a.card.now a.at _ a.bib a.out.now _ (tally-all _ _ c.in_ok-count.ensures.value) _ c.lay.ensures
