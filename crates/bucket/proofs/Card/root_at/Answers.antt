-- `bucket::Card::root_at` meets its contract: the entry that the log has to have.
use mathlib.Core.Path.{sym, ap, ◌∙◌}
use Rattle.std.proofs.lemmas.Result.{err_from_is_err_and}
use Rattle.scan.specs.Scan.{root_in}
use Rattle.bucket.proofs.Places.{root-or}
use Rattle.bucket.proofs.Card.root_at.Goals as goal

pub returns-in_err-find_root : goal.returns-in_err-find_root
unfolding root_in
returns-in_err-find_root c =
    let p = err_from_is_err_and c.from_residual.result c.from_residual.ensures.1 in
    p.1 ∙ ap root_in (sym c.in_err-find_root.was ∙ c.find_root.ensures)

pub returns : goal.returns
returns c = c.ok_or.ensures.value ∙ root-or _ ∙ ap root_in (sym c.in_ok-find_root.was ∙ c.find_root.ensures)
