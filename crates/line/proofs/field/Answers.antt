-- `line::field` reads a name and its number as the rules do.
use Rattle.line.proofs.Names.{field-missing, field-number}
use Rattle.line.proofs.field.Goals as goal

pub returns-in_err-strip_prefix : goal.returns-in_err-strip_prefix
returns-in_err-strip_prefix c = rw c.from_residual.ensures (field-missing _ _ c.in_err-strip_prefix.ensures.cases)

pub returns : goal.returns
returns c =
    let p = c.in_ok-strip_prefix.ensures.cases in
    rw (field-number _ _ _ p.0 p.1) c.number.ensures
