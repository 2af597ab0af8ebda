-- `survey::blank` meets its contract: a nonzero byte in front decides.
use borrow.Author.Tests.{ne_eqb}
use Rattle.survey.proofs.Stamps.{first-written}
use Rattle.survey.proofs.blank.Goals as goal

pub returns-else-part-eq0 : goal.returns-else-part-eq0
returns-else-part-eq0 c = rw (ne_eqb _ _ c.if-part-eq0.false) (first-written _ c.if-part-eq0.false)
