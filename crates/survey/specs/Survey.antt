-- What the first b buckets hold: their largest stamp, and the highest of them with a nonzero byte.
use Rattle.std.specs.Prelude.{ℕ, ◌+◌, ◌*◌, List}
use Rattle.rules.specs.declared.Head.{Head}
use Rattle.rules.specs.Write.{top_stamp, top_used}
use Rattle.survey.specs.declared.Area.{Area}

unfoldable pub survey_of : Head → List ℕ → ℕ → Area
survey_of h card b = record { stamp = top_stamp card (1 + h.n) (b * h.m); used = top_used h card b }
