-- Look: what stands for a bib as of a stamp.
use Rattle.std.specs.Prelude.{ℕ, List, length, ltb, eqb}
use Rattle.std.specs.Prelude.{Option, None, Some}
use Rattle.rules.specs.declared.Head.{Head}
use Rattle.rules.specs.declared.Answer.{Answer}
use Rattle.rules.specs.Plain.{if}
use Rattle.rules.specs.Layout.{head_of, beginning}
use Rattle.rules.specs.Walk.{Visit, walk, stands_on}
use Rattle.rules.specs.Answers.{refused, sheet}

-- 4 for damage; "Reads is the number of buckets on this path, data bucket included"
unfoldable pub look_on : ℕ → ℕ → Option (List Visit) → Answer
look_on bib t None = refused 4
look_on bib t (Some p) = sheet bib (length p) (stands_on t bib p)

-- 1, then 2 for bib 0, then 13 before the beginning, then 4
unfoldable pub look_in : ℕ → ℕ → List ℕ → Option Head → Answer
look_in bib t card None = refused 1
look_in bib t card (Some h) = if (eqb bib 0) (refused 2) (if (ltb t (beginning card)) (refused 13) (look_on bib t (walk h card t bib)))

unfoldable pub look : List ℕ → ℕ → ℕ → Answer
look card bib t = look_in bib t card (head_of card)
