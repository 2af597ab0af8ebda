-- What `records` gives of a scroll's records in a row, and its tally.
use Rattle.std.specs.Prelude.{ℕ, List, [], ltb, eqb, length}
use Rattle.std.specs.Prelude.{Option, None, Some, Result, Ok, Err}
use Rattle.rules.specs.declared.refusal.Refusal.{Refusal}
use Rattle.rules.specs.Refusals.{number}
use Rattle.rules.specs.declared.Head.{Head}
use Rattle.rules.specs.Layout.{head_of, beginning}
use Rattle.rules.specs.Plain.{if}
use Rattle.rules.specs.Records.{Roll, roll, rolled}
use Rattle.scroll.specs.declared.Tally.{Tally}
use Rattle.scroll.specs.declared.roll.Cut.{Cut}

-- "A refusal gives zeros beside its number"
unfoldable pub given : Roll → Roll
given r = if (eqb r.code 0) r (roll r.code [])

-- what `records` gives: 1 and then 13 ahead of all else, also where no record fits
unfoldable pub records_in : List ℕ → ℕ → ℕ → ℕ → Option Head → Roll
records_in card at places bib None = roll 1 []
records_in card at places bib (Some h) = if (ltb at (beginning card)) (roll 13 []) (given (rolled card at places bib))

unfoldable pub records_of : List ℕ → ℕ → ℕ → ℕ → Roll
records_of card at places bib = records_in card at places bib (head_of card)

abbrev pub tally_of : Roll → Tally
tally_of r = record { code = r.code; count = length r.records }

-- the tally of so many records, or of a refusal
abbrev pub tally_from : Result ℕ Refusal → Tally
tally_from (Ok n) = record { code = 0; count = n }
tally_from (Err r) = record { code = number r; count = 0 }

-- the tally of so many records, or of a refusal and of those that stood before it
abbrev pub tally_met : Result ℕ Cut → Tally
tally_met (Ok n) = record { code = 0; count = n }
tally_met (Err cut) = record { code = number cut.refusal; count = cut.count }
