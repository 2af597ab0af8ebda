-- What a call answers: the number, bib, the record's stamp, its status, its time, buckets read.
-- 0 accepted, found, none or end; 8, 9 format; 1 layout; 2 bib 0; 3 stamp; 4 damage; 5 nothing stands; 6 full; 7 panel; 10 bench line; 13 as of a stamp before the card's beginning; 14 status.
use Rattle.std.specs.Prelude.{ℕ, Option, None, Some, Result, Ok, Err}
use Rattle.rules.specs.declared.Entry.{Entry}
use Rattle.rules.specs.declared.Answer.{Answer}
use Rattle.rules.specs.declared.refusal.Refusal.{Refusal}
use Rattle.rules.specs.Refusals.{number}

abbrev pub answer : ℕ → ℕ → ℕ → ℕ → ℕ → ℕ → Answer
answer code bib at status time reads = record { code = code; bib = bib; at = at; status = status; time = time; reads = reads }

-- "A refusal gives zeros beside its number"
unfoldable pub refused : ℕ → Answer
refused c = answer c 0 0 0 0 0

-- "None is bib, stamp 0, time 0 and the reads", with status 0
unfoldable pub sheet : ℕ → ℕ → Option Entry → Answer
sheet bib reads None = answer 0 bib 0 0 0 reads
sheet bib reads (Some e) = answer 0 bib e.stamp e.status e.value reads

-- "The end is bib 0"
unfoldable pub ended : Answer
ended = answer 0 0 0 0 0 0

-- the answer, or the refusal
unfoldable pub result_of : Result Answer Refusal → Answer
result_of (Ok a) = a
result_of (Err r) = refused (number r)
