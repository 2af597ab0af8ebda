-- The walk with its counter, and the look, as the loops run.
use Rattle.std.specs.Prelude.{ℕ, zero, suc, ◌+◌, ◌*◌, Option, None, Some, Result, Ok, Err, List, ltb, eqb, take, drop}
use Rattle.rules.specs.declared.Head.{Head}
use Rattle.rules.specs.declared.Answer.{Answer}
use Rattle.rules.specs.Answers.{refused, sheet}
use Rattle.rules.specs.Layout.{base, head_of, beginning}
use Rattle.rules.specs.Plain.{if}
use Rattle.rules.specs.Walk.{standing}
use Rattle.rules.specs.declared.Entry.{Entry}
use Rattle.rules.specs.declared.refusal.Damage.{Damage}
use Rattle.scan.specs.declared.Way.{Way}
use Rattle.scan.specs.declared.Way.TheVariants.{Down, End}
use Rattle.scan.specs.declared.Trip.{Trip}
use Rattle.scan.specs.Scan.{Found, damaged, sectors, search, root_in, search_log}

-- bucket b of the card, which k was followed to
unfoldable pub search_at : Head → List ℕ → ℕ → ℕ → ℕ → ℕ → Result Way Damage
search_at h card x t zero k = damaged
search_at h card x t (suc b) k = search k x t (sectors h.n card (base h (suc b)) h.m)

-- the bytes of bucket b, as a part of the card
unfoldable pub part_of : Head → List ℕ → ℕ → List ℕ
part_of h card b = take (16 * h.m) (drop (16 * base h b) card)

-- the bytes of the log
unfoldable pub log_of : Head → List ℕ → List ℕ
log_of h card = take (16 * h.n) (drop 16 card)

abbrev pub trip : ℕ → Option Entry → Trip
trip r c = record { reads = r; copy = c }

-- where r buckets have been read, this one too
unfoldable pub onward : Result Way Damage → ℕ → (ℕ → ℕ → Result Trip Damage) → Result Trip Damage
onward (Err d) r on = damaged
onward (Ok (Down e)) r on = on e.value e.key
onward (Ok (End copy)) r on = Ok (trip r copy)

-- from bucket b on, f buckets at most, r having been read
unfoldable pub walk_scan : Head → List ℕ → ℕ → ℕ → ℕ → ℕ → ℕ → ℕ → Result Trip Damage
walk_scan h card x t zero r b k = damaged
walk_scan h card x t (suc f) r b k = onward (search_at h card x t b k) (r + 1) (walk_scan h card x t f (r + 1))

-- from the log's entry on
unfoldable pub trip_from : Head → List ℕ → ℕ → ℕ → Result Entry Damage → Result Trip Damage
trip_from h card x t (Err d) = damaged
trip_from h card x t (Ok e) = walk_scan h card x t h.n 0 e.value 0

-- the answer to a look
unfoldable pub told : ℕ → ℕ → Found → Answer
told bib r (Err d) = refused 4
told bib r (Ok None) = sheet bib r None
told bib r (Ok (Some e)) = sheet bib r (standing (Some e))

unfoldable pub told_of : ℕ → Result Trip Damage → Answer
told_of bib (Err d) = refused 4
told_of bib (Ok w) = told bib w.reads (Ok w.copy)

unfoldable pub look_scan_in : ℕ → ℕ → List ℕ → Option Head → Answer
look_scan_in bib t card None = refused 1
look_scan_in bib t card (Some h) =
    if (eqb bib 0) (refused 2) (if (ltb t (beginning card)) (refused 13) (told_of bib (trip_from h card bib t (root_in (search_log t (sectors h.n card 1 h.n))))))

unfoldable pub look_scan : List ℕ → ℕ → ℕ → Answer
look_scan card bib t = look_scan_in bib t card (head_of card)
