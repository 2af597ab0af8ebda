-- The walk of a write as its loop runs: the buckets met are put in front of those above them.
use Rattle.std.specs.Prelude.{ℕ, zero, suc, ◌≤◌, ◌<◌, ◌≡◌, Option, Result, Ok, Err, List, [], ◌∷◌, length, drop}
use Rattle.rules.specs.declared.Entry.{Entry}
use Rattle.rules.specs.declared.Head.{Head}
use Rattle.rules.specs.declared.refusal.Damage.{Damage}
use Rattle.rules.specs.Write.{latest}
use Rattle.scan.specs.declared.Way.{Way}
use Rattle.scan.specs.declared.Way.TheVariants.{Down, End}
use Rattle.scan.specs.Scan.{damaged}
use Rattle.scan.specs.Look.{search_at}
use Rattle.trail.specs.declared.Trail.{Trail}
use Rattle.trail.specs.declared.Astray.{Astray}
use Rattle.trail.specs.declared.Astray.TheVariants.{Damaged, Deep}

-- the path, lowest level first, and the last copy of the key in its data bucket
pub record Track : Type 0 where
  pub path : List ℕ
  pub copy : Option Entry

abbrev pub track : List ℕ → Option Entry → Track
track p c = record { path = p; copy = c }

unfoldable pub track_on : Result Way Damage → List ℕ → (ℕ → ℕ → Result Track Damage) → Result Track Damage
track_on (Err d) met on = damaged
track_on (Ok (Down e)) met on = on e.value e.key
track_on (Ok (End copy)) met on = Ok (track met copy)

-- from bucket b on, f buckets at most, those above it having been met
unfoldable pub track_scan : Head → List ℕ → ℕ → ℕ → List ℕ → ℕ → ℕ → Result Track Damage
track_scan h card x zero above b k = damaged
track_scan h card x (suc f) above b k = track_on (search_at h card x latest b k) (b ∷ above) (track_scan h card x f (b ∷ above))

-- from the root on; 0 is none
unfoldable pub track_from : Head → List ℕ → ℕ → ℕ → Result Track Damage
track_from h card x zero = damaged
track_from h card x (suc b) = track_scan h card x h.n [] (suc b) 0

-- the lent path, of so many places, holds the track from the start on; or there is none; or the walk has more buckets than places, of n at most
abbrev pub Ends : Result Trail Astray → ℕ → ℕ → List ℕ → Result Track Damage → Type 0
Ends (Ok w) places n path t = (w.start ≤ places) × (Ok (track (drop w.start path) w.copy) ≡ t)
Ends (Err Damaged) places n path t = damaged ≡ t
Ends (Err Deep) places n path t = places < n

pub record Went (r : Result Trail Astray) (places n : ℕ) (path : List ℕ) (t : Result Track Damage) : Type 0 where
  pub long : length path ≡ places
  pub ends : Ends r places n path t
