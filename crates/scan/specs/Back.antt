-- The pass over a data bucket from its last sector down: what its loops have, and what they give.
use Rattle.std.specs.Prelude.{ℕ, zero, suc, Bool, true, false, None, Some, Ok, List, [], ◌∷◌}
use Rattle.rules.specs.declared.Entry.{Entry}
use Rattle.rules.specs.declared.Sector.{Sector}
use Rattle.rules.specs.declared.Sector.TheVariants.{Blank, Held, Damaged}
use Rattle.rules.specs.Plain.{if, ◌&◌}
use Rattle.rules.specs.Sector.{decode, sector_at}
use Rattle.scan.specs.Scan.{Found, damaged}

-- the first c sectors of some bytes, the last of them first
unfoldable pub last_first : ℕ → List ℕ → ℕ → List Sector
last_first n part zero = []
last_first n part (suc c) = decode n (sector_at part c) ∷ last_first n part c

-- the blanks in front passed over
unfoldable pub written : List Sector → List Sector
written [] = []
written (Blank ∷ ss) = written ss
written (Held e ∷ ss) = Held e ∷ ss
written (Damaged ∷ ss) = Damaged ∷ ss

-- an entry that passes the test
unfoldable pub holds : (Entry → Bool) → Sector → Bool
holds ok Blank = false
holds ok (Held e) = ok e
holds ok Damaged = false

-- every sector holds one
unfoldable pub sound : (Entry → Bool) → List Sector → Bool
sound ok [] = true
sound ok (s ∷ ss) = holds ok s & sound ok ss

-- the first entry wanted decides; what is left after it is only judged
unfoldable pub first_in : (Entry → Bool) → (Entry → Bool) → List Sector → Found
first_in ok want [] = Ok None
first_in ok want (Blank ∷ ss) = damaged
first_in ok want (Held e ∷ ss) = if (ok e) (if (want e) (if (sound ok ss) (Ok (Some e)) damaged) (first_in ok want ss)) damaged
first_in ok want (Damaged ∷ ss) = damaged
