-- A journal read through in one pass, as its loops run.
use Rattle.std.specs.Prelude.{ℕ, ◌+◌, Bool, true, false, not, List, [], ◌∷◌, leb, ltb, eqb, length}
use Rattle.std.specs.Prelude.{Option, None, Some, Result, Ok, Err}
use Rattle.rules.specs.declared.Entry.{Entry}
use Rattle.rules.specs.declared.Sector.{Sector}
use Rattle.rules.specs.declared.Sector.TheVariants.{Blank, Held, Damaged}
use Rattle.rules.specs.declared.refusal.Refusal.{Refusal}
use Rattle.rules.specs.declared.refusal.Refusal.TheVariants.{Layout, Stamp, NothingStands, Full}
use Rattle.rules.specs.Journal.{stamp_in}
use Rattle.rules.specs.Plain.{if, ◌&◌, last_of}
use Rattle.rules.specs.Sector.{is_data, is_post}
use Rattle.rules.specs.Walk.{left, copy_of}
use Rattle.sector.specs.Flaws.{checked}
use Rattle.scan.specs.Scan.{all_blank, pick}
use Rattle.journal.specs.declared.Pass.{Pass}

-- an entry that may come after the stamp `last`
unfoldable pub follows : ℕ → Entry → Bool
follows last e = is_data e & ltb last e.stamp

-- a run of entries, each of which may come after the one before it, and then blanks
unfoldable pub risen : ℕ → List Sector → Bool
risen last [] = true
risen last (Blank ∷ ss) = all_blank ss
risen last (Held e ∷ ss) = follows last e & risen e.stamp ss
risen last (Damaged ∷ ss) = false

abbrev pub pass : ℕ → ℕ → Option Entry → Pass
pass used last copy = record { used = used; last = last; copy = copy }

-- the entries passed, the last one's stamp and the last copy of x stamped t or earlier, up to the first sector that holds none
unfoldable pub passed : ℕ → ℕ → List Sector → ℕ → ℕ → Option Entry → Pass
passed x t [] used last copy = pass used last copy
passed x t (Blank ∷ ss) used last copy = pass used last copy
passed x t (Held e ∷ ss) used last copy = passed x t ss (used + 1) e.stamp (pick false x t copy e)
passed x t (Damaged ∷ ss) used last copy = pass used last copy

-- a slice that is no journal
abbrev pub broken : Result Pass Refusal
broken = Err Layout

unfoldable pub read_scan : ℕ → ℕ → List Sector → ℕ → ℕ → Option Entry → Result Pass Refusal
read_scan x t ss used last copy = if (risen last ss) (Ok (passed x t ss used last copy)) broken

-- what a pass says of the entries of a journal
unfoldable pub pass_of : ℕ → ℕ → List Entry → Pass
pass_of x t es = pass (length es) (stamp_in (last_of es)) (copy_of x (left t es))

unfoldable pub reading_of : ℕ → ℕ → Option (List Entry) → Result Pass Refusal
reading_of x t None = broken
reading_of x t (Some es) = Ok (pass_of x t es)

-- an entry that stands is a post
unfoldable pub stands : Option Entry → Bool
stands None = false
stands (Some e) = is_post e

-- of two checks the first that refuses
unfoldable pub first_of : Result (Unit {0}) Refusal → Result (Unit {0}) Refusal → Result (Unit {0}) Refusal
first_of (Err r) rest = Err r
first_of (Ok u) rest = rest

-- what a sound journal of so many sectors has against an entry
unfoldable pub admitted : Entry → Pass → ℕ → Result (Unit {0}) Refusal
admitted e p count =
    first_of (checked e)
    (if (leb e.stamp p.last) (Err Stamp)
    (if (not (is_post e) & not (stands p.copy)) (Err NothingStands)
    (if (eqb p.used count) (Err Full) (Ok tt))))

-- stamped t or earlier, its bib above x and not above the lowest so far
unfoldable pub lower : ℕ → ℕ → ℕ → Entry → Bool
lower x t low e = leb e.stamp t & ltb x e.key & leb e.key low
