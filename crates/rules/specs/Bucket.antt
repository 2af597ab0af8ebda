-- What a bucket or the log holds, and when it is damaged.
use Rattle.std.specs.Prelude.{ℕ, zero, suc, Bool, true, false, List, [], ◌∷◌, leb}
use Rattle.std.specs.Prelude.{Option, None, Some}
use Rattle.rules.specs.declared.Entry.{Entry}
use Rattle.rules.specs.declared.Head.{Head}
use Rattle.rules.specs.declared.Sector.{Sector}
use Rattle.rules.specs.declared.Sector.TheVariants.{Blank, Held, Damaged}
use Rattle.rules.specs.Plain.{if, ◌&◌, and_then, zeros, every}
use Rattle.rules.specs.Sector.{sector_at, decode, is_index, is_data, is_root}
use Rattle.rules.specs.Layout.{base}

-- a written sector stands before a run of entries, a blank one before blanks alone
unfoldable pub onto : Sector → Option (List Entry) → Option (List Entry)
onto Blank None = None
onto Blank (Some []) = Some []
onto Blank (Some (e ∷ es)) = None
onto (Held e) None = None
onto (Held e) (Some es) = Some (e ∷ es)
onto Damaged r = None

-- "its written sectors are a run from its start [..] then blanks": the entries of the c sectors from sector i, or none, which is damage
unfoldable pub run : ℕ → List ℕ → ℕ → ℕ → Option (List Entry)
run n card i zero = Some []
run n card i (suc c) = onto (decode n (sector_at card i)) (run n card (suc i) c)

-- "at least one"; "The log must hold only kind 4"
unfoldable pub sound_log : List Entry → Option (List Entry)
sound_log [] = None
sound_log (e ∷ es) = if (every is_root (e ∷ es)) (Some (e ∷ es)) None

unfoldable pub log : Head → List ℕ → Option (List Entry)
log h card = and_then (run h.n card 1 h.n) sound_log

-- e may stand in a bucket with the header h: kind 3 beside kind 3, kinds 1 and 2 beside these, and no key below the header's
unfoldable pub joins : Entry → Entry → Bool
joins h e = if (is_index h) (is_index e) (is_data e) & leb h.key e.key

-- "only kind 3 or only kinds 1 and 2, and no key below its first key, its header"
unfoldable pub sound_bucket : List Entry → Option (List Entry)
sound_bucket [] = None
sound_bucket (h ∷ es) = if (every (joins h) (h ∷ es)) (Some (h ∷ es)) None

unfoldable pub bucket : Head → List ℕ → ℕ → Option (List Entry)
bucket h card zero = None
bucket h card (suc b) = and_then (run h.n card (base h (suc b)) h.m) sound_bucket

-- the blank ones of the c sectors from sector i, in order; those of bucket b, and of the log
abbrev pub also : Bool → ℕ → List ℕ → List ℕ
also true i is = i ∷ is
also false i is = is

unfoldable pub blanks : List ℕ → ℕ → ℕ → List ℕ
blanks card i zero = []
blanks card i (suc c) = also (zeros (sector_at card i)) i (blanks card (suc i) c)

unfoldable pub blanks_of : Head → List ℕ → ℕ → List ℕ
blanks_of h card b = blanks card (base h b) h.m

unfoldable pub log_blanks : Head → List ℕ → List ℕ
log_blanks h card = blanks card 1 h.n

-- none of the c sectors from sector i has a nonzero byte
unfoldable pub unwritten : List ℕ → ℕ → ℕ → Bool
unwritten card i zero = true
unwritten card i (suc c) = zeros (sector_at card i) & unwritten card (suc i) c
