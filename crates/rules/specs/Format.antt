-- Format: a blank card becomes one with no result.
use Rattle.std.specs.Prelude.{ℕ, zero, suc, ◌-◌, ◌/◌, not, List, [], ◌∷◌, length, eqb}
use Rattle.rules.specs.declared.Entry.{Entry}
use Rattle.rules.specs.declared.Head.{Head}
use Rattle.rules.specs.Plain.{◌&◌, zeros}
use Rattle.rules.specs.Sector.{put, encode, strike_entry, index_entry, root_entry}
use Rattle.rules.specs.Layout.{limits, size_of, head_bytes}
use Rattle.rules.specs.Rewrite.{into}
use Rattle.rules.specs.Write.{Plan, accept, refuse_if}

unfoldable pub or_else : ℕ → ℕ → ℕ
or_else zero d = d
or_else (suc x) d = suc x

-- "A td of 0 shall mean floor(m/2)"; "a TI of 0 means m - floor(m/8); the head stores the number meant"
unfoldable pub meant : ℕ → ℕ → ℕ → ℕ → Head
meant n m td ti = record { m = m; td = or_else td (m / 2); ti = or_else ti (m - m / 8); n = n }

-- "the dummy: a strike, key 0"
abbrev pub dummy : Entry
dummy = strike_entry 0 0

-- "Format writes root entry (1, stamp 0), bucket 1 with index entry 0 -> 2, and bucket 2 with the dummy [..] all with stamp 0"
unfoldable pub formatted : Head → List ℕ → List ℕ
formatted h card =
    into h 2 (dummy ∷ []) (into h 1 (index_entry 0 0 2 ∷ []) (put (put card 0 (head_bytes h 0)) 1 (encode (root_entry 0 1))))

-- 8: "a limit broken or length not as above"; 9: "some byte of the card nonzero"
unfoldable pub format_for : List ℕ → Head → Plan
format_for card h =
    refuse_if (not (limits h & eqb (length card) (size_of h))) 8 (refuse_if (not (zeros card)) 9 (accept (formatted h card)))

unfoldable pub format : List ℕ → ℕ → ℕ → ℕ → ℕ → Plan
format card n m td ti = format_for card (meant n m td ti)
