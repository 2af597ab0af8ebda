-- The card's layout: the head in sector 0, its limits, the length, and where the log and the buckets lie.
use Rattle.std.specs.Prelude.{ℕ, ◌+◌, ◌*◌, ◌-◌, Bool, List, [], ◌∷◌, ◌++◌, length, get_or, eqb}
use Rattle.std.specs.Prelude.{Option, None, Some}
use Rattle.rules.specs.declared.Head.{Head}
use Rattle.rules.specs.Plain.{if, ◌&◌, within}
use Rattle.rules.specs.Sector.{sector_at, word, le4}

-- "m 4..32, N 2..4096, TD 2..m, TI 4..m"
unfoldable pub limits : Head → Bool
limits h = within 4 h.m 32 & within 2 h.n 4096 & within 2 h.td h.m & within 4 h.ti h.m

-- "The length is 16 x (1 + N x (m + 1))"
unfoldable pub size_of : Head → ℕ
size_of h = 16 * (1 + h.n * (h.m + 1))

-- "byte 1 = m (sectors in a bucket), 2 = TD, 3 = TI, 4..7 = N (buckets)"
unfoldable pub head_fields : List ℕ → Head
head_fields s = record { m = get_or s 1 0; td = get_or s 2 0; ti = get_or s 3 0; n = word s 4 }

-- the sixteen bytes of a head; bytes 8..11, which format leaves zero, are the card's beginning
unfoldable pub head_bytes : Head → ℕ → List ℕ
head_bytes h begin = 6 ∷ h.m ∷ h.td ∷ h.ti ∷ le4 h.n ++ (le4 begin ++ (0 ∷ 0 ∷ 0 ∷ 0 ∷ []))

-- the head that sector 0 holds, kind 6 and 12..15 zero, or none where it or the length breaks the layout
unfoldable pub head_in : List ℕ → ℕ → Option Head
head_in s len =
    if (eqb (get_or s 0 0) 6 & eqb (word s 12) 0 & limits (head_fields s) & eqb len (size_of (head_fields s)))
    (Some (head_fields s))
    None

unfoldable pub head_of : List ℕ → Option Head
head_of card = head_in (sector_at card 0) (length card)

-- "head bytes 8..11 carry t as the card's beginning"
unfoldable pub beginning : List ℕ → ℕ
beginning card = word (sector_at card 0) 8

-- "Then N sectors of root log, then buckets 1..N of m sectors": where bucket b starts, in sectors
unfoldable pub base : Head → ℕ → ℕ
base h b = 1 + h.n + h.m * (b - 1)
