-- History: everything ever said of one bib.
use Rattle.std.specs.Prelude.{ℕ, zero, suc, ◌+◌, ◌*◌, Bool, List, [], ◌∷◌, length, leb, ltb, eqb}
use Rattle.std.specs.Prelude.{Option, None, Some}
use Rattle.rules.specs.declared.Entry.{Entry}
use Rattle.rules.specs.declared.Head.{Head}
use Rattle.rules.specs.declared.Sector.{Sector}
use Rattle.rules.specs.declared.Sector.TheVariants.{Blank, Held, Damaged}
use Rattle.rules.specs.Plain.{if, ◌&◌, only}
use Rattle.rules.specs.Sector.{sector_at, decode, is_data, is_root}
use Rattle.rules.specs.Layout.{head_of, beginning}
use Rattle.rules.specs.Records.{Roll, roll}

-- "4 for a damaged or kind 4 sector anywhere in the bucket area": a sector and the entries behind it, or none, which is damage
unfoldable pub join : Sector → Option (List Entry) → Option (List Entry)
join Blank r = r
join (Held e) None = None
join (Held e) (Some es) = if (is_root e) None (Some (e ∷ es))
join Damaged r = None

-- the entries of c sectors from sector i on, blanks left out
unfoldable pub entries : ℕ → List ℕ → ℕ → ℕ → Option (List Entry)
entries n card i zero = Some []
entries n card i (suc c) = join (decode n (sector_at card i)) (entries n card (suc i) c)

-- all that buckets 1..N hold, in the order of their sectors
unfoldable pub area : Head → List ℕ → Option (List Entry)
area h card = entries h.n card (1 + h.n) (h.n * h.m)

-- "each once, by rising stamp"; "if a foreign card has one stamp twice for the bib, the lowest bucket's first such entry is given"
unfoldable pub enter : Entry → List Entry → List Entry
enter e [] = e ∷ []
enter e (d ∷ ds) = if (ltb e.stamp d.stamp) (e ∷ d ∷ ds) (if (eqb e.stamp d.stamp) (e ∷ ds) (d ∷ enter e ds))

unfoldable pub by_stamp : List Entry → List Entry
by_stamp [] = []
by_stamp (e ∷ es) = enter e (by_stamp es)

-- "every distinct entry for a bib stamped up to t on this card, strikes included"
unfoldable pub says_of : ℕ → ℕ → Entry → Bool
says_of bib t e = is_data e & eqb e.key bib & leb e.stamp t

-- "15 if the buffer is too short, nothing written", the buffer having so many whole sectors
unfoldable pub fitting : ℕ → List Entry → Roll
fitting places es = if (leb (length es) places) (roll 0 es) (roll 15 [])

unfoldable pub history_on : ℕ → ℕ → ℕ → Option (List Entry) → Roll
history_on bib t places None = roll 4 []
history_on bib t places (Some es) = fitting places (by_stamp (only (says_of bib t) es))

-- "1, 2, 13, then 4 [..], then 15"
unfoldable pub history_in : List ℕ → ℕ → ℕ → ℕ → Option Head → Roll
history_in card bib t places None = roll 1 []
history_in card bib t places (Some h) =
    if (eqb bib 0) (roll 2 []) (if (ltb t (beginning card)) (roll 13 []) (history_on bib t places (area h card)))

-- the entries to be laid down in a buffer of so many sectors, or the number of a refusal
unfoldable pub history : List ℕ → ℕ → ℕ → ℕ → Roll
history card bib t places = history_in card bib t places (head_of card)
