-- The card's bytes: sectors of sixteen, and what each of them says.
use Rattle.std.specs.Prelude.{ℕ, ◌+◌, ◌*◌, ◌/◌, ◌%◌, Bool, false, List, [], ◌∷◌, ◌++◌, get_or, take, drop, leb, eqb}
use Rattle.rules.specs.declared.Entry.{Entry}
use Rattle.rules.specs.declared.Sector.{Sector}
use Rattle.rules.specs.declared.Sector.TheVariants.{Blank, Held, Damaged}
use Rattle.rules.specs.Plain.{if, ◌&◌, ◌or◌, zeros}

-- "A sector is 16 bytes": those of sector i, and the card with other bytes there
unfoldable pub sector_at : List ℕ → ℕ → List ℕ
sector_at card i = take 16 (drop (16 * i) card)

unfoldable pub put : List ℕ → ℕ → List ℕ → List ℕ
put card i bs = take (16 * i) card ++ (bs ++ drop (16 * i + 16) card)

-- "numbers are little-endian": the number of 32 bits in the four bytes from o, and its bytes
unfoldable pub word : List ℕ → ℕ → ℕ
word s o = get_or s o 0 + 256 * get_or s (o + 1) 0 + 65536 * get_or s (o + 2) 0 + 16777216 * get_or s (o + 3) 0

unfoldable pub le4 : ℕ → List ℕ
le4 x = x % 256 ∷ x / 256 % 256 ∷ x / 65536 % 256 ∷ x / 16777216 ∷ []

-- "Byte 0 is the kind", "Byte 1 of a post sector becomes a status", bytes 2..3 are zero, "then key (4..7), stamp (8..11), value (12..15)"
unfoldable pub fields : List ℕ → Entry
fields s = record { kind = get_or s 0 0; status = get_or s 1 0; key = word s 4; stamp = word s 8; value = word s 12 }

unfoldable pub encode : Entry → List ℕ
encode e = e.kind ∷ e.status ∷ 0 ∷ 0 ∷ le4 e.key ++ (le4 e.stamp ++ le4 e.value)

-- "0 timed, 1 did not finish, 2 disqualified, 3 did not start. The time is 0 unless the status is 0"
unfoldable pub status_fits : ℕ → ℕ → Bool
status_fits status time = leb status 3 & (eqb status 0 or eqb time 0)

-- kinds 1 to 4 of the table
abbrev pub post_entry : ℕ → ℕ → ℕ → ℕ → Entry
post_entry bib at status time = record { kind = 1; status = status; key = bib; stamp = at; value = time }

abbrev pub strike_entry : ℕ → ℕ → Entry
strike_entry bib at = record { kind = 2; status = 0; key = bib; stamp = at; value = 0 }

abbrev pub index_entry : ℕ → ℕ → ℕ → Entry
index_entry key at bucket = record { kind = 3; status = 0; key = key; stamp = at; value = bucket }

abbrev pub root_entry : ℕ → ℕ → Entry
root_entry at bucket = record { kind = 4; status = 0; key = 0; stamp = at; value = bucket }

unfoldable pub is_post : Entry → Bool
is_post e = eqb e.kind 1

unfoldable pub is_strike : Entry → Bool
is_strike e = eqb e.kind 2

unfoldable pub is_data : Entry → Bool
is_data e = eqb e.kind 1 or eqb e.kind 2

unfoldable pub is_index : Entry → Bool
is_index e = eqb e.kind 3

unfoldable pub is_root : Entry → Bool
is_root e = eqb e.kind 4

-- the rows of the table, on a card of n buckets: a strike's bib is 0 only with stamp 0, its value 0; an index entry's bucket is 1..n;
-- a root entry's too, and its key 0
unfoldable pub other_row : ℕ → Entry → Bool
other_row n e =
    if (eqb e.kind 2) (eqb e.value 0 & (leb 1 e.key or eqb e.stamp 0))
    (if (eqb e.kind 3) (leb 1 e.value & leb e.value n)
    (if (eqb e.kind 4) (eqb e.key 0 & leb 1 e.value & leb e.value n)
    false))

-- a post's bib and stamp are from 1, and its status and time fit; byte 1 of any other is zero
unfoldable pub legal : ℕ → Entry → Bool
legal n e =
    if (eqb e.kind 1) (leb 1 e.key & leb 1 e.stamp & status_fits e.status e.value)
    (other_row n e & eqb e.status 0)

-- "Each sector read is either blank, an entry or damaged": blank is all zeros, and what breaks its row is damaged
unfoldable pub decode : ℕ → List ℕ → Sector
decode n s = if (zeros s) Blank (if (zeros (take 2 (drop 2 s)) & legal n (fields s)) (Held (fields s)) Damaged)
