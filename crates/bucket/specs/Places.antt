-- What a scan keeps from turn to turn: the place of an entry, one more than its sector's, and 0 for none. And the decisions it goes by.
use Rattle.std.specs.Prelude.{Option, None, Some, List, Bool, ℕ, zero, suc, ◌+◌, ◌*◌, leb, eqb}
use Rattle.rules.specs.declared.Entry.{Entry}
use Rattle.rules.specs.Plain.{if, ◌&◌}
use Rattle.rules.specs.Sector.{sector_at, fields, is_index, is_data}

unfoldable pub found_at : List ℕ → ℕ → Option Entry
found_at part zero = None
found_at part (suc i) = Some (fields (sector_at part i))

-- its key; 0, which no key is below, for none
unfoldable pub key_at : List ℕ → ℕ → ℕ
key_at part zero = 0
key_at part (suc i) = (fields (sector_at part i)).key

unfoldable pub data_fits : ℕ → Entry → Bool
data_fits header e = is_data e & leb header e.key

unfoldable pub index_fits : ℕ → Entry → Bool
index_fits header e = is_index e & leb header e.key

unfoldable pub is_copy : ℕ → ℕ → Entry → Bool
is_copy x t e = leb e.stamp t & eqb e.key x

-- the key and the place of an entry as one number, where it counts
unfoldable pub rank : ℕ → ℕ → Entry → ℕ → ℕ
rank x t e place = if (leb e.stamp t) (if (leb e.key x) (64 * e.key + place) 0) 0
