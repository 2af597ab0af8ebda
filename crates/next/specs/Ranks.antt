-- The number that next goes by.
use Rattle.std.specs.Prelude.{ℕ, ◌+◌, ◌*◌, ◌-◌, leb, ltb}
use Rattle.rules.specs.declared.Entry.{Entry}
use Rattle.rules.specs.Plain.{if}

-- the key, turned so that the least is the largest, and the place of an entry as one number, where it counts
unfoldable pub rank_above : ℕ → ℕ → Entry → ℕ → ℕ
rank_above x t e place = if (leb e.stamp t) (if (ltb x e.key) (64 * (4294967295 - e.key) + place) 0) 0
