-- A sector as the writer lays it down: four bytes, and three numbers.
use Rattle.std.specs.Prelude.{ℕ, ◌<◌, List, ◌++◌}
use Rattle.rules.specs.declared.Entry.{Entry}
use Rattle.rules.specs.Sector.{le4}

unfoldable pub four_words : List ℕ → ℕ → ℕ → ℕ → List ℕ
four_words first key stamp value = first ++ (le4 key ++ (le4 stamp ++ le4 value))

-- kind and status are a byte each
abbrev pub Narrow : Entry → Type 0
Narrow e = (e.kind < 256) × (e.status < 256)
