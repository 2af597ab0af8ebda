-- Entries laid down in a row.
use Rattle.std.specs.Prelude.{ℕ, ◌+◌, List, [], ◌∷◌}
use Rattle.rules.specs.declared.Entry.{Entry}
use Rattle.rules.specs.Sector.{put, encode}

-- each entry put at its sector, from sector i on; every other byte stays
abbrev pub puts : List ℕ → ℕ → List Entry → List ℕ
puts card i [] = card
puts card i (e ∷ es) = puts (put card i (encode e)) (i + 1) es
