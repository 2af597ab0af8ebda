-- A name and its number at the start of a line, and what follows them.
use Rattle.std.specs.Prelude.{◌≡◌, ℕ, ◌+◌, ◌*◌, ◌-◌, ◌≤◌, true, false, List, [], ◌∷◌, map, leb, MatchOption}
use Rattle.std.specs.Prelude.{Option as RustOption}
use Rattle.std.specs.Prelude.{Option, None, Some}
use denote.Ref.{Bor}
use Rattle.rules.specs.Plain.{if, and_then}
use Rattle.rules.specs.Bench.{behind, is_digit, digits, beyond, number}

-- a number and what follows it
pub record Piece : Type 0 where
  pub value : ℕ
  pub rest : List ℕ

abbrev pub piece : ℕ → List ℕ → Piece
piece x rest = record { value = x; rest = rest }

unfoldable pub number_in : List ℕ → Option Piece
number_in line = and_then (number (digits line)) (λ x. Some (piece x (beyond line)))

unfoldable pub field_in : List ℕ → List ℕ → Option Piece
field_in name line = and_then (behind name line) number_in

-- the number that goes on from acc, given up as soon as it is past 4294967295
unfoldable pub run_on : ℕ → List ℕ → Option Piece
run_on acc [] = Some (piece acc [])
run_on acc (x ∷ xs) =
    elim (is_digit x) [ true ↦ if (leb (acc * 10 + (x - 48)) 4294967295) (run_on (acc * 10 + (x - 48)) xs) None | false ↦ Some (piece acc (x ∷ xs)) ]

-- the line is the digit d and what follows it
abbrev pub Begins : List ℕ → ℕ → List ℕ → Type 0
Begins line d rest = (line ≡ (48 + d) ∷ rest) × (d ≤ 9)

-- what was read is this piece, or there is none
abbrev pub Reads : RustOption (ℕ × Bor (List ℕ)) → Option Piece → Type 0
Reads read p = MatchOption read (p ≡ None) (λ r. p ≡ Some (piece r.0 r.1.now))

abbrev pub texts : List (Bor (List ℕ)) → List (List ℕ)
texts names = map (λ (name : Bor (List ℕ)). name.now) names
