-- `line::digit` gives the digit that begins the line.
use mathlib.Core.List.{List, [], ◌∷◌}
use mathlib.Core.Path.{◌≡◌, refl}
use Prim.Native.Nat.{ℕ}
use native.Mathlib.Omega.{arith}
use lib.ListN.{length}
use Rattle.rules.specs.Bench.{digits}
use Rattle.line.proofs.Digits.{no-digit}
use Rattle.line.proofs.digit.Goals as goal

none-left : (line : List ℕ) → length line ≡ 0 → digits line ≡ []
unfolding digits
none-left [] h = refl
none-left (x ∷ xs) h = absurd (omega arith)

pub returns-in_err-first : goal.returns-in_err-first
returns-in_err-first c = rw c.from_residual.ensures (none-left _ c.in_err-first.ensures.cases)

pub returns-in_err-value : goal.returns-in_err-value
returns-in_err-value c =
    rw c.from_residual-in_err-value.ensures (no-digit _ _ _ c.in_ok-first.ensures.cases.0 (λ low high. omega (arith, c.in_err-value.ensures.cases)))
