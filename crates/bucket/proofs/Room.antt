-- Where bucket b lies, in numbers that the code computes: nothing wraps, and the part ends on the card.
use mathlib.Core.Path.{◌≡◌}
use mathlib.Core.List.{List}
use Rattle.std.specs.Prelude.{Some}
use Prim.Native.Nat.{ℕ, ◌+◌, ◌*◌, ◌-◌, ◌≤◌}
use native.Mathlib.Omega.{arith}
use lib.ListN.{length}
use Rattle.rules.specs.declared.Head.{Head}
use Rattle.rules.specs.Layout.{base, head_of}
use Rattle.laws.proofs.Heads.{head-facts, bucket-fits, log-fits, bucket-low}
use Rattle.bucket.specs.Shapes.{Shape}

-- the card whose head was read has the shape
pub shape_of : (card : List ℕ) (h : Head) → head_of card ≡ Some h → Shape h card
shape_of card h q = let f = head-facts card h q in record { lim = f.0; long = f.1 }

pub record Room (h : Head) (card : List ℕ) (b : ℕ) : Type 0 where
  pub low : h.m * (b - 1) ≤ 131072
  pub inside : 16 * (1 + h.n + h.m * (b - 1)) + 16 * h.m ≤ length card

pub room : (h : Head) (card : List ℕ) (b : ℕ) → Shape h card → 1 ≤ b → b ≤ h.n → Room h card b
unfolding base
room h card b shape one most =
    let lim = shape.lim in
    let fits : 16 * (1 + h.n + h.m * (b - 1) + h.m) ≤ length card = bucket-fits h card b shape.long one most in
    record { low = bucket-low h.m h.n b lim.m32 lim.n4096 most; inside = omega arith }

pub log-room : (h : Head) (card : List ℕ) → Shape h card → 16 + 16 * h.n ≤ length card
log-room h card shape = let fits = log-fits h card shape.long in omega arith
