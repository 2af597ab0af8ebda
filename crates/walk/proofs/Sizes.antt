-- The size that a head within the limits asks for does not wrap, and is at least a sector.
use mathlib.Core.Path.{◌≡◌, refl}
use Rattle.std.specs.Prelude.{Option, None, Some}
use mathlib.Core.List.{List}
use Prim.Native.Nat.{ℕ, ◌+◌, ◌*◌, ◌≤◌, ◌<◌}
use native.Mathlib.Nat.{mul-le-mul_left}
use native.Mathlib.Omega.{arith}
use lib.ListN.{length}
use Rattle.rules.specs.declared.Head.{Head}
use Rattle.rules.specs.Layout.{size_of, head_of}
use Rattle.laws.proofs.Heads.{head-facts}

pub size_fits : (n m : ℕ) → m ≤ 32 → n ≤ 4096 → n * (m + 1) ≤ 135168
size_fits n m hm hn =
    let most : m + 1 ≤ 33 = omega arith in
    let wide : n * (m + 1) ≤ n * 33 = mul-le-mul_left n most in
    omega arith

-- a card of fewer bytes than a sector has no head
not_short : (card : List ℕ) (h : Head) → length card < 16 → head_of card ≡ Some h → ⊥
unfolding size_of
not_short card h short q = let long = (head-facts card h q).1 in omega arith

pub short_none : (card : List ℕ) → length card < 16 → head_of card ≡ None
short_none card short = by-case (head_of card) refl
  where
    by-case : (o : Option Head) → head_of card ≡ o → o ≡ None
    by-case None q = refl
    by-case (Some h) q = absurd (not_short card h short q)
