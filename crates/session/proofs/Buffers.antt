-- The card at the buffer's start, written and back.
use mathlib.Core.Path.{◌≡◌, refl, ap, ◌∙◌}
use mathlib.Core.Bool.{true}
use mathlib.Core.List.{List, ◌++◌}
use Prim.Native.Nat.{ℕ, zero, suc, ◌≤◌}
use native.Mathlib.Omega.{arith}
use lib.ListN.{length, take, drop, replicate, length-append, length-drop, length-replicate, length-take}
use lib.Seq.{take_at, drop_at}
use Rattle.rules.specs.Plain.{zeros}
use Rattle.laws.proofs.Zeros.{zero-take, zero-eq}
use Rattle.session.specs.Cards.{Room}

zeros-replicate : (n : ℕ) → zeros (replicate n 0) ≡ true
unfolding zeros
zeros-replicate zero = refl
zeros-replicate (suc n) = zeros-replicate n

module _ (buffer new : List ℕ) (len : ℕ) (same : length new ≡ len) where
  pub front-is : take len (new ++ drop len buffer) ≡ new
  front-is = take_at new (drop len buffer) len same

  -- the zeros behind the card are those that were there
  pub front-back : length buffer ≡ 65536 → len ≤ 65536 → zeros (drop len buffer) ≡ true → Room (new ++ drop len buffer) len
  front-back long inside blank = record {
    long = length-append new (drop len buffer) ∙ omega (arith, length-drop len buffer);
    inside = inside;
    blank = ap zeros (drop_at new (drop len buffer) len same) ∙ blank;
  }

-- as many bytes as fit, of a buffer with no card
pub blank-front : (buffer : List ℕ) (len : ℕ) → Room buffer 0 → len ≤ 65536 → take len buffer ≡ replicate len 0
blank-front buffer len room inside =
    zero-eq (take len buffer) (replicate len 0) (zero-take len buffer room.blank) (zeros-replicate len) (simp (length-take, length-replicate) (omega (arith, room.long)))

pub blank-buffer : (n : ℕ) → n ≡ 65536 → Room (replicate n 0) 0
blank-buffer n e = record { long = length-replicate n 0 ∙ e; inside = omega arith; blank = zeros-replicate n }
