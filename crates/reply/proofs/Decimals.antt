-- The decimal of the rules is the library's.
use mathlib.Core.Path.{◌≡◌, sym, ◌∙◌}
use mathlib.Core.List.{[], append-nil}
use Prim.Native.Nat.{ℕ, suc, ◌<◌, ◌^◌}
use native.Mathlib.Omega.{arith}
use borrow.Author.Tests.{lt-ltb, le-ltb}
use Rattle.std.specs.Fmt as shown
use Rattle.std.proofs.lemmas.Fmt.{PrependsLastDigit, decimal_from_prepends, length-decimal-le_succ}
use Rattle.rules.specs.Bench.{decimal_on, decimal}

last-first : PrependsLastDigit decimal_on
unfolding decimal_on
last-first = record {
  one = λ k n acc h. rw (lt-ltb n 10 h, decimal_on);
  more = λ k n acc h. rw (le-ltb n 10 h, decimal_on);
}

pub decimal_shown : (n : ℕ) → n < 2 ^ 64 → shown.decimal n ≡ decimal n
unfolding decimal
decimal_shown n h = sym (decimal_from_prepends decimal_on last-first (suc n) n [] h (omega (arith, length-decimal-le_succ n h)) ∙ append-nil (shown.decimal n))
