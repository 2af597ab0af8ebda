-- The bench's card in its buffer.
use Rattle.std.specs.Prelude.{ℕ, ◌≤◌, ◌≡◌, List, true, length, drop}
use Rattle.rules.specs.Plain.{zeros}

-- a card of this length, and zeros up to the buffer's end
pub record Room (buffer : List ℕ) (len : ℕ) : Type 0 where
  pub long : length buffer ≡ 65536
  pub inside : len ≤ 65536
  pub blank : zeros (drop len buffer) ≡ true
