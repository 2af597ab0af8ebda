-- A card of the length that its head asks for, the head within the limits.
use Rattle.std.specs.Prelude.{◌≡◌, List, ℕ, length}
use Rattle.rules.specs.declared.Head.{Head}
use Rattle.rules.specs.Layout.{size_of}
use Rattle.laws.proofs.Heads.{Lim}

pub record Shape (h : Head) (card : List ℕ) : Type 0 where
  pub lim : Lim h
  pub long : size_of h ≡ length card
