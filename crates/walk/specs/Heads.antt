-- A card that is read, as the code hands it on.
use Rattle.std.specs.Prelude.{◌≡◌, List, ℕ, None, Some, Result, MatchResult}
use Rattle.rules.specs.declared.refusal.Refusal.{Refusal}
use Rattle.rules.specs.declared.refusal.Refusal.TheVariants.{Layout}
use Rattle.rules.specs.Layout.{head_of}
use Rattle.bucket.specs.declared.Card.{Card}

-- the bytes with the geometry that their head gives, or that they are no card of the layout
abbrev pub Reads : List ℕ → Result Card Refusal → Type 0
Reads bytes r = MatchResult r (λ c. (head_of bytes ≡ Some c.head) × (c.bytes.now ≡ bytes)) (λ e. (e ≡ Layout) × (head_of bytes ≡ None))
