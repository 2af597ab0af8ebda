-- A name at the start of a line: what stripping it says of the field.
use mathlib.Core.Path.{◌≡◌, refl, sym}
use mathlib.Core.Logic.{⊎_elim}
use mathlib.Core.Bool.{true, false}
use mathlib.Core.List.{List, [], ◌∷◌}
use Rattle.std.specs.Prelude.{None, Some}
use Prim.Native.Nat.{ℕ}
use lib.ListN.{length, take, drop}
use lib.Dec.{eqb}
use lib.Pointwise.{pointwise}
use borrow.Author.Tests.{eq-eqb, ne_eqb}
use Rattle.rules.specs.Bench.{behind}
use Rattle.laws.proofs.Tools.{eq-or-ne, true-false, false-true}
use Rattle.line.specs.Fields.{number_in, field_in}

name-missing : (name line : List ℕ) → pointwise eqb (take (length name) line) name ≡ false → behind name line ≡ None
unfolding behind
name-missing [] line h = absurd (true-false h)
name-missing (x ∷ name) [] h = refl
name-missing (x ∷ name) (y ∷ line) h =
    ⊎_elim
    (λ (e : x ≡ y). rw (eq-eqb x y e, behind) (name-missing name line (rw (eq-eqb y x (sym e)) at h)))
    (λ (ne : x ≡ y → ⊥). rw (ne_eqb x y ne, behind))
    (eq-or-ne x y)

name-found : (name line : List ℕ) → pointwise eqb (take (length name) line) name ≡ true → behind name line ≡ Some (drop (length name) line)
unfolding behind
name-found [] line h = refl
name-found (x ∷ name) [] h = absurd (false-true h)
name-found (x ∷ name) (y ∷ line) h =
    ⊎_elim
    (λ (e : x ≡ y). rw (eq-eqb x y e, behind) (name-found name line (rw (eq-eqb y x (sym e)) at h)))
    (λ (ne : x ≡ y → ⊥). absurd (false-true (rw (ne_eqb y x (λ (q : y ≡ x). ne (sym q))) at h)))
    (eq-or-ne x y)

module _ (name line : List ℕ) where
  pub field-missing : pointwise eqb (take (length name) line) name ≡ false → field_in name line ≡ None
  unfolding field_in
  field-missing h = rw (name-missing name line h)

  pub field-number : (rest : List ℕ) → pointwise eqb (take (length name) line) name ≡ true → rest ≡ drop (length name) line → field_in name line ≡ number_in rest
  unfolding field_in
  field-number rest h e = rw (name-found name line h, e)
