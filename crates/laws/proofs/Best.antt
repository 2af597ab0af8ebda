-- The best entry of a list, in whatever order of preference: what one more at the end changes.
use mathlib.Core.Path.{◌≡◌, refl}
use mathlib.Core.Logic.{⊎_elim}
use mathlib.Core.Bool.{Bool, true, false}
use Rattle.std.specs.Prelude.{Option, None, Some}
use mathlib.Core.List.{List, [], ◌∷◌, ◌++◌}
use Rattle.rules.specs.declared.Entry.{Entry}
use Rattle.rules.specs.Plain.{if}
use Rattle.laws.proofs.Tools.{bool_cases}

-- q d p says that p is taken over d; what holds of two steps holds across them
pub record Order (q : Entry → Entry → Bool) : Type 0 where
  pub taken : (e d p : Entry) → q e d ≡ true → q d p ≡ true → q e p ≡ true
  pub left : (e d p : Entry) → q e d ≡ false → q d p ≡ false → q e p ≡ false

-- of an entry and the best of those behind it
abbrev pub better : (Entry → Entry → Bool) → Entry → Option Entry → Option Entry
better q e None = Some e
better q e (Some d) = if (q e d) (Some d) (Some e)

-- of the best so far and one more entry at the end
abbrev pub best : (Entry → Entry → Bool) → Option Entry → Entry → Entry
best q None p = p
best q (Some d) p = if (q d p) p d

some-if : (b : Bool) (p e : Entry) → if b (Some p) (Some e) ≡ Some (if b p e)
some-if true p e = refl
some-if false p e = refl

module _ (q : Entry → Entry → Bool) (order : Order q) where
  better-best : (e : Entry) (r : Option Entry) (p : Entry) → better q e (Some (best q r p)) ≡ Some (best q (better q e r) p)
  better-best e None p = some-if (q e p) p e
  better-best e (Some d) p =
      ⊎_elim
      (λ (ed : q e d ≡ true). ⊎_elim (λ (dp : q d p ≡ true). simp (ed, dp, order.taken e d p ed dp)) (λ (dp : q d p ≡ false). simp (ed, dp)) (bool_cases (q d p)))
      (λ (ed : q e d ≡ false). ⊎_elim (λ (dp : q d p ≡ true). simp (ed, dp) (some-if (q e p) p e)) (λ (dp : q d p ≡ false). simp (ed, dp, order.left e d p ed dp)) (bool_cases (q d p)))
      (bool_cases (q e d))

  pub best-snoc : (f : List Entry → Option Entry) → f [] ≡ None → ((e : Entry) (es : List Entry) → f (e ∷ es) ≡ better q e (f es))
      → (es : List Entry) (p : Entry) → f (es ++ (p ∷ [])) ≡ Some (best q (f es) p)
  best-snoc f start step [] p = rw (step, start)
  best-snoc f start step (e ∷ es) p = rw (step e (es ++ (p ∷ [])), step e es, best-snoc f start step es p) (better-best e (f es) p)
