-- Small tools: to go by cases on a test.
use mathlib.Core.Path.{◌≡◌, refl, sym, subst}
use mathlib.Core.Logic.{◌⊎◌, inl, inr, ⊎_elim}
use mathlib.Core.Bool.{Bool, true, false}
use Prim.Native.Nat.{ℕ, ◌≤◌, ◌<◌}
use lib.Dec.{leb, eqb}
use Rattle.std.specs.Prelude.{Option, None, Some, Ok, Err, ok_or}
use native.Mathlib.Omega.{arith}
use borrow.Author.Tests.{leb-true, leb-false, eqb-true, eqb-false}
use Rattle.rules.specs.Plain.{if, ◌&◌, and_then}

pub bool_cases : (b : Bool) → (b ≡ true) ⊎ (b ≡ false)
bool_cases true = inl refl
bool_cases false = inr refl

pub le-or-lt : (a b : ℕ) → (a ≤ b) ⊎ (b < a)
le-or-lt a b = ⊎_elim (λ e. inl (leb-true a b e)) (λ e. inr (leb-false a b e)) (bool_cases (leb a b))

pub eq-or-ne : (a b : ℕ) → (a ≡ b) ⊎ (a ≡ b → ⊥)
eq-or-ne a b = ⊎_elim (λ e. inl (eqb-true a b e)) (λ e. inr (eqb-false a b e)) (bool_cases (eqb a b))

abbrev pub IsTrue : Bool → Type 0
IsTrue true = Unit {0}
IsTrue false = ⊥

pub true-false : true ≡ false → ⊥
true-false e = subst IsTrue e tt

pub false-true : false ≡ true → ⊥
false-true e = subst IsTrue (sym e) tt

pub and-true : (a b : Bool) → a & b ≡ true → (a ≡ true) × (b ≡ true)
and-true true b e = (refl, e)
and-true false b e = (e, absurd (false-true e))

pub true-and : {a b : Bool} → a ≡ true → b ≡ true → a & b ≡ true
true-and p q = simp (p, q)

-- what a guarded value is
pub guard-true : {A : Type 0} (b : Bool) (x y : A) → if b (Some x) None ≡ Some y → (b ≡ true) × (x ≡ y)
guard-true true x y e = (refl, cc)
guard-true false x y e = (cc, cc)

pub none-some : {A : Type 0} {x : A} → None ≡ Some x → ⊥
none-some e = let z : ◌≡◌ {A = ℕ} 0 1 = cc in omega arith

pub then-inv : {A B : Type 0} (a : Option A) (f : A → Option B) (b : B) → and_then a f ≡ Some b → (x : A) × (a ≡ Some x) × (f x ≡ Some b)
then-inv None f b e = absurd (none-some e)
then-inv (Some x) f b e = (x, refl, e)

-- an Option that was asked for as a Result
pub or-ok : {A E : Type 0} (o : Option A) (r : E) (x : A) → ok_or o r ≡ Ok x → o ≡ Some x
or-ok None r x q = let z : ◌≡◌ {A = ℕ} 0 1 = cc in absurd (omega arith)
or-ok (Some y) r x q = cc

pub or-err : {A E : Type 0} (o : Option A) (r e : E) → ok_or o r ≡ Err e → (e ≡ r) × (o ≡ None)
or-err None r e q = (cc, refl)
or-err (Some y) r e q = let z : ◌≡◌ {A = ℕ} 0 1 = cc in absurd (omega arith)
