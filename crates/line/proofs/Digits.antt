-- The digits of a number: a turn of the loop over them, and that the loop gives the number of the rules.
use mathlib.Core.Path.{◌≡◌, refl, sym, ap, ◌∙◌}
use mathlib.Core.Logic.{⊎_elim}
use mathlib.Core.Bool.{true, false}
use mathlib.Core.List.{List, [], ◌∷◌}
use Rattle.std.specs.Prelude.{None, Some}
use Prim.Native.Nat.{ℕ, ◌+◌, ◌*◌, ◌-◌, ◌≤◌, ◌<◌}
use native.Mathlib.Omega.{arith}
use lib.Dec.{leb}
use borrow.Author.Tests.{le-leb, lt-leb, ne_eqb}
use Rattle.std.specs.Prelude.{Option as RustOption, None, Some, MatchOption, is_some}
use denote.Ref.{Bor}
use Rattle.rules.specs.Plain.{if, and_then, within}
use Rattle.rules.specs.Bench.{is_digit, digits, beyond, number_on, up_to32, number}
use Rattle.laws.proofs.Tools.{bool_cases, le-or-lt, true-false, false-true}
use Rattle.line.specs.Fields.{Begins, piece, number_in, run_on}

-- the tests of a byte
digit-true : (d : ℕ) → d ≤ 9 → is_digit (48 + d) ≡ true
unfolding is_digit within
digit-true d h = rw (le-leb 48 (48 + d) (omega arith), le-leb (48 + d) 57 (omega arith))

digit-false : (x : ℕ) → (48 ≤ x → x ≤ 57 → 58 ≤ x) → is_digit x ≡ false
unfolding is_digit within
digit-false x h =
    ⊎_elim
    (λ (low : 48 ≤ x). let high : 57 < x = ⊎_elim (λ (k : x ≤ 57). h low k) (λ (k : 57 < x). k) (le-or-lt x 57) in rw (le-leb 48 x low, lt-leb x 57 high))
    (λ (low : x < 48). rw (lt-leb 48 x low))
    (le-or-lt 48 x)

pub no-digit : (line rest : List ℕ) (x : ℕ) → line ≡ x ∷ rest → (48 ≤ x → x ≤ 57 → 58 ≤ x) → digits line ≡ []
unfolding digits
no-digit line rest x e h = rw (e, digit-false x h, digits)

module _ (d : ℕ) (rest : List ℕ) (h : d ≤ 9) where
  digits-first : digits ((48 + d) ∷ rest) ≡ (48 + d) ∷ digits rest
  unfolding digits
  digits-first = rw (digit-true d h, digits)

  run_on-first : (acc : ℕ) → run_on acc ((48 + d) ∷ rest) ≡ if (leb (acc * 10 + d) 4294967295) (run_on (acc * 10 + d) rest) None
  unfolding run_on
  run_on-first acc = let e : 48 + d - 48 ≡ d = omega arith in rw (digit-true d h, run_on, e)

-- the number ends where no digit follows, and goes on where one does
pub run-end : (acc : ℕ) (line : List ℕ) → digits line ≡ [] → run_on acc line ≡ Some (piece acc line)
unfolding digits run_on
run-end acc [] e = refl
run-end acc (x ∷ xs) e =
    ⊎_elim
    (λ (t : is_digit x ≡ true). absurd (let q : x ∷ digits xs ≡ [] = rw (t, digits) at e in cc))
    (λ (t : is_digit x ≡ false). rw (t, run_on))
    (bool_cases (is_digit x))

module _ (line rest : List ℕ) (acc d : ℕ) (b : Begins line d rest) where
  pub run-more : acc * 10 + d < 4294967296 → run_on acc line ≡ run_on (acc * 10 + d) rest
  run-more h = rw (b.0, run_on-first d rest b.1 acc, le-leb (acc * 10 + d) 4294967295 (omega arith))

  pub run-over : 4294967296 ≤ acc * 10 + d → run_on acc line ≡ None
  run-over h = rw (b.0, run_on-first d rest b.1 acc, lt-leb (acc * 10 + d) 4294967295 (omega arith))

-- the digits only make a number larger
number-grows : (acc : ℕ) (l : List ℕ) → acc ≤ number_on acc l
unfolding number_on
number-grows acc [] = omega arith
number-grows acc (x ∷ xs) = let h = number-grows (acc * 10 + (x - 48)) xs in omega arith

-- so a number given up early is a number too large
run-number : (acc : ℕ) (l : List ℕ) → acc ≤ 4294967295
    → run_on acc l ≡ and_then (up_to32 (number_on acc (digits l))) (λ v. Some (piece v (beyond l)))
unfolding run_on number_on digits beyond up_to32
run-number acc [] h = rw (le-leb acc 4294967295 h)
run-number acc (x ∷ xs) h =
    ⊎_elim
    (λ (d : is_digit x ≡ true).
    let v = acc * 10 + (x - 48) in
    ⊎_elim
    (λ (low : v ≤ 4294967295). rw (d, run_on, digits, beyond, le-leb v 4294967295 low) (run-number v xs low))
    (λ (high : 4294967295 < v).
    let far = number-grows v (digits xs) in
    rw (d, run_on, digits, beyond, lt-leb v 4294967295 high) (rw (lt-leb (number_on v (digits xs)) 4294967295 (omega arith))))
    (le-or-lt v 4294967295))
    (λ (d : is_digit x ≡ false). rw (d, run_on, digits, beyond) (rw (le-leb acc 4294967295 h)))
    (bool_cases (is_digit x))

-- the ways of a number: no digit, 0 with a digit behind it, and what its digits make
pub number-none : (line : List ℕ) → digits line ≡ [] → number_in line ≡ None
unfolding number_in number
number-none line e = rw e

-- a number of one digit, or that 0 does not begin, is what its digits make
number-plain : (d : ℕ) (ds : List ℕ) → (d ≡ 0 → ds ≡ []) → number ((48 + d) ∷ ds) ≡ up_to32 (number_on 0 ((48 + d) ∷ ds))
unfolding number number_on
number-plain d [] alone = ap up_to32 (omega arith)
number-plain d (y ∷ ys) alone =
    let ne : 48 + d ≡ 48 → ⊥ = λ (e : 48 + d ≡ 48). let q : y ∷ ys ≡ [] = alone (omega arith) in cc in
    rw (ne_eqb (48 + d) 48 ne)

number-zero : (d : ℕ) (ds : List ℕ) → d ≡ 0 → (ds ≡ [] → ⊥) → number ((48 + d) ∷ ds) ≡ None
unfolding number
number-zero d [] z more = absurd (more refl)
number-zero d (y ∷ ys) z more = rw z

-- whether a digit begins what is left
module _ (rest : List ℕ) where
  pub digit-some : (r : RustOption (ℕ × Bor (List ℕ))) → MatchOption r (digits rest ≡ []) (λ d. Begins rest d.0 d.1.now) → is_some r ≡ true → digits rest ≡ [] → ⊥
  digit-some None h t e = absurd (false-true t)
  digit-some (Some d) h t e = let q : (48 + d.0) ∷ digits d.1.now ≡ [] = sym (ap digits h.0 ∙ digits-first d.0 d.1.now h.1) ∙ e in cc

  pub digit-none : (r : RustOption (ℕ × Bor (List ℕ))) → MatchOption r (digits rest ≡ []) (λ d. Begins rest d.0 d.1.now) → is_some r ≡ false → digits rest ≡ []
  digit-none None h t = h
  digit-none (Some d) h t = absurd (true-false t)

module _ (line rest : List ℕ) (d : ℕ) (b : Begins line d rest) where
  first : digits line ≡ (48 + d) ∷ digits rest
  first = ap digits b.0 ∙ digits-first d rest b.1

  pub number-lead : d ≡ 0 → (digits rest ≡ [] → ⊥) → number_in line ≡ None
  unfolding number_in
  number-lead z more = rw (first, number-zero d (digits rest) z more)

  pub number-run : (d ≡ 0 → digits rest ≡ []) → number_in line ≡ run_on 0 line
  unfolding number_in
  number-run alone = rw (run-number 0 line (omega arith), first, number-plain d (digits rest) alone)
