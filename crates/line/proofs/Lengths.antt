-- How long a line of the grammar can be: none has 128 bytes, so the first 128 bytes of a line are enough to read it.
use mathlib.Core.Path.{◌≡◌, refl, sym, ap, ◌∙◌}
use mathlib.Core.Logic.{⊎_elim}
use mathlib.Core.Bool.{true, false}
use mathlib.Core.List.{List, [], ◌∷◌}
use Rattle.std.specs.Prelude.{Option, None, Some}
use Prim.Native.Nat.{ℕ, suc, ◌+◌, ◌*◌, ◌-◌, ◌^◌, ◌≤◌, ◌<◌}
use native.Mathlib.Omega.{arith}
use native.Mathlib.Nat.{pow-suc, pow-le-pow_right}
use lib.ListN.{length, take}
use lib.Seq.{take_all, length-take-le}
use lib.Dec.{leb, eqb}
use borrow.Author.Tests.{leb-true, eqb-false}
use Rattle.rules.specs.Plain.{within}
use Rattle.rules.specs.Bench.{text, behind, is_digit, digits, beyond, number_on, up_to32, number, numbers, format_names, post_names, strike_names, look_names, next_names, or_try, parsed}
use Rattle.laws.proofs.Tools.{bool_cases, le-or-lt, and-true, guard-true, none-some, then-inv}

-- a name and what is behind it
behind-length : (name l rest : List ℕ) → behind name l ≡ Some rest → length l ≡ length name + length rest
unfolding behind
behind-length [] l rest e = let q : l ≡ rest = cc in rw q (omega arith)
behind-length (x ∷ name) [] rest e = absurd (none-some e)
behind-length (x ∷ name) (y ∷ l) rest e =
    ⊎_elim
    (λ (t : eqb x y ≡ true). let h = behind-length name l rest (rw (t, behind) at e) in omega arith)
    (λ (t : eqb x y ≡ false). absurd (none-some (rw (t, behind) at e)))
    (bool_cases (eqb x y))

-- the digits and what is behind them
digits-length : (l : List ℕ) → length l ≡ length (digits l) + length (beyond l)
unfolding digits beyond
digits-length [] = refl
digits-length (x ∷ l) =
    ⊎_elim
    (λ (t : is_digit x ≡ true). let h = digits-length l in rw (t, digits, beyond) (omega arith))
    (λ (t : is_digit x ≡ false). rw (t, digits, beyond) (omega arith))
    (bool_cases (is_digit x))

digits-first : (l : List ℕ) (x : ℕ) (ds : List ℕ) → digits l ≡ x ∷ ds → 48 ≤ x
unfolding digits is_digit within
digits-first [] x ds e = let z : ◌≡◌ {A = ℕ} 0 1 = cc in absurd (omega arith)
digits-first (y ∷ l) x ds e =
    ⊎_elim
    (λ (t : is_digit y ≡ true).
    let s : y ≡ x = let q : y ∷ digits l ≡ x ∷ ds = rw (t, digits) at e in cc in
    rw (← s) (leb-true 48 y (and-true (leb 48 y) (leb y 57) t).0))
    (λ (t : is_digit y ≡ false). let q : [] ≡ x ∷ ds = rw (t, digits) at e in let z : ◌≡◌ {A = ℕ} 0 1 = cc in absurd (omega arith))
    (bool_cases (is_digit y))

-- each digit more is ten times the number
number-tenfold : (j acc : ℕ) (ds : List ℕ) → 10 ^ j ≤ acc → 10 ^ (j + length ds) ≤ number_on acc ds
unfolding number_on
number-tenfold j acc [] h = let e : j + 0 ≡ j = omega arith in rw e h
number-tenfold j acc (x ∷ ds) h =
    let e : j + suc (length ds) ≡ suc j + length ds = omega arith in
    rw e (number-tenfold (suc j) (acc * 10 + (x - 48)) ds (omega (arith, pow-suc 10 j)))

-- a number has ten digits at most
number-length : (l : List ℕ) (v : ℕ) (ds : List ℕ) → digits l ≡ ds → number ds ≡ Some v → length ds ≤ 10
unfolding number number_on up_to32
number-length l v [] d e = omega arith
number-length l v (x ∷ []) d e = omega arith
number-length l v (x ∷ y ∷ ys) d e =
    ⊎_elim
    (λ (t : eqb x 48 ≡ true). absurd (none-some (rw t at e)))
    (λ (t : eqb x 48 ≡ false).
    let small = leb-true (number_on 0 (x ∷ y ∷ ys)) 4294967295 (guard-true (leb (number_on 0 (x ∷ y ∷ ys)) 4294967295) (number_on 0 (x ∷ y ∷ ys)) v (rw t at e)).0 in
    let first : 10 ^ 0 ≤ 0 * 10 + (x - 48) = omega (arith, digits-first l x (y ∷ ys) d, eqb-false x 48 t) in
    let tenfold = number-tenfold 0 (0 * 10 + (x - 48)) (y ∷ ys) first in
    ⊎_elim
    (λ (short : length (x ∷ y ∷ ys) ≤ 10). short)
    (λ (long : 10 < length (x ∷ y ∷ ys)).
    let most = pow-le-pow_right {n = 10} (omega arith) {i = 10} {j = 0 + length (y ∷ ys)} (omega arith) in
    absurd (omega arith))
    (le-or-lt (length (x ∷ y ∷ ys)) 10))
    (bool_cases (eqb x 48))

-- the most that names and their numbers take
most : List (List ℕ) → ℕ
most [] = 0
most (name ∷ names) = length name + 10 + most names

numbers-length : (names : List (List ℕ)) (l xs : List ℕ) → numbers names l ≡ Some xs → length l ≤ most names
unfolding numbers most
numbers-length [] [] xs e = omega arith
numbers-length [] (x ∷ l) xs e = absurd (none-some e)
numbers-length (name ∷ names) l xs e =
    let named = then-inv (behind name l) _ xs e in
    let rest = named.0 in
    let read = then-inv (number (digits rest)) _ xs named.2 in
    let others = then-inv (numbers names (beyond rest)) _ xs read.2 in
    let a = behind-length name l rest named.1 in
    let b = digits-length rest in
    let c = number-length rest read.0 (digits rest) refl read.1 in
    let d = numbers-length names (beyond rest) others.0 others.1 in
    omega arith

numbers-long : (names : List (List ℕ)) (l : List ℕ) → most names < length l → numbers names l ≡ None
numbers-long names l h = cases (numbers names l) refl
  where
    cases : (o : Option (List ℕ)) → numbers names l ≡ o → o ≡ None
    cases None e = refl
    cases (Some xs) e = absurd (let k = numbers-length names l xs e in omega arith)

pub too_long : (l : List ℕ) → 127 < length l → parsed l ≡ None
unfolding parsed or_try most text format_names post_names strike_names look_names next_names
too_long l h =
    let f = numbers-long format_names l (omega arith) in
    let p = numbers-long post_names l (omega arith) in
    let s = numbers-long strike_names l (omega arith) in
    let k = numbers-long look_names l (omega arith) in
    let n = numbers-long next_names l (omega arith) in
    rw (f, p, s, k, n)

pub first-bytes : (l : List ℕ) → parsed (take 128 l) ≡ parsed l
first-bytes l =
    ⊎_elim
    (λ (short : length l ≤ 128). ap parsed (take_all 128 l short))
    (λ (long : 128 < length l). too_long (take 128 l) (omega (arith, length-take-le 128 l (omega arith))) ∙ sym (too_long l (omega arith)))
    (le-or-lt (length l) 128)
