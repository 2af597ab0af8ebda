-- How many buckets a level and a whole season card take, and where a level's entries lie.
use mathlib.Core.Path.{◌≡◌, ap, ◌∙◌}
use mathlib.Core.Logic.{⊎_elim}
use Prim.Native.Nat.{ℕ, zero, suc, ◌+◌, ◌-◌, ◌*◌, ◌/◌, ◌%◌, ◌≤◌, ◌<◌}
use native.Mathlib.Nat.{add-div_left, add-mul-div_right, div-add-mod', mod-lt, add-mod_left, div-eq_of_lt, mod-eq_of_lt, mul-add, mul-le-mul_left, mul-le-mul_right, mul-one, mul-zero, div-mul-le_self, lt-div-mul-add, suc-mul}
use native.Mathlib.Omega.{arith}
use borrow.Author.Tests.{lt-ltb, le-ltb}
use Rattle.laws.proofs.Tools.{le-or-lt}
use Rattle.std.specs.Prelude.{min}
use Rattle.std.specs.Int.{div_ceil}
use Rattle.season.specs.Storeys.{spot, over, heap}

-- the entries past the first bucket
pub over-more : (q c : ℕ) → 1 ≤ q → over q (q + c) ≡ 1 + over q c
unfolding over
over-more q c one =
    let e : q + c + (q - 1) ≡ q + (c + (q - 1)) = omega arith in
    let d : (q + (c + (q - 1))) / q ≡ (c + (q - 1)) / q + 1 = add-div_left (c + (q - 1)) one in
    ap (λ (n : ℕ). n / q) e ∙ d ∙ (let f : (c + (q - 1)) / q + 1 ≡ 1 + (c + (q - 1)) / q = omega arith in f)

-- the library counts them so too
min-rest : (q r : ℕ) → 1 ≤ q → r < q → (r + (q - 1)) / q ≡ min 1 r
min-rest q r one lt =
    ⊎_elim
    (λ (z : r ≤ 0). let d : (r + (q - 1)) / q ≡ 0 = div-eq_of_lt (let h : r + (q - 1) < q = omega arith in h) in omega arith)
    (λ (p : 0 < r).
    let e : r + (q - 1) ≡ q + (r - 1) = omega arith in
    let d : (q + (r - 1)) / q ≡ (r - 1) / q + 1 = add-div_left (r - 1) one in
    let z : (r - 1) / q ≡ 0 = div-eq_of_lt (let h : r - 1 < q = omega arith in h) in
    let f : (r + (q - 1)) / q ≡ 1 = ap (λ (n : ℕ). n / q) e ∙ d ∙ (omega arith) in
    omega arith)
    (le-or-lt r 0)

pub over-ceil : (q c : ℕ) → 1 ≤ q → div_ceil c q ≡ over q c
unfolding over
over-ceil q c one =
    let d : c / q * q + c % q ≡ c = div-add-mod' c q in
    let e : c + (q - 1) ≡ c % q + (q - 1) + c / q * q = omega arith in
    let f : (c + (q - 1)) / q ≡ (c % q + (q - 1)) / q + c / q = ap (λ (n : ℕ). n / q) e ∙ add-mul-div_right (c % q + (q - 1)) (c / q) one in
    let r = min-rest q (c % q) one (mod-lt c one) in
    omega arith

pub over_none : (q : ℕ) → 1 ≤ q → over q 0 ≡ 0
unfolding over
over_none q one = div-eq_of_lt (let h : 0 + (q - 1) < q = omega arith in h)

-- a last bucket
pub over_last : (q c : ℕ) → 1 ≤ c → c ≤ q → over q c ≡ 1
unfolding over
over_last q c one le =
    let e : c + (q - 1) ≡ q + (c - 1) = omega arith in
    let d : (q + (c - 1)) / q ≡ (c - 1) / q + 1 = add-div_left (c - 1) (let h : 0 < q = omega arith in h) in
    let z : (c - 1) / q ≡ 0 = div-eq_of_lt (let h : c - 1 < q = omega arith in h) in
    ap (λ (n : ℕ). n / q) e ∙ d ∙ (omega arith)

-- at least a third of the entries are spared
pub over-third : (q c : ℕ) → 3 ≤ q → 3 * over q c ≤ c + 2
unfolding over
over-third q c three =
    let d = c + (q - 1) in
    let a : d / q * q ≤ d = div-mul-le_self d q in
    let k = d / q in
    ⊎_elim
    (λ (z : k ≤ 0). omega arith)
    (λ (p : 0 < k).
    let k1 = k - 1 in
    let s : suc k1 * q ≡ k1 * q + q = suc-mul k1 q in
    let t : k1 * 3 ≤ k1 * q = mul-le-mul_left k1 three in
    let e : k ≡ suc k1 = omega arith in
    let b : k * q ≡ k1 * q + q = ap (λ (n : ℕ). n * q) e ∙ s in
    omega arith)
    (le-or-lt k 0)

pub over-some : (q c : ℕ) → 1 ≤ q → 1 ≤ c → 1 ≤ over q c
unfolding over
over-some q c one some =
    let e : c + (q - 1) ≡ q + (c - 1) = omega arith in
    let d : (q + (c - 1)) / q ≡ (c - 1) / q + 1 = add-div_left (c - 1) one in
    let f : (c + (q - 1)) / q ≡ (c - 1) / q + 1 = ap (λ (n : ℕ). n / q) e ∙ d in
    omega arith

-- where two buckets or more are filled, there were more entries
pub over-less : (q c : ℕ) → 3 ≤ q → 1 < over q c → over q c < c
over-less q c three two = let t = over-third q c three in omega arith

-- the bucket of entry k
pub over-bucket : (q c k : ℕ) → 1 ≤ q → k < c → k / q < over q c
unfolding over
over-bucket q c k one lt =
    let a : k / q * q ≤ k = div-mul-le_self k q in
    let b : c + (q - 1) < (c + (q - 1)) / q * q + q = lt-div-mul-add one in
    ⊎_elim
    (λ (le : (c + (q - 1)) / q ≤ k / q). absurd
    (let p : (c + (q - 1)) / q * q ≤ k / q * q = mul-le-mul_right q le in omega arith))
    (λ (ok : k / q < (c + (q - 1)) / q). ok)
    (le-or-lt ((c + (q - 1)) / q) (k / q))

-- entries of the first bucket lie in a row, and those behind it as in a level that begins a bucket later
pub spot-row : (m q i j : ℕ) → j < q → spot m q i j ≡ i + j
unfolding spot
spot-row m q i j lt =
    let d : j / q ≡ 0 = div-eq_of_lt lt in
    let r : j % q ≡ j = mod-eq_of_lt lt in
    let z : m * (j / q) ≡ 0 = ap (λ (n : ℕ). m * n) d ∙ mul-zero m in
    omega arith

pub spot-shift : (m q i j : ℕ) → 1 ≤ q → spot m q i (q + j) ≡ spot m q (i + m) j
unfolding spot
spot-shift m q i j one =
    let d : (q + j) / q ≡ j / q + 1 = add-div_left j one in
    let r : (q + j) % q ≡ j % q = add-mod_left q j in
    let p : m * ((q + j) / q) ≡ m * (j / q + 1) = ap (λ (n : ℕ). m * n) d in
    let s : m * (j / q + 1) ≡ m * (j / q) + m * 1 = mul-add m (j / q) 1 in
    omega (arith, mul-one m)

pub spot-from : (m q i j : ℕ) → i ≤ spot m q i j
unfolding spot
spot-from m q i j = omega arith

-- levels only add buckets
pub heap-more : (q f fresh c : ℕ) → fresh ≤ heap q f fresh c
heap-more q zero fresh c = omega arith
heap-more q (suc f) fresh c =
    ⊎_elim
    (λ (le : over q c ≤ 1). rw (le-ltb 1 (over q c) le) (let h : fresh ≤ fresh + over q c = omega arith in h))
    (λ (lt : 1 < over q c). rw (lt-ltb 1 (over q c) lt) (let h = heap-more q f (fresh + over q c) (over q c) in omega arith))
    (le-or-lt (over q c) 1)
