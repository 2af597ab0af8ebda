-- Bytes are all zero where the first is and those behind it are.
use Rattle.std.proofs.Common.{◌≡◌, refl, ap, ap₂, sym, ◌∙◌, arith, ℕ, suc, zero, ◌+◌, ◌<◌, Bool, true, false, List, [], ◌∷◌, ◌++◌, length, get_or, drop, eqb, bit_or, ◌↔◌, IsTrue, EachIndex}
use Rattle.std.proofs.lemmas.Nat.{le_or_l, le_or_r}
use borrow.Author.Tests.{ne_eqb}
use lib.Seq.{drop-cons, drop-length}
use native.Mathlib.Numerals.{add-one}
use Rattle.rules.specs.Plain.{◌&◌, zeros}
use Rattle.scan.proofs.Blanks.{zeros-append}

not-zero : (a : ℕ) → eqb (suc a) 0 ≡ false
not-zero a = ne_eqb (suc a) 0 (λ e. omega arith)

-- two bytes put together are zero only where both are
or-zero : (a b : ℕ) → eqb (bit_or a b) 0 ≡ (eqb a 0 & eqb b 0)
or-zero zero zero = refl
or-zero zero (suc b) = ne_eqb (bit_or 0 (suc b)) 0 (λ e. omega (arith, le_or_r 0 (suc b))) ∙ sym (not-zero b)
or-zero (suc a) b = ne_eqb (bit_or (suc a) b) 0 (λ e. omega (arith, le_or_l (suc a) b)) ∙ rw (not-zero a)

zeros-first : (x : ℕ) (xs : List ℕ) → zeros (x ∷ xs) ≡ (eqb x 0 & zeros xs)
unfolding zeros
zeros-first zero xs = refl
zeros-first (suc x) xs = rw (not-zero x)

-- four parts from byte i on
abbrev pub four : List ℕ → List ℕ → List ℕ → List ℕ → ℕ → Bool
four a b c d i = (zeros (drop i a) & zeros (drop i b)) & (zeros (drop i c) & zeros (drop i d))

first-at : (s : List ℕ) (i : ℕ) → i < length s → zeros (drop i s) ≡ (eqb (get_or s i 0) 0 & zeros (drop (i + 1) s))
first-at s i h = rw (drop-cons s i 0 h, zeros-first, add-one)

and_assoc : (a b c : Bool) → ((a & b) & c) ≡ (a & (b & c))
and_assoc true b c = refl
and_assoc false b c = refl

swap : (a b A B : Bool) → ((a & b) & (A & B)) ≡ ((a & A) & (b & B))
swap true true A B = refl
swap true false true B = refl
swap true false false B = refl
swap false b A B = refl

swap_in : (t a A b B c C d D : Bool) → ((t & ((a & b) & (c & d))) & ((A & B) & (C & D))) ≡ (t & (((a & A) & (b & B)) & ((c & C) & (d & D))))
swap_in t a A b B c C d D =
    and_assoc t ((a & b) & (c & d)) ((A & B) & (C & D))
    ∙ ap (λ (z : Bool). t & z) (swap (a & b) (c & d) (A & B) (C & D) ∙ ap₂ (λ (x y : Bool). x & y) (swap a b A B) (swap c d C D))

-- the bytes at i put to the bits seen before
module _ (a b c d : List ℕ) (i bits : ℕ) where
  abbrev at : List ℕ → ℕ
  at s = get_or s i 0

  abbrev nil : List ℕ → Bool
  nil s = eqb (at s) 0

  abbrev on : List ℕ → Bool
  on s = zeros (drop (i + 1) s)

  all-nil : eqb (bit_or bits (bit_or (bit_or (at a) (at b)) (bit_or (at c) (at d)))) 0 ≡ (eqb bits 0 & ((nil a & nil b) & (nil c & nil d)))
  all-nil =
      or-zero bits (bit_or (bit_or (at a) (at b)) (bit_or (at c) (at d)))
      ∙ ap (λ (z : Bool). eqb bits 0 & z) (or-zero (bit_or (at a) (at b)) (bit_or (at c) (at d)) ∙ ap₂ (λ (x y : Bool). x & y) (or-zero (at a) (at b)) (or-zero (at c) (at d)))

  pub four-step : i < length a → i < length b → i < length c → i < length d
      → (eqb (bit_or bits (bit_or (bit_or (at a) (at b)) (bit_or (at c) (at d)))) 0 & four a b c d (i + 1)) ≡ (eqb bits 0 & four a b c d i)
  four-step ha hb hc hd =
      rw (first-at a i ha, first-at b i hb, first-at c i hc, first-at d i hd)
      (ap (λ (z : Bool). z & four a b c d (i + 1)) all-nil ∙ swap_in (eqb bits 0) (nil a) (on a) (nil b) (on b) (nil c) (on c) (nil d) (on d))

and-true : (b : Bool) → (b & true) ≡ b
and-true true = refl
and-true false = refl

none_left : (s : List ℕ) (i : ℕ) → i ≡ length s → zeros (drop i s) ≡ true
unfolding zeros
none_left s i e = rw (e, drop-length)

pub four-end : (a b c d : List ℕ) (i bits : ℕ) → i ≡ length a → i ≡ length b → i ≡ length c → i ≡ length d → (eqb bits 0 & four a b c d i) ≡ eqb bits 0
four-end a b c d i bits ha hb hc hd = rw (none_left a i ha, none_left b i hb, none_left c i hc, none_left d i hd) (and-true (eqb bits 0))

-- the quarters' bits and what is left are the whole
pub quarters : (a b c d r s : List ℕ) (bits : ℕ) (z : Bool) → s ≡ ((a ++ b) ++ (c ++ d)) ++ r → eqb bits 0 ≡ ((zeros a & zeros b) & (zeros c & zeros d))
    → eqb bits 0 ≡ z → zeros s ≡ (z & zeros r)
quarters a b c d r s bits z e is was =
    ap zeros e ∙ zeros-append ((a ++ b) ++ (c ++ d)) r
    ∙ ap (λ (x : Bool). x & zeros r) (zeros-append (a ++ b) (c ++ d) ∙ ap₂ (λ (x y : Bool). x & y) (zeros-append a b) (zeros-append c d) ∙ sym is ∙ was)

-- what is asked of each byte is asked of the whole
all-each : (s : List ℕ) → ((k : ℕ) → k < length s → get_or s k 0 ≡ 0) → zeros s ≡ true
unfolding zeros
all-each [] h = refl
all-each (zero ∷ xs) h = all-each xs (λ k l. h (suc k) (omega arith))
all-each (suc x ∷ xs) h = absurd (omega (arith, h 0 (omega arith)))

each-all : (s : List ℕ) → zeros s ≡ true → (k : ℕ) → k < length s → get_or s k 0 ≡ 0
unfolding zeros
each-all [] z k l = absurd (omega arith)
each-all (zero ∷ xs) z zero l = refl
each-all (zero ∷ xs) z (suc k) l = each-all xs z k (omega arith)
each-all (suc x ∷ xs) z k l = absurd (cc)

pub zeros-each : (b : Bool) (s : List ℕ) → (IsTrue b ↔ EachIndex s (λ k. get_or s k 0 ≡ 0)) → b ≡ zeros s
zeros-each true s h = sym (all-each s (h.0 refl))
zeros-each false s h = not_all (zeros s) refl
  where
    not_all : (z : Bool) → zeros s ≡ z → false ≡ z
    not_all true e = h.1 (each-all s e)
    not_all false e = refl
