-- The numbers found, as the calls of the rules.
use mathlib.Core.Path.{◌≡◌, refl, sym, ap, ◌∙◌}
use mathlib.Core.List.{List, [], ◌∷◌}
use Rattle.std.specs.Prelude.{Option, None, Some}
use Prim.Native.Nat.{ℕ, suc}
use native.Mathlib.Omega.{arith}
use lib.ListN.{length, get_or}
use Rattle.rules.specs.Plain.{and_then}
use Rattle.rules.specs.Calls.{Call}
use Rattle.rules.specs.Bench.{behind, digits, beyond, number, numbers, two, three, four, or_try}
use Rattle.std.specs.Prelude.{Option as RustOption, None, Some, MatchOption}
use Rattle.line.specs.declared.Request.{Request}
use Rattle.line.specs.Requests.{asked}
use Rattle.laws.proofs.Tools.{then-inv, none-some}

-- as many numbers as names
numbers-count : (names : List (List ℕ)) (line xs : List ℕ) → numbers names line ≡ Some xs → length xs ≡ length names
unfolding numbers
numbers-count [] [] xs e = let q : [] ≡ xs = cc in ap length (sym q)
numbers-count [] (y ∷ line) xs e = absurd (none-some e)
numbers-count (name ∷ names) line xs e =
    let named = then-inv (behind name line) _ xs e in
    let numbered = then-inv (number (digits named.0)) _ xs named.2 in
    let others = then-inv (numbers names (beyond named.0)) _ xs numbered.2 in
    let q : numbered.0 ∷ others.0 ≡ xs = cc in
    ap length (sym q) ∙ ap suc (numbers-count names (beyond named.0) others.0 others.1)

two-found : (f : ℕ → ℕ → Call) (xs : List ℕ) → length xs ≡ 2 → Some (f (get_or xs 0 0) (get_or xs 1 0)) ≡ two f xs
unfolding two
two-found f [] h = absurd (omega arith)
two-found f (a ∷ []) h = absurd (omega arith)
two-found f (a ∷ b ∷ []) h = refl
two-found f (a ∷ b ∷ c ∷ xs) h = absurd (omega arith)

-- two numbers where there are two, four where there are four; else none
unfoldable pub pair_of : Option (List ℕ) → Option (List ℕ)
pair_of None = None
pair_of (Some []) = None
pair_of (Some (a ∷ [])) = None
pair_of (Some (a ∷ b ∷ [])) = Some (a ∷ b ∷ [])
pair_of (Some (a ∷ b ∷ c ∷ xs)) = None

unfoldable pub four_of : Option (List ℕ) → Option (List ℕ)
four_of None = None
four_of (Some []) = None
four_of (Some (a ∷ [])) = None
four_of (Some (a ∷ b ∷ [])) = None
four_of (Some (a ∷ b ∷ c ∷ [])) = None
four_of (Some (a ∷ b ∷ c ∷ d ∷ [])) = Some (a ∷ b ∷ c ∷ d ∷ [])
four_of (Some (a ∷ b ∷ c ∷ d ∷ e ∷ xs)) = None

-- four numbers: two, and the pair behind them
unfoldable pub joined : ℕ → ℕ → Option (List ℕ) → Option (List ℕ)
joined x y None = None
joined x y (Some xs) = Some (x ∷ y ∷ xs)

pub four-joined : (x y : ℕ) (o : Option (List ℕ)) → four_of (and_then (and_then o (λ xs. Some (y ∷ xs))) (λ xs. Some (x ∷ xs))) ≡ joined x y (pair_of o)
unfolding four_of pair_of joined
four-joined x y None = refl
four-joined x y (Some []) = refl
four-joined x y (Some (a ∷ [])) = refl
four-joined x y (Some (a ∷ b ∷ [])) = refl
four-joined x y (Some (a ∷ b ∷ c ∷ xs)) = refl

-- and the call they make
unfoldable pub called_by : (ℕ → ℕ → ℕ → ℕ → Call) → Option (List ℕ) → Option Call
called_by f None = None
called_by f (Some xs) = Some (f (get_or xs 0 0) (get_or xs 1 0) (get_or xs 2 0) (get_or xs 3 0))

pub four-of : (f : ℕ → ℕ → ℕ → ℕ → Call) (o : Option (List ℕ)) → and_then o (four f) ≡ called_by f (four_of o)
unfolding four three two four_of called_by
four-of f None = refl
four-of f (Some []) = refl
four-of f (Some (a ∷ [])) = refl
four-of f (Some (a ∷ b ∷ [])) = refl
four-of f (Some (a ∷ b ∷ c ∷ [])) = refl
four-of f (Some (a ∷ b ∷ c ∷ d ∷ [])) = refl
four-of f (Some (a ∷ b ∷ c ∷ d ∷ e ∷ xs)) = refl

four-kept : (xs : List ℕ) → length xs ≡ 4 → Some xs ≡ four_of (Some xs)
unfolding four_of
four-kept [] h = absurd (omega arith)
four-kept (a ∷ []) h = absurd (omega arith)
four-kept (a ∷ b ∷ []) h = absurd (omega arith)
four-kept (a ∷ b ∷ c ∷ []) h = absurd (omega arith)
four-kept (a ∷ b ∷ c ∷ d ∷ []) h = refl
four-kept (a ∷ b ∷ c ∷ d ∷ e ∷ xs) h = absurd (omega arith)

-- the numbers of a line, found or not, as the call that the line asks for
module _ (names : List (List ℕ)) (line : List ℕ) where
  pub two-made : (f : ℕ → ℕ → Call) (xs : List ℕ) → length names ≡ 2 → numbers names line ≡ Some xs
      → Some (f (get_or xs 0 0) (get_or xs 1 0)) ≡ and_then (numbers names line) (two f)
  two-made f xs h e = rw e (two-found f xs (numbers-count names line xs e ∙ h))

  pub four-made : (f : ℕ → ℕ → ℕ → ℕ → Call) (xs : List ℕ) → length names ≡ 4 → numbers names line ≡ Some xs
      → Some (f (get_or xs 0 0) (get_or xs 1 0) (get_or xs 2 0) (get_or xs 3 0)) ≡ and_then (numbers names line) (four f)
  unfolding called_by
  four-made f xs h e = rw e (ap (called_by f) (four-kept xs (numbers-count names line xs e ∙ h)) ∙ sym (four-of f (Some xs)))

-- of two calls the first that is one
pub tried : {P : Type 0} (a b : Option Call) (first r : RustOption Request) → asked first ≡ a → (P → asked r ≡ b)
    → MatchOption first P (λ x. r ≡ Some x) → asked r ≡ or_try a b
unfolding or_try
tried a b None r e second h = rw (← e) (second h)
tried a b (Some q) r e second h = rw (← e, h)

pub tried-order : (a b c d e : Option Call) → or_try (or_try (or_try (or_try a b) c) d) e ≡ or_try a (or_try b (or_try c (or_try d e)))
unfolding or_try
tried-order (Some k) b c d e = refl
tried-order None (Some k) c d e = refl
tried-order None None (Some k) d e = refl
tried-order None None None d e = refl
