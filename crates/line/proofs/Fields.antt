-- A line's fields in turn: what each one read says of the numbers of the rules.
use mathlib.Core.Path.{◌≡◌, refl, sym, ap, ◌∙◌}
use mathlib.Core.List.{List, [], ◌∷◌, ◌++◌, append_assoc, append-nil}
use Rattle.std.specs.Prelude.{Option, None, Some}
use mathlib.Core.Bool.{Bool, true, false}
use lib.Dec.{eqb}
use borrow.Author.Tests.{eqb-true, eqb-false}
use Rattle.std.specs.Bool.{then_some}
use Prim.Native.Nat.{ℕ, suc, ◌+◌, ◌≤◌, ◌<◌}
use native.Mathlib.Omega.{arith}
use native.Mathlib.Numerals.{add-one}
use denote.Ref.{Bor}
use lib.ListN.{length, take, drop, get_or, set, drop_of_length-le}
use lib.Seq.{drop-cons, take-suc-set, take_all}
use Rattle.rules.specs.Plain.{and_then}
use Rattle.rules.specs.Bench.{behind, digits, beyond, number, numbers}
use Rattle.line.specs.Fields.{piece, number_in, field_in, texts}
use Rattle.line.specs.Requests.{Finds}

field-first : (found : Option (List ℕ)) (k : ℕ → List ℕ → Option (List ℕ))
    → and_then found (λ rest. and_then (number (digits rest)) (λ x. k x (beyond rest))) ≡ and_then (and_then found number_in) (λ p. k p.value p.rest)
unfolding number_in
field-first None k = refl
field-first (Some rest) k = of_number (number (digits rest))
  where
    of_number : (n : Option ℕ) → and_then n (λ x. k x (beyond rest)) ≡ and_then (and_then n (λ x. Some (piece x (beyond rest)))) (λ p. k p.value p.rest)
    of_number None = refl
    of_number (Some x) = refl

numbers-step : (name : List ℕ) (names : List (List ℕ)) (line : List ℕ)
    → numbers (name ∷ names) line ≡ and_then (field_in name line) (λ p. and_then (numbers names p.rest) (λ xs. Some (p.value ∷ xs)))
unfolding numbers field_in
numbers-step name names line = field-first (behind name line) (λ x rest. and_then (numbers names rest) (λ xs. Some (x ∷ xs)))

-- the numbers found so far, in front of those that are still to be read
abbrev pub Along : List (Bor (List ℕ)) → List ℕ → List ℕ → ℕ → List ℕ → Type 0
Along names line found i rest = numbers (texts names) line ≡ and_then (numbers (texts (drop i names)) rest) (λ xs. Some (take i found ++ xs))

joined : (front : List ℕ) (v : ℕ) (o : Option (List ℕ))
    → and_then (and_then o (λ xs. Some (v ∷ xs))) (λ xs. Some (front ++ xs)) ≡ and_then o (λ xs. Some ((front ++ (v ∷ [])) ++ xs))
joined front v None = refl
joined front v (Some xs) = ap Some (sym (append_assoc front (v ∷ []) xs))

module _ (names : List (Bor (List ℕ))) (line found rest : List ℕ) (i : ℕ) (d : Bor (List ℕ)) (a : Along names line found i rest) (h : i < length names) where
  next-field : numbers (texts (drop i names)) rest
      ≡ and_then (field_in (get_or names i d).now rest) (λ p. and_then (numbers (texts (drop (suc i) names)) p.rest) (λ xs. Some (p.value ∷ xs)))
  next-field = rw (drop-cons names i d h) (numbers-step (get_or names i d).now (texts (drop (suc i) names)) rest)

  pub along-missing : field_in (get_or names i d).now rest ≡ None → numbers (texts names) line ≡ None
  along-missing e = a ∙ rw (next-field, e)

  pub along-more : (v : ℕ) (after : List ℕ) → i < length found → field_in (get_or names i d).now rest ≡ Some (piece v after)
      → Along names line (set found i v) (i + 1) after
  along-more v after k e =
      a ∙ rw (next-field, e) (rw (add-one i) (rw (take-suc-set found i v k) (joined (take i found) v (numbers (texts (drop (suc i) names)) after))))

-- behind the last field the line ends
nothing-left : (rest : List ℕ) → length rest ≡ 0 → numbers [] rest ≡ Some []
unfolding numbers
nothing-left [] z = refl
nothing-left (x ∷ rest) z = absurd (omega arith)

something-left : (rest : List ℕ) → (length rest ≡ 0 → ⊥) → numbers [] rest ≡ None
unfolding numbers
something-left [] ne = absurd (ne refl)
something-left (x ∷ rest) ne = refl

module _ (names : List (Bor (List ℕ))) (line found rest : List ℕ) (i : ℕ) (a : Along names line found i rest) (h : length names ≤ i) where
  last : numbers (texts names) line ≡ and_then (numbers [] rest) (λ xs. Some (take i found ++ xs))
  last = rw (drop_of_length-le names h) at a

  pub along-end : (whole : Bool) → whole ≡ eqb (length rest) 0 → length found ≡ length names → Finds (then_some whole found) (numbers (texts names) line)
  along-end true q e = last ∙ rw (nothing-left rest (eqb-true (length rest) 0 (sym q))) (ap Some (append-nil (take i found) ∙ take_all i found (omega arith)))
  along-end false q e = last ∙ rw (something-left rest (eqb-false (length rest) 0 (sym q)))
