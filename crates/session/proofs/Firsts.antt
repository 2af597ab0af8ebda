-- The first format: the length that its numbers call for, and the card that it makes or not.
use mathlib.Core.Path.{◌≡◌, refl, ap, ap₂, ◌∙◌}
use mathlib.Core.Bool.{Bool, true, false, not}
use mathlib.Core.List.{List, [], ◌++◌}
use Prim.Native.Nat.{ℕ, ◌+◌, ◌*◌, ◌≤◌, ◌<◌}
use native.Mathlib.Omega.{arith}
use native.Mathlib.Nat.{mul-le-mul}
use lib.ListN.{length, take, drop, replicate, take-append-drop}
use lib.Seq.{length-take-le}
use lib.Dec.{eqb}
use borrow.Author.Tests.{le-leb, lt-leb}
use Rattle.rules.specs.Plain.{◌&◌, zeros}
use Rattle.rules.specs.declared.Answer.{Answer}
use Rattle.rules.specs.Answers.{refused}
use Rattle.rules.specs.Calls.{answered}
use Rattle.rules.specs.Layout.{size_of, limits}
use Rattle.rules.specs.Write.{accept, refuse_if, plan_card, plan_answer}
use Rattle.rules.specs.Format.{format, format_for, formatted, meant}
use Rattle.rules.specs.Bench.{first_card, first_format}
use Rattle.laws.proofs.Zeros.{zero-drop}
use Rattle.session.specs.Cards.{Room}
use Rattle.session.proofs.Buffers.{front-is, front-back, blank-front}

-- the number of sectors that two numbers of a line call for is no more than 64 bits hold
pub product-fits : (n m : ℕ) → n < 4294967296 → m < 4294967296 → n * (m + 1) < 18446744073709551616
product-fits n m hn hm =
    let h : n * (m + 1) ≤ 4294967295 * 4294967296 = mul-le-mul {n₁ = n} {m₁ = m + 1} {n₂ = 4294967295} {m₂ = 4294967296} (omega arith) (omega arith) in
    omega arith

module _ (n m td ti : ℕ) where
  -- "a card longer than the buffer is answer 8"
  pub first-large : 4095 < n * (m + 1) → answered [] (refused 8) ≡ first_format (size_of (meant n m td ti)) n m td ti
  unfolding first_format size_of meant
  first-large h = rw (lt-leb (16 * (1 + n * (m + 1))) 65536 (omega arith))

  first_fits : n * (m + 1) ≤ 4095 → first_card (format (replicate (16 * (1 + n * (m + 1))) 0) n m td ti) ≡ first_format (size_of (meant n m td ti)) n m td ti
  unfolding first_format size_of meant
  first_fits h = rw (le-leb (16 * (1 + n * (m + 1))) 65536 (omega arith))

made : (a b : Bool) (card new : List ℕ) → let p = refuse_if a 8 (refuse_if b 9 (accept new)) in
    (plan_answer p).code ≡ 0 → answered (plan_card card p) (plan_answer p) ≡ first_card p
unfolding refuse_if plan_card plan_answer first_card refused
made true b card new e = absurd (omega arith)
made false true card new e = absurd (omega arith)
made false false card new e = refl

unmade : (a b : Bool) (card new : List ℕ) → let p = refuse_if a 8 (refuse_if b 9 (accept new)) in
    ((plan_answer p).code ≡ 0 → ⊥) → (plan_card card p ≡ card) × (answered [] (plan_answer p) ≡ first_card p)
unfolding refuse_if plan_card plan_answer first_card refused
unmade true b card new e = (refl, refl)
unmade false true card new e = (refl, refl)
unmade false false card new e = absurd (e refl)

module _ (card : List ℕ) (n m td ti : ℕ) where
  first_made : (plan_answer (format card n m td ti)).code ≡ 0
      → answered (plan_card card (format card n m td ti)) (plan_answer (format card n m td ti)) ≡ first_card (format card n m td ti)
  unfolding format format_for
  first_made e =
      let h = meant n m td ti in
      made (not (limits h & eqb (length card) (size_of h))) (not (zeros card)) card (formatted h card) e

  first-unmade : ((plan_answer (format card n m td ti)).code ≡ 0 → ⊥)
      → (plan_card card (format card n m td ti) ≡ card) × (answered [] (plan_answer (format card n m td ti)) ≡ first_card (format card n m td ti))
  unfolding format format_for
  first-unmade e =
      let h = meant n m td ti in
      unmade (not (limits h & eqb (length card) (size_of h))) (not (zeros card)) card (formatted h card) e

-- the part of the buffer that was lent to the first format, back with its answer
module _ {buffer new : List ℕ} {a : Answer} {len : ℕ} (n m td ti : ℕ) (size : len ≡ 16 * (1 + n * (m + 1))) (fits : n * (m + 1) ≤ 4095)
    (room : Room buffer 0) (kept : length new ≡ length (take len buffer))
    (told : a ≡ plan_answer (format (take len buffer) n m td ti)) (left : new ≡ plan_card (take len buffer) (format (take len buffer) n m td ti)) where
  same : length new ≡ len
  same = kept ∙ length-take-le len buffer (omega arith)

  whole : first_card (format (take len buffer) n m td ti) ≡ first_format (size_of (meant n m td ti)) n m td ti
  whole =
      ap (λ (card : List ℕ). first_card (format card n m td ti)) (blank-front buffer len room (omega arith) ∙ ap (λ (k : ℕ). replicate k 0) size)
      ∙ first_fits n m td ti fits

  pub card-made : a.code ≡ 0 → Room (new ++ drop len buffer) len × (answered (take len (new ++ drop len buffer)) a ≡ first_format (size_of (meant n m td ti)) n m td ti)
  card-made zero = (
    front-back buffer new len same room.long (omega arith) (zero-drop len buffer room.blank),
    ap₂ answered (front-is buffer new len same ∙ left) told ∙ first_made (take len buffer) n m td ti (rw told at zero) ∙ whole,
  )

  pub card-unmade : (a.code ≡ 0 → ⊥) → Room (new ++ drop len buffer) 0 × (answered [] a ≡ first_format (size_of (meant n m td ti)) n m td ti)
  card-unmade other =
      let refusal = first-unmade (take len buffer) n m td ti (λ z. other (ap (λ (x : Answer). x.code) told ∙ z)) in
      let back : new ++ drop len buffer ≡ buffer = ap (λ (l : List ℕ). l ++ drop len buffer) (left ∙ refusal.0) ∙ take-append-drop len buffer in
      (rw back room, ap (answered []) told ∙ refusal.1 ∙ whole)
