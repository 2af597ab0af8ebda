-- A format that is refused has a number that is not 0, so that a formatted card is what its plan leaves.
use mathlib.Core.Path.{◌≡◌, refl, ap, ◌∙◌}
use mathlib.Core.List.{List}
use Prim.Native.Nat.{ℕ}
use native.Mathlib.Omega.{arith}
use Rattle.rules.specs.declared.Head.{Head}
use Rattle.rules.specs.Answers.{refused}
use Rattle.rules.specs.Write.{Plan, refuse, accept, plan_answer, plan_card}
use Rattle.rules.specs.Format.{format, format_for}
use Rattle.rules.specs.Calls.{called, planned}
use Rattle.laws.proofs.Numbers.{Numbered, if-refuses}
use Rattle.promises.specs.Calls.{Formatted}

format-numbered : (card : List ℕ) (n m td ti : ℕ) → Numbered (format card n m td ti)
unfolding format format_for
format-numbered card n m td ti =
    if-refuses (λ c. c ≡ 0 → ⊥) _ 8 _ (λ z. omega arith) (if-refuses (λ c. c ≡ 0 → ⊥) _ 9 (accept _) (λ z. omega arith) tt)

answered-zero : (card : List ℕ) (p : Plan) → Numbered p → (plan_answer p).code ≡ 0 → p ≡ accept (plan_card card p)
unfolding plan_answer plan_card refused
answered-zero card (refuse c) n z = absurd (n z)
answered-zero card (accept new) n z = refl

-- a formatted card is what format's plan leaves
pub formatted-plan : (h : Head) (card : List ℕ) (f : Formatted h card) → format f.0 f.1 f.2 f.3 f.4 ≡ accept card
unfolding called planned
formatted-plan h card f =
    answered-zero f.0 (format f.0 f.1 f.2 f.3 f.4) (format-numbered f.0 f.1 f.2 f.3 f.4) f.5 ∙ ap accept f.6
