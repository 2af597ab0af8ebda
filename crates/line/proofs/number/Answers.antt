-- `line::number` reads a number as the rules do.
use mathlib.Core.Path.{◌≡◌, sym, ◌∙◌}
use mathlib.Core.List.{[]}
use Rattle.rules.specs.Bench.{digits}
use borrow.Author.Tests.{eqb-true}
use Rattle.line.proofs.Digits.{number-none, number-lead, number-run, digit-some, digit-none}
use Rattle.line.proofs.number.Goals as goal
use Rattle.line.proofs.number.Goals.{then-zero, else-zero}

pub returns-in_err-first : goal.returns-in_err-first
returns-in_err-first c = rw c.from_residual.ensures (number-none _ c.in_err-first.ensures)

pub returns-then-leading_zero : goal.returns-then-leading_zero
returns-then-leading_zero c =
    elim c.if-zero.branch [
      | then-zero w ↦ number-lead _ _ _ c.in_ok-first.ensures w.if-zero.true (digit-some _ _ w.digit-then-zero.ensures cc)
      | else-zero w ↦ absurd (w.if-zero.false (eqb-true _ 0 (sym w.leading_zero-is ∙ c.if-leading_zero.true)))
    ]

pub returns-else-leading_zero : goal.returns-else-leading_zero
returns-else-leading_zero c =
    let alone : c.in_ok-first.first ≡ 0 → digits c.in_ok-first.rest.now ≡ [] =
    elim c.if-zero.branch [
      | then-zero w ↦ λ z. digit-none _ _ w.digit-then-zero.ensures cc
      | else-zero w ↦ λ z. absurd (w.if-zero.false z)
    ] in
    rw (number-run _ _ _ c.in_ok-first.ensures alone) c.run.ensures
