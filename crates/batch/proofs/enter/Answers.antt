-- `batch::enter` follows the rule's plan for an entry, and what it tells is read off the card it leaves.
use borrow.Author.Tests.{le-leb, lt-leb}
use mathlib.Core.Path.{refl, sym, ◌∙◌}
use native.Mathlib.Omega.{arith}
use Rattle.std.proofs.lemmas.Result.{err_from_is_err_and}
use Rattle.laws.proofs.Bytes.{get-bytes}
use Rattle.rules.specs.Write.{stamp_on}
use Rattle.write.proofs.Codes.{unchecked, stale, goes_in, fine-now}
use Rattle.batch.proofs.Carries.{laid}
use Rattle.batch.proofs.enter.Goals as goal
use Rattle.batch.proofs.enter.Goals.{In_ok-check}

pub returns-in_err-check : goal.returns-in_err-check
returns-in_err-check c =
    let p = err_from_is_err_and c.from_residual.result c.from_residual.ensures.1 in
    let out = unchecked c.args.card.now c.args.e c.args.head c.requires.0 _ (sym c.check.ensures ∙ c.in_err-check.was) in
    rw (p.1, p.2) (out, refl)

pub returns-then-e-known : goal.returns-then-e-known
returns-then-e-known c =
    let a = c.args in (
      stale a.card.now a.e a.head c.requires.0 (sym c.check.ensures ∙ c.in_ok-check.was)
          (le-leb a.e.stamp (stamp_on a.head a.card.now) (omega (arith, c.requires.2.stamp, c.if-e-known.true))),
      refl,
    )

pub insert-requires : goal.insert-requires
insert-requires c =
    let a = c.args in
    let k = c.requires.2 in
    record {
      head = c.requires.0;
      fine = fine-now a.card.now a.e a.head c.requires.0 (sym c.check.ensures ∙ c.in_ok-check.was) c.requires.1 (lt-leb a.e.stamp (stamp_on a.head a.card.now) (omega (arith, k.stamp, c.if-e-known.false)));
      used = k.used;
      root = k.root;
    }

pub returns-in_err-entered : goal.returns-in_err-entered
returns-in_err-entered c =
    let a = c.args in
    let p = err_from_is_err_and c.from_residual-in_err-entered.result c.from_residual-in_err-entered.ensures.1 in
    let yes = sym c.check.ensures ∙ c.in_ok-check.was in
    let late = lt-leb a.e.stamp (stamp_on a.head a.card.now) (omega (arith, c.requires.2.stamp, c.if-e-known.false)) in
    rw (p.1, p.2) (goes_in a.card.now a.e a.head c.requires.0 yes late ∙ c.in_err-entered.ensures.0, c.in_err-entered.ensures.1)

pub returns : goal.returns
returns c =
    let a = c.args in
    let by = get-bytes a.card.now (λ i. omega (arith, (goal.at.returns c).In_ok-check.type_inv.card i)) in
    let yes = sym c.check.ensures ∙ c.in_ok-check.was in
    let late = lt-leb a.e.stamp (stamp_on a.head a.card.now) (omega (arith, c.requires.2.stamp, c.if-e-known.false)) in
    let d = c.in_ok-entered.ensures in
    laid a.head a.card.now c.requires.0 by a.e c.requires.1 c.in_ok-entered.entered _ (goes_in a.card.now a.e a.head c.requires.0 yes late ∙ d.0, d.1, d.2)
