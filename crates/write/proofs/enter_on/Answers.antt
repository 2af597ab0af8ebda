-- `write::enter_on` follows the rule's plan for an entry on a card with a head.
use mathlib.Core.Path.{refl, sym, ◌∙◌}
use Rattle.std.proofs.lemmas.Result.{err_from_is_err_and}
use Rattle.bucket.proofs.Room.{shape_of}
use Rattle.write.proofs.Codes.{unchecked, stale, goes_in, fine-now, did-same}
use Rattle.write.proofs.enter_on.Goals as goal

pub returns-in_err-check : goal.returns-in_err-check
returns-in_err-check c =
    let p = err_from_is_err_and c.from_residual.result c.from_residual.ensures.1 in
    let out = unchecked c.args.card.now c.args.e c.args.head c.requires.0 _ (sym c.check.ensures ∙ c.in_err-check.was) in
    rw (p.1, p.2) (out, refl)

pub invariant_of-before : goal.invariant_of-before
invariant_of-before c = record { shape = shape_of c.args.card.now c.args.head c.requires.0 }

pub returns-in_err-used : goal.returns-in_err-used
returns-in_err-used c =
    let p = err_from_is_err_and c.from_residual-in_err-used.result c.from_residual-in_err-used.ensures.1 in
    let out = stale c.args.card.now c.args.e c.args.head c.requires.0 (sym c.check.ensures ∙ c.in_ok-check.was) c.in_err-used.ensures.0 in
    rw (p.1, p.2) (out, refl)

pub insert-requires : goal.insert-requires
insert-requires c =
    record {
      head = c.requires.0;
      fine = fine-now c.args.card.now c.args.e c.args.head c.requires.0 (sym c.check.ensures ∙ c.in_ok-check.was) c.requires.1 c.in_ok-used.ensures.0;
      used = c.in_ok-used.ensures.1;
      root = c.root_of-root.ensures;
    }

pub returns : goal.returns
returns c =
    did-same _ c.args.head c.args.card.now _ _ _ (goes_in c.args.card.now c.args.e c.args.head c.requires.0 (sym c.check.ensures ∙ c.in_ok-check.was) c.in_ok-used.ensures.0) c.insert.ensures
