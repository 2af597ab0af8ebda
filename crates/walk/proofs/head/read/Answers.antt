-- `walk::head::read` meets its contract: the card, or that it or the length breaks the layout.
use mathlib.Core.Path.{◌≡◌, refl, sym, ◌∙◌}
use Rattle.std.specs.Prelude.{List, ℕ, Option, None, Some, ok_or, Ok, Err}
use Rattle.std.proofs.lemmas.Result.{err_from_is_err_and}
use Rattle.rules.specs.declared.Head.{Head}
use Rattle.rules.specs.Layout.{head_of}
use Rattle.rules.specs.Sector.{sector_at}
use Rattle.laws.proofs.Tools.{or-ok, or-err}
use Rattle.bucket.proofs.Room.{shape_of}
use Rattle.walk.proofs.Sizes.{short_none}
use Rattle.walk.proofs.head.read.Goals as goal
use Rattle.walk.proofs.head.read.Goals.{In_ok-head}

pub returns-then-bytes-lt16 : goal.returns-then-bytes-lt16
returns-then-bytes-lt16 c = (refl, short_none _ c.if-bytes-lt16.true)

pub returns-in_err-head : goal.returns-in_err-head
unfolding head_of sector_at
returns-in_err-head c =
    let p = err_from_is_err_and c.from_residual.result c.from_residual.ensures.1 in
    let no = or-err _ _ _ (sym c.ok_or.ensures.value ∙ c.in_err-head.was) in
    rw (p.1, p.2) (no.0, sym c.head_in.ensures ∙ no.1)

-- the head that was read is the card's
head_is : (q : In_ok-head) → head_of q.args.bytes.now ≡ Some q.in_ok-head.head
unfolding head_of sector_at
head_is q = sym q.head_in.ensures ∙ or-ok _ _ _ (sym q.ok_or.ensures.value ∙ q.in_ok-head.was)

pub invariant_of-result : goal.invariant_of-result
invariant_of-result c = record { shape = shape_of _ _ (head_is (goal.at.invariant_of-result c).In_ok-head) }

pub returns : goal.returns
returns c = (head_is (goal.at.returns c).In_ok-head, refl)
