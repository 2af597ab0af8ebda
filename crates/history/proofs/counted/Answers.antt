-- `history::counted` counts page after page. What is left from the next page on, with those counted before it, fits as the whole does.
use mathlib.Core.Path.{◌≡◌, refl, ap, sym, ◌∙◌}
use Prim.Native.Nat.{◌+◌, ◌≤◌}
use native.Mathlib.Omega.{arith}
use lib.ListN.{length}
use Rattle.std.specs.Prelude.{Some}
use Rattle.laws.proofs.Tools.{none-some}
use Rattle.rules.specs.History.{area}
use Rattle.gather.specs.Pages.{said, firsts}
use Rattle.gather.proofs.Paging.{page-held, page-none}
use Rattle.history.specs.Told.{after, rest_from}
use Rattle.history.proofs.Tells.{waiting, page-on, count-on, count-over, count-end, after-waits}
use Rattle.history.proofs.counted.Goals as goal
use Rattle.history.proofs.counted.Goals.{In_ok-page}

pub loop-total-init : goal.loop-total-init
unfolding said
loop-total-init c =
    let a = c.args in
    let card = a.card.now in
    let o = area card.head card.bytes.now in
    let l = a.first.now in
    let page = c.requires.1 in
    let few : length l ≤ 34 = omega (arith, c.len-total.ensures.value, c.len-total.ensures.most) in
    let on = page-on a.bib a.at 0 o l page few in
    let z : 0 + length l ≡ length l = omega arith in
    (omega (arith, c.len-total.ensures.most), (on.0, rw c.after-more.ensures on.2), rw (c.len-total.ensures.value, c.after-more.ensures) (rw z at (count-on a.bib a.at 0 o l page few a.places 0 _ refl)))

pub returns-then-places-total : goal.returns-then-places-total
returns-then-places-total c = let l = c.loop-total in count-over c.args.places l.total _ _ l.invariant.2 l.invariant.1.0 l.invariant.1.1 c.if-places-total.true

pub returns-in_default : goal.returns-in_default
unfolding rest_from
returns-in_default c = let l = c.loop-total in count-end c.args.places l.total _ _ l.invariant.2 (ap (rest_from _) c.in_default.is) (omega (arith, c.if-places-total.false))

pub returns-in_err-page : goal.returns-in_err-page
unfolding said rest_from
returns-in_err-page c =
    let some = rw c.in-Some.is at c.loop-total.invariant.1.1 in
    absurd (none-some (sym (page-none c.page_from.result _ _ c.page_from.ensures c.in_err-page.was) ∙ some))

-- the page that was turned
turned : (q : In_ok-page) → let a = q.args in let card = a.card.now in Some q.in_ok-page.page ≡ firsts (said card.head card.bytes.now a.bib a.at q.in-Some.from)
turned q = page-held q.page_from.result _ _ q.page_from.ensures q.in_ok-page.was

pub loop-total-smaller : goal.loop-total-smaller
loop-total-smaller c =
    let one : waiting c.loop-total.more ≡ 1 = ap waiting c.in-Some.is in
    let len = c.len-total-in-loop-total.ensures in
    let on : waiting c.after-more-in-loop-total.result ≡ waiting (after c.in_ok-page.page) = ap waiting c.after-more-in-loop-total.ensures in
    let w = after-waits c.in_ok-page.page in
    omega (arith, len.value, len.most, c.if-places-total.false)

pub loop-total-preserved : goal.loop-total-preserved
unfolding said rest_from
loop-total-preserved c =
    let a = c.args in
    let card = a.card.now in
    let o = area card.head card.bytes.now in
    let l = c.in_ok-page.page in
    let page = turned (goal.at.loop-total-preserved c).In_ok-page in
    let len = c.len-total-in-loop-total.ensures in
    let few : length l ≤ 34 = omega (arith, len.value, len.most) in
    let on = page-on a.bib a.at c.in-Some.from o l page few in
    let fit = rw c.in-Some.is at c.loop-total.invariant.2 in (
      omega (arith, len.most, c.if-places-total.false),
      (on.0, rw c.after-more-in-loop-total.ensures on.2),
      rw (len.value, c.after-more-in-loop-total.ensures) (count-on a.bib a.at c.in-Some.from o l page few a.places c.loop-total.total _ fit),
    )
