-- `history::lay` lays page after page down. What is left from the page in hand on, in the buffer as it is, gives what the whole gives in the buffer that came.
use mathlib.Core.Path.{◌≡◌, sym, ◌∙◌}
use native.Mathlib.Omega.{arith}
use lib.ListN.{length}
use Rattle.laws.proofs.Tools.{none-some}
use Rattle.rules.specs.History.{area}
use Rattle.gather.specs.Pages.{said}
use Rattle.gather.proofs.Paging.{page-held, page-none}
use Rattle.history.specs.Told.{row_of, rest_from}
use Rattle.history.proofs.Tells.{page-on, room-page, room-on, lay-on, after-full, said-small}
use Rattle.history.proofs.lay.Goals as goal
use Rattle.history.proofs.lay.Goals.{In-Some}

pub write_run-requires : goal.write_run-requires
unfolding said
write_run-requires c =
    let a = c.args in
    let card = a.card.now in
    let l = c.loop-from in
    let o = area card.head card.bytes.now in
    let slice = c.as_slice.ensures in
    let f = l.invariant.0 in
    let on = page-on a.bib a.at f o l.page l.invariant.1 slice.most in
    rw slice.value (room-page a.bib a.at f o l.page l.invariant.1 slice.most _ l.k l.invariant.2, said-small card.head card.bytes.now a.bib a.at f l.page on.0 on.1)

pub returns-in_default : goal.returns-in_default
unfolding said row_of rest_from
returns-in_default c =
    let a = c.args in
    let card = a.card.now in
    let l = c.loop-from in
    let o = area card.head card.bytes.now in
    let slice = c.as_slice.ensures in
    let f = l.invariant.0 in
    let written = rw slice.value at c.write_run.ensures in
    rw (sym c.after.ensures ∙ c.in_default.is) at (lay-on a.bib a.at f o l.page l.invariant.1 slice.most l.k l.out _ written _ l.invariant.3)

pub returns-in_default-page_from : goal.returns-in_default-page_from
unfolding said rest_from
returns-in_default-page_from c =
    let a = c.args in
    let card = a.card.now in
    let l = c.loop-from in
    let o = area card.head card.bytes.now in
    let on = page-on a.bib a.at l.invariant.0 o l.page l.invariant.1 c.as_slice.ensures.most in
    let some = rw (sym c.after.ensures ∙ c.in-Some.is) at on.2 in
    absurd (none-some (sym (page-none c.page_from.result _ _ c.page_from.ensures c.in_default-page_from.is) ∙ some))

-- the page was full
full : (q : In-Some) → length q.loop-from.page ≡ 34
full q = after-full q.loop-from.page _ q.as_slice.ensures.most (sym q.in-Some.is ∙ q.after.ensures)

pub loop-from-smaller : goal.loop-from-smaller
unfolding said
loop-from-smaller c =
    let a = c.args in
    let card = a.card.now in
    let l = c.loop-from in
    let all = full (goal.at.loop-from-smaller c).In-Some in
    let room = room-page a.bib a.at l.invariant.0 (area card.head card.bytes.now) l.page l.invariant.1 c.as_slice.ensures.most _ l.k l.invariant.2 in
    omega (arith, all, c.write_run.auto.card)

pub loop-from-preserved : goal.loop-from-preserved
unfolding said rest_from
loop-from-preserved c =
    let a = c.args in
    let card = a.card.now in
    let l = c.loop-from in
    let o = area card.head card.bytes.now in
    let slice = c.as_slice.ensures in
    let f = l.invariant.0 in
    let all = full (goal.at.loop-from-preserved c).In-Some in
    let written = rw slice.value at c.write_run.ensures in
    let next = sym c.after.ensures ∙ c.in-Some.is in
    let room = rw (next, all) at (room-on a.bib a.at f o l.page l.invariant.1 slice.most _ l.k l.invariant.2) in
    let row = rw (next, all) at (lay-on a.bib a.at f o l.page l.invariant.1 slice.most l.k l.out _ written _ l.invariant.3) in
    (c.in-Some.from, page-held c.page_from.result _ _ c.page_from.ensures c.in-Ok.is, rw c.write_run.auto.card room, row)
