-- `roll::counted` counts the records of a roll. Those counted and the roll that is left give what the whole roll gives.
use Rattle.scroll.proofs.Rolls.{count-refused, count-ended, count-found, count-full}
use borrow.Author.Rules.{rules}
use Rattle.scroll.proofs.roll.counted.Goals as goal

pub returns-in-Err-clause-value : goal.returns-in-Err-clause-value
returns-in-Err-clause-value c =
    let a = c.args in
    let l = c.loop-count in
    count-refused a.card.now a.at a.places l.count l.last _ c.following.ensures.answer _ l.invariant (search rules) c.in-Err.refusal (search rules)

pub returns-in-Ok-None-clause-value : goal.returns-in-Ok-None-clause-value
returns-in-Ok-None-clause-value c =
    let a = c.args in
    let l = c.loop-count in
    count-ended a.card.now a.at a.places l.count l.last _ c.following.ensures.answer _ l.invariant (search rules)

pub loop-count-preserved : goal.loop-count-preserved
loop-count-preserved c =
    let a = c.args in
    let l = c.loop-count in
    count-found a.card.now a.at a.places l.count l.last _ c.following.ensures.answer _ l.invariant (search rules) c.in-Ok-Some.e (search rules) c.following.ensures.above

pub returns-clause-value : goal.returns-clause-value
returns-clause-value c =
    let a = c.args in
    let l = c.loop-count in
    count-full a.card.now a.at a.places l.last _ (search rules)
