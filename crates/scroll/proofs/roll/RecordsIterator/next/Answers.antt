-- The next of the records that are left; a refusal, the end and the last place leave none.
use borrow.Author.Rules.{rules}
use mathlib.Core.Path.{◌≡◌, ap}
use lib.ListN.{length}
use Rattle.scroll.proofs.Rolls.{row-none, row-ended, row-refused, row-found}
use Rattle.scroll.proofs.roll.RecordsIterator.next.Goals as goal
use Rattle.scroll.proofs.roll.RecordsIterator.next.Goals.{In-Ok-Some}
use Rattle.rules.specs.Records.{rolled}
use mathlib.Core.List.{◌∷◌}

pub returns-in_err-self-clause-steps : goal.returns-in_err-self-clause-steps
returns-in_err-self-clause-steps c =
    let s = c.args.self.now in
    let none = row-none s.card.now s.at s.last s.places c.in_err-self.ensures in
    rw c.from_residual.ensures (none, none)

pub returns-in_default-clause-steps : goal.returns-in_default-clause-steps
returns-in_default-clause-steps c =
    let s = c.args.self.now in
    let ended = row-ended s.card.now s.at s.last _ c.following.ensures.answer (search rules) in
    (ended _, ended _)

pub returns-in_default-2-clause-steps : goal.returns-in_default-2-clause-steps
returns-in_default-2-clause-steps c =
    let s = c.args.self.now in
    let refused = row-refused s.card.now s.at s.last _ c.following.ensures.answer _ c.in_default.is in
    (refused _, refused _)

-- the record that was found is the first of those left
first : (q : In-Ok-Some) → let s = q.args.self.now in (rolled s.card.now s.at s.places s.last).records ≡ q.in-Ok-Some.e ∷ (rolled s.card.now s.at q.in_ok-self.field-0 q.in-Ok-Some.e.key).records
first q =
    let s = q.args.self.now in
    row-found s.card.now s.at s.last _ q.following.ensures.answer _ (search rules) q.following.ensures.above _ _ q.in_ok-self.ensures

pub returns-clause-steps : goal.returns-clause-steps
returns-clause-steps c = first (goal.at.returns-clause-steps c).In-Ok-Some

pub returns-clause-goes : goal.returns-clause-goes
returns-clause-goes c = let shorter = ap length (first (goal.at.returns-clause-goes c).In-Ok-Some) in search rules
