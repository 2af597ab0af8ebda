-- Each way out of next is a clause of the rule.
use mathlib.Core.Path.{◌≡◌, ap, sym, ◌∙◌}
use mathlib.Core.List.{List}
use Rattle.std.specs.Prelude.{Some}
use Rattle.std.proofs.lemmas.Result.{err_from_is_err_and}
use Rattle.rules.specs.declared.Entry.{Entry}
use Rattle.rules.specs.Answers.{result_of}
use Rattle.rules.specs.Journal.{journal, next_of, journal_next, journal_next_in}
use Rattle.journal.specs.declared.Pass.{Pass}
use Rattle.journal.specs.Passes.{pass_of}
use Rattle.journal.proofs.Readings.{written-runs, written-lies, next-is}
use Rattle.journal.proofs.Plans.{broken-none, sound-some}
use Rattle.journal.proofs.following.Goals as goal
use Rattle.journal.proofs.following.Goals.{In_ok-pass, After-standing}

pub returns-in_err-pass : goal.returns-in_err-pass
unfolding result_of journal_next journal_next_in
returns-in_err-pass c =
    let a = c.args in
    let p = err_from_is_err_and c.from_residual.result c.from_residual.ensures.1 in
    let broken = broken-none a.bib a.at _ _ (sym c.read.ensures ∙ c.in_err-pass.was) in
    ap result_of p.1 ∙ rw (p.2, broken.1, broken.0)

-- the entries that were read
held_at : (q : In_ok-pass) →
    let a = q.args in
    (es : List Entry) × (journal a.slice.now ≡ Some es) × (q.in_ok-pass.pass ≡ pass_of a.bib a.at es)
held_at q =
    let a = q.args in
    sound-some a.bib a.at _ _ (sym q.read.ensures ∙ q.in_ok-pass.was)

pub standing-requires : goal.standing-requires
unfolding pass_of
standing-requires c =
    let a = c.args in
    let held = held_at (goal.at.standing-requires c).In_ok-pass in
    let all = ap (λ (p : Pass). p.used) held.2 in
    (written-lies a.slice.now held.0 held.1 _ all, written-runs a.slice.now held.0 held.1 _ all)

-- what next answers of what stands
next_at : (q : After-standing) → next_of q.standing.result ≡ journal_next q.args.slice.now q.args.bib q.args.at
unfolding pass_of
next_at q =
    let a = q.args in
    let held = sound-some a.bib a.at _ _ (sym q.read.ensures ∙ q.in_ok-pass.was) in
    ap next_of q.standing.ensures ∙ next-is a.slice.now held.0 held.1 _ (ap (λ (p : Pass). p.used) held.2) a.bib a.at

pub returns-in-Some : goal.returns-in-Some
unfolding result_of next_of
returns-in-Some c = c.given.ensures ∙ (rw c.in-Some.is at (next_at (goal.at.returns-in-Some c).After-standing))

pub returns-in-None : goal.returns-in-None
unfolding result_of next_of
returns-in-None c = c.end.ensures ∙ (rw c.in-None.is at (next_at (goal.at.returns-in-None c).After-standing))
