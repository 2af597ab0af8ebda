-- Each way out of a look is a clause of the rule.
use mathlib.Core.Path.{sym, ap, ◌∙◌}
use Rattle.std.proofs.lemmas.Result.{err_from_is_err_and}
use Rattle.rules.specs.Answers.{result_of}
use Rattle.journal.proofs.Plans.{broken-none, sound-some, look-broken, look-zero, look-told}
use Rattle.journal.proofs.looked.Goals as goal

pub returns-in_err-pass : goal.returns-in_err-pass
unfolding result_of
returns-in_err-pass c =
    let a = c.args in
    let p = err_from_is_err_and c.from_residual.result c.from_residual.ensures.1 in
    let broken = broken-none a.bib a.at _ _ (sym c.read.ensures ∙ c.in_err-pass.was) in
    ap result_of p.1 ∙ rw (p.2, broken.1) (look-broken a.slice.now a.bib a.at broken.0)

pub returns-then-bib-eq0 : goal.returns-then-bib-eq0
unfolding result_of
returns-then-bib-eq0 c =
    let a = c.args in
    let held = sound-some a.bib a.at _ _ (sym c.read.ensures ∙ c.in_ok-pass.was) in
    look-zero a.slice.now a.bib a.at held.0 held.1 c.if-bib-eq0.true

pub returns : goal.returns
unfolding result_of
returns c =
    let a = c.args in
    let held = sound-some a.bib a.at _ _ (sym c.read.ensures ∙ c.in_ok-pass.was) in
    c.tell.ensures ∙ look-told a.slice.now a.bib a.at held.0 held.1 c.if-bib-eq0.false _ held.2
