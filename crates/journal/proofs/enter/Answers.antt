-- An entry follows the rule's plan for it.
use mathlib.Core.Path.{◌≡◌, refl, ap, sym, ◌∙◌}
use Rattle.std.specs.Prelude.{Some}
use Rattle.std.proofs.lemmas.Result.{err_from_is_err_and}
use mathlib.Core.List.{List}
use Rattle.rules.specs.declared.Entry.{Entry}
use Rattle.rules.specs.Answers.{result_of, ended, refused}
use Rattle.rules.specs.Journal.{journal}
use Rattle.rules.specs.Write.{latest}
use Rattle.laws.proofs.Follows.{refuses, accepts}
use Rattle.laws.proofs.Journals.{not-journal}
use Rattle.journal.specs.Passes.{pass_of}
use Rattle.journal.proofs.Plans.{broken-none, sound-some, objected, written, room_for, narrow-now}
use Rattle.journal.proofs.enter.Goals as goal
use Rattle.journal.proofs.enter.Goals.{In_ok-pass}

-- the entries that were read
held_at : (q : In_ok-pass) →
    let a = q.args in
    (es : List Entry) × (journal a.slice.now ≡ Some es) × (q.in_ok-pass.pass ≡ pass_of a.e.key latest es)
held_at q =
    let a = q.args in
    sound-some a.e.key latest _ _ (sym q.read.ensures ∙ q.in_ok-pass.was)

pub returns-in_err-pass : goal.returns-in_err-pass
unfolding result_of
returns-in_err-pass c =
    let a = c.args in
    let p = err_from_is_err_and c.from_residual.result c.from_residual.ensures.1 in
    let broken = broken-none a.e.key latest _ _ (sym c.read.ensures ∙ c.in_err-pass.was) in
    let f = refuses _ a.slice.now _ 1 (not-journal a.slice.now a.e broken.0) (ap result_of p.1 ∙ rw (p.2, broken.1) refl) in
    record { value = f.answer; slice_after = f.bytes }

pub returns-in_err-admit : goal.returns-in_err-admit
unfolding result_of
returns-in_err-admit c =
    let a = c.args in
    let held = held_at (goal.at.returns-in_err-admit c).In_ok-pass in
    let p = err_from_is_err_and c.from_residual-in_err-admit.result c.from_residual-in_err-admit.ensures.1 in
    let f = refuses _ a.slice.now _ _ (objected a.slice.now a.e held.0 held.1 _ held.2 _ (sym c.admit.ensures ∙ c.in_err-admit.was)) (ap result_of p.1 ∙ rw p.2 refl) in
    record { value = f.answer; slice_after = f.bytes }

pub write_entry-requires : goal.write_entry-requires
write_entry-requires c =
    let a = c.args in
    let held = held_at (goal.at.write_entry-requires c).In_ok-pass in
    let says = sym c.admit.ensures ∙ c.in_ok-admit.was in
    (room_for a.slice.now a.e held.0 held.1 _ held.2 says, narrow-now a.slice.now a.e held.0 held.1 _ held.2 says c.requires)

pub returns : goal.returns
unfolding result_of ended refused
returns c =
    let a = c.args in
    let held = held_at (goal.at.returns c).In_ok-pass in
    let p = written a.slice.now a.e held.0 held.1 _ held.2 (sym c.admit.ensures ∙ c.in_ok-admit.was) in
    let f = accepts _ a.slice.now _ _ p c.end.ensures in
    record { value = f.answer; slice_after = c.write_entry.ensures ∙ f.bytes }
