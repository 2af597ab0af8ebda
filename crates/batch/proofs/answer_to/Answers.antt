-- `batch::answer_to` answers one request as the rule does.
use mathlib.Core.Path.{refl, sym, ◌∙◌, ap, subst}
use native.Mathlib.Omega.{arith}
use Rattle.rules.specs.Sector.{sector_at}
use Rattle.rules.specs.Write.{plan}
use Rattle.laws.proofs.Entries.{Asks}
use Rattle.laws.proofs.Bytes.{get-bytes, bytes-sector}
use Rattle.laws.proofs.Requests.{well-asks, ill-asked, asked}
use Rattle.batch.proofs.Carries.{took-same}
use Rattle.batch.proofs.answer_to.Goals as goal

pub returns-then-not-well_asked : goal.returns-then-not-well_asked
returns-then-not-well_asked c =
    let a = c.args in
    (ill-asked a.card.now (sector_at a.requests.now a.i) a.head c.requires.0 (sym c.well_asked.ensures ∙ c.if-not-well_asked.true), refl)

pub enter-requires : goal.enter-requires
enter-requires c =
    let a = c.args in
    let s = sector_at a.requests.now a.i in
    let by = get-bytes a.requests.now (λ i. omega (arith, c.type_inv.requests i)) in
    (c.requires.0, subst Asks (sym c.fields_at.ensures) (well-asks s (bytes-sector a.requests.now a.i by) (sym c.well_asked.ensures ∙ c.if-not-well_asked.false)), c.requires.1)

pub returns : goal.returns
returns c =
    let a = c.args in
    let s = sector_at a.requests.now a.i in
    took-same _ a.head a.card.now _ _ _
    (asked a.card.now s a.head c.requires.0 (sym c.well_asked.ensures ∙ c.if-not-well_asked.false) ∙ ap (plan a.card.now) (sym c.fields_at.ensures))
    c.enter.ensures
