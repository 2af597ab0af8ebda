-- `season::season_of` follows the rule's plan: the source's refusals come first.
use mathlib.Core.Path.{refl}
use Rattle.std.proofs.lemmas.Result.{err_from_is_err_and}
use Rattle.season.proofs.Orders.{no-head, too-early, in-time}
use Rattle.season.proofs.season_of.Goals as goal

pub returns-in_err-read : goal.returns-in_err-read
returns-in_err-read c =
    let a = c.args in
    let p = err_from_is_err_and c.from_residual.result c.from_residual.ensures.1 in
    rw p.1 (rw (p.2, c.in_err-read.ensures.0) (no-head a.card.now a.at a.target.now a.head c.in_err-read.ensures.1, refl))

pub returns-in_err-as_of : goal.returns-in_err-as_of
returns-in_err-as_of c =
    let a = c.args in
    let p = err_from_is_err_and c.from_residual-in_err-as_of.result c.from_residual-in_err-as_of.ensures.1 in
    let early = rw c.in_ok-read.ensures.1 at c.in_err-as_of.ensures.1 in
    rw p.1 (rw (p.2, c.in_err-as_of.ensures.0) (too-early a.card.now a.at a.target.now a.head _ c.in_ok-read.ensures.0 early, refl))

pub returns : goal.returns
returns c =
    let a = c.args in
    let le = rw c.in_ok-read.ensures.1 at c.in_ok-as_of.ensures in
    rw (in-time a.card.now a.at a.target.now a.head _ c.in_ok-read.ensures.0 le) c.season_to.ensures
