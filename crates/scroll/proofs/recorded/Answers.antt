-- `scroll::recorded` meets its contract: 1 where the head is broken, 13 before its beginning, else a page.
use Prim.Native.Nat.{◌/◌}
use lib.ListN.{length}
use Rattle.std.proofs.lemmas.Result.{err_from_is_err_and}
use Rattle.scroll.proofs.Rolls.{records-broken, records-early, records-sound, refused-roll}
use Rattle.scroll.proofs.recorded.Goals as goal

pub returns-in_err-read : goal.returns-in_err-read
returns-in_err-read c =
    let a = c.args in
    let p = err_from_is_err_and c.from_residual.result c.from_residual.ensures.1 in
    refused-roll _ a.out.now _ _ p.1 (rw (p.2, c.in_err-read.ensures.0) (records-broken a.card.now a.at _ a.bib c.in_err-read.ensures.1))

pub returns-in_err-as_of : goal.returns-in_err-as_of
returns-in_err-as_of c =
    let a = c.args in
    let p = err_from_is_err_and c.from_residual-in_err-as_of.result c.from_residual-in_err-as_of.ensures.1 in
    let early = rw c.in_ok-read.ensures.1 at c.in_err-as_of.ensures.1 in
    refused-roll _ a.out.now _ _ p.1 (rw (p.2, c.in_err-as_of.ensures.0) (records-early a.card.now a.at _ a.bib _ c.in_ok-read.ensures.0 early))

pub returns : goal.returns
returns c =
    let a = c.args in
    let le = rw c.in_ok-read.ensures.1 at c.in_ok-as_of.ensures in
    rw (records-sound a.card.now a.at (length a.out.now / 16) a.bib _ c.in_ok-read.ensures.0 le) c.page.ensures
