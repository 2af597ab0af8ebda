-- Whether an entry may be written, whatever it is to be written to: refused for want of a bib, and then for its status.
use Rattle.std.specs.Prelude.{eqb, Result, Ok, Err}
use Rattle.rules.specs.declared.Entry.{Entry}
use Rattle.rules.specs.declared.refusal.Refusal.{Refusal}
use Rattle.rules.specs.declared.refusal.Refusal.TheVariants.{NoBib, NoStatus}
use Rattle.rules.specs.Plain.{if}
use Rattle.rules.specs.Sector.{status_fits}

unfoldable pub checked : Entry → Result (Unit {0}) Refusal
checked e = if (eqb e.key 0) (Err NoBib) (if (status_fits e.status e.value) (Ok tt) (Err NoStatus))
