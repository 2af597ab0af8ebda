-- The numbers of the refusals, as documents 01 and 02 give them.
use Rattle.std.specs.Prelude.{ℕ}
use Rattle.rules.specs.declared.refusal.Refusal.{Refusal}
use Rattle.rules.specs.declared.refusal.Refusal.TheVariants.{Layout, NoBib, Stamp, Damage, NothingStands, Full, Panel, Shape, NotBlank, NoLine, NoRequest, Unpaired, TooEarly, NoStatus, NoRoom}

abbrev pub number : Refusal → ℕ
number Layout = 1
number NoBib = 2
number Stamp = 3
number Damage = 4
number NothingStands = 5
number Full = 6
number Panel = 7
number Shape = 8
number NotBlank = 9
number NoLine = 10
number NoRequest = 11
number Unpaired = 12
number TooEarly = 13
number NoStatus = 14
number NoRoom = 15
