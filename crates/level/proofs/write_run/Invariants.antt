-- `level::write_run` lays entries down in a row. What is left to lay down, on the card as it is, gives what all gives on the card that came.
use Rattle.std.proofs.Common.{◌≡◌, ◌+◌, drop}
use Rattle.writer.specs.Rows.{puts}
use Rattle.level.specs.Level.{AllSmall}
use Rattle.level.proofs.write_run.Given as goal

abbrev pub invariant-loop-i : goal.invariant-loop-i
invariant-loop-i l = record {
  all_small : AllSmall (drop l.i l.entries);
  so_far : puts l.card (l.at + l.i) (drop l.i l.entries) ≡ puts l.initial.card l.at l.entries;
}
