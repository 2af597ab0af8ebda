-- What a row of records has left.
use Rattle.std.specs.Prelude.{List}
use Rattle.rules.specs.declared.Entry.{Entry}
use Rattle.rules.specs.Records.{rolled}
use Rattle.scroll.specs.declared.roll.Records.{Records}

abbrev pub left : Records → List Entry
left s = (rolled s.card.now s.at s.places s.last).records
