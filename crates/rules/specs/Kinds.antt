-- The kind of an entry, which is known where its number is one of the table's.
use Rattle.std.specs.Prelude.{ℕ, Option, None, Some, eqb}
use Rattle.rules.specs.declared.Entry.{Entry}
use Rattle.rules.specs.declared.Kind.{Kind}
use Rattle.rules.specs.declared.Kind.TheVariants.{Post, Strike, Index, Root}
use Rattle.rules.specs.Plain.{if}
use Rattle.rules.specs.Sector.{is_post, is_strike, is_index, is_root}

unfoldable pub kind_of : Entry → Option Kind
kind_of e = if (is_post e) (Some Post) (if (is_strike e) (Some Strike) (if (is_index e) (Some Index) (if (is_root e) (Some Root) None)))
