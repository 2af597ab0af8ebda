-- `writer::write_entry` lays down an entry's bytes.
use Rattle.std.proofs.Common.{ap, ◌∙◌}
use Rattle.rules.specs.Sector.{put}
use Rattle.writer.proofs.Laws.{entry-words}
use Rattle.writer.proofs.write_entry.Goals as goal

pub returns : goal.returns
returns c = c.lend.ensures ∙ ap (put c.args.card.now c.args.i) (entry-words c.args.e)
