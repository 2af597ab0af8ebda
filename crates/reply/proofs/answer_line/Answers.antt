-- `reply::answer_line` puts an answer's fields one behind the other.
use mathlib.Core.Path.{◌≡◌}
use mathlib.Core.List.{◌++◌, append_assoc}
use Rattle.rules.specs.declared.Answer.{Answer}
use Rattle.rules.specs.Bench.{text, decimal, answer_line}
use Rattle.reply.proofs.answer_line.Goals as goal

fields-line : (a : Answer) →
    (text "code=" ++ decimal a.code) ++ (text " bib=" ++ decimal a.bib) ++ (text " at=" ++ decimal a.at)
    ++ (text " status=" ++ decimal a.status) ++ (text " time=" ++ decimal a.time) ++ (text " reads=" ++ decimal a.reads) ++ text "\n" ≡ answer_line a
unfolding answer_line
fields-line a = simp append_assoc

pub returns : goal.returns
unfolding text
returns c =
    rw (c.push_str.ensures.bytes, c.field-6.ensures.bytes, c.field-5.ensures.bytes, c.field-4.ensures.bytes, c.field-3.ensures.bytes, c.field-2.ensures.bytes)
    (rw (c.field.ensures.bytes, c.new-line.ensures) (fields-line c.args.answer))
