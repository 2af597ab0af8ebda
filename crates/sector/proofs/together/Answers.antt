-- The bits are zero where all bytes before i are.
use Rattle.std.proofs.Common.{◌≡◌, ◌<◌, length, arith, sym, ◌∙◌}
use Rattle.sector.proofs.Zeros.{four-step, four-end}
use Rattle.sector.proofs.together.Goals as goal

pub loop-i-preserved : goal.loop-i-preserved
loop-i-preserved c =
    let p = c.args in
    let i = c.loop-i.i in
    let less : i < length p.a.now = omega arith in
    four-step p.a.now p.b.now p.c.now p.d.now i c.loop-i.bits less (omega arith) (omega arith) (omega arith) ∙ c.loop-i.invariant

pub returns : goal.returns
returns c =
    let p = c.args in
    let i = c.loop-i.i in
    let end : i ≡ length p.a.now = omega arith in
    sym (four-end p.a.now p.b.now p.c.now p.d.now i c.loop-i.bits end (omega arith) (omega arith) (omega arith)) ∙ c.loop-i.invariant
