-- `storeys::pair_on` reads a bucket's pair from its header.
use mathlib.Core.Path.{refl, ◌∙◌}
use native.Mathlib.Omega.{arith}
use Rattle.laws.proofs.Heads.{bucket-fits}
use Rattle.season.specs.Storeys.{pair_on}
use Rattle.season.proofs.storeys.pair_on.Goals as goal

pub bytes-requires : goal.bytes-requires
bytes-requires c =
    let a = c.args in
    let fits = bucket-fits a.head a.card.now a.b c.requires.0.long c.requires.1 c.requires.2 in
    omega (arith, c.requires.0.lim.m4, c.first_sector-first.ensures)

pub returns : goal.returns
unfolding pair_on
returns c = c.index.ensures ∙ rw (c.read_word-key.ensures, c.bytes.ensures, c.first_sector-first.ensures) refl
