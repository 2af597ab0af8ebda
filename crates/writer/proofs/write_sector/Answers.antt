-- `writer::write_sector` lays down four bytes and three numbers.
use Rattle.std.proofs.Common.{rules, ◌≡◌, refl, ℕ, ◌<◌, ◌/◌, ◌%◌, length, ◌∙◌, arith}
use Rattle.std.specs.Int.{to_le_bytes, w32}
use Rattle.rules.specs.Sector.{le4}
use Rattle.writer.proofs.Laws.{four-lent}
use Rattle.writer.proofs.write_sector.Goals as goal

-- the library's four bytes of a number are the rule's
low_first : (x : ℕ) → x < 4294967296 → to_le_bytes w32 x ≡ le4 x
unfolding le4
low_first x h = let e : x / 16777216 % 256 ≡ x / 16777216 = omega arith in rw e refl

pub returns : goal.returns
returns c =
    let a = c.args in
    let four : length a.first ≡ 4 = search rules in
    four-lent a.sector.now a.first _ _ _ _ _ _ _ c.requires four
    c.write_word.ensures
    (c.write_word-2.ensures ∙ c.to_le_bytes.ensures ∙ low_first a.key c.ranges.key.fits)
    (c.write_word-3.ensures ∙ c.to_le_bytes-2.ensures ∙ low_first a.stamp c.ranges.stamp.fits)
    (c.write_word-4.ensures ∙ c.to_le_bytes-3.ensures ∙ low_first a.value c.ranges.value.fits)
