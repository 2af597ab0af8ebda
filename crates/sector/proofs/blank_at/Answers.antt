-- `sector::blank_at`: sixteen bytes are zero where their four words are.
use Rattle.std.proofs.Common.{rules, ◌≡◌, length}
use Rattle.scan.proofs.Words.{zeros-words}
use Rattle.sector.proofs.blank_at.Goals as goal

pub returns : goal.returns
returns c = let h : length c.bytes-s.result.now ≡ 16 = search rules in cc (zeros-words c.bytes-s.result.now h)
