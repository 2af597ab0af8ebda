-- `sector::decode` meets its contract: what a sector is, on a card of n buckets.
use Rattle.scan.proofs.Words.{decode-words}
use Rattle.sector.proofs.decode.Goals as goal

pub returns : goal.returns
returns c = cc (decode-words c.args.n c.args.s.now c.told-s (c.fits-s 0))
