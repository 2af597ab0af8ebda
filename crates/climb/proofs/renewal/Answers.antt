-- `climb::renewal` foretells what a rewrite hands on.
use Rattle.climb.proofs.renewal.Goals as goal

pub kept_in-requires : goal.kept_in-requires
kept_in-requires c = record { read = c.requires.read; small = c.requires.small.0 }

pub returns : goal.returns
returns c = rw (← c.limit_in-limit.ensures.0, ← c.kept_in.ensures.0, ← c.as_slice.ensures.value) c.sent_up.ensures
