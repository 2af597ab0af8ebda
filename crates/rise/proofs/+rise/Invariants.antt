use Rattle.std.proofs.Common.{length}
use Rattle.rise.proofs.+rise.Given as goal

-- proposed from what the function passes where it calls itself
abbrev pub decreases-rise : goal.decreases-rise
decreases-rise l = length l.levels.now
