-- The checker computes each list from the rules.
use Rattle.rules.proofs.Opened.{rules}
use Rattle.scroll.specs.Records.{given, records_in, records_of}
use Rattle.cases.specs.Growing.{GrowsAsSaid}
use Rattle.cases.specs.Session.{SessionAsSaid}
use Rattle.cases.specs.Rolls.{RollsAsSaid}
use Rattle.cases.specs.Seasons.{SeasonsAsSaid}

pub growing-passes : GrowsAsSaid
unfolding rules
growing-passes = tt

pub session-passes : SessionAsSaid
unfolding rules
session-passes = tt

pub session-rolls : RollsAsSaid
unfolding rules given records_in records_of
session-rolls = tt

pub seasons-pass : SeasonsAsSaid
unfolding rules
seasons-pass = tt
