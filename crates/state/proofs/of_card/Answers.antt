-- The highest bucket used is one of the card's.
use native.Mathlib.Omega.{arith}
use Rattle.laws.proofs.Used.{used-within}
use Rattle.state.proofs.of_card.Goals as goal

pub state_of-requires : goal.state_of-requires
state_of-requires c = let u = used-within c.in-Ok.card.head c.in-Ok.card.bytes.now c.in-Ok.card.head.n in omega (arith, u, c.survey.ensures.1)
