-- What a card that is opened again says of itself.
use Rattle.std.specs.Prelude.{ℕ, List}
use Rattle.std.specs.Prelude.{Option, None, Some}
use Rattle.rules.specs.declared.Head.{Head}
use Rattle.rules.specs.declared.State.{State}
use Rattle.rules.specs.Layout.{head_of, beginning}
use Rattle.rules.specs.Write.{stamp_on, top_used}

-- the head's numbers and the card's beginning, beside what its buckets say
abbrev pub state_of : Head → ℕ → ℕ → ℕ → State
state_of h begin last used = record { code = 0; buckets = h.n; sectors = h.m; td = h.td; ti = h.ti; begin = begin; last = last; used = used }

-- "A refusal gives zeros beside its number"
abbrev pub no_state : ℕ → State
no_state c = record { code = c; buckets = 0; sectors = 0; td = 0; ti = 0; begin = 0; last = 0; used = 0 }

-- 1; else the stamp that answer 3 asks a new one to be above, and the bucket that fresh ones are numbered past
unfoldable pub state_in : List ℕ → Option Head → State
state_in card None = no_state 1
state_in card (Some h) = state_of h (beginning card) (stamp_on h card) (top_used h card h.n)

unfoldable pub state : List ℕ → State
state card = state_in card (head_of card)
