-- The two ways of the rule: a card without a head, and one with it.
use mathlib.Core.Path.{◌≡◌}
use mathlib.Core.List.{List}
use Rattle.std.specs.Prelude.{None, Some}
use Prim.Native.Nat.{ℕ}
use Rattle.rules.specs.declared.Head.{Head}
use Rattle.rules.specs.Layout.{head_of, beginning}
use Rattle.rules.specs.State.{state_of, no_state, state_in, state}
use Rattle.rules.specs.Write.{stamp_on, top_used}

-- a card without a head is refused by number 1
pub no-head : (card : List ℕ) → head_of card ≡ None → state card ≡ no_state 1
unfolding state state_in
no-head card q = rw q

pub with-head : (card : List ℕ) (h : Head) → head_of card ≡ Some h → (begin stamp used : ℕ) → begin ≡ beginning card → stamp ≡ stamp_on h card → used ≡ top_used h card h.n
    → state_of h begin stamp used ≡ state card
unfolding state state_in
with-head card h q begin stamp used b s u = rw (q, b, s, u)
