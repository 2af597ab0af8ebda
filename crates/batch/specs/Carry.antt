-- What a batch carries from request to request.
use Rattle.std.specs.Prelude.{ℕ, ◌≡◌, List, Some, Result, Ok, Err}
use Rattle.rules.specs.declared.Head.{Head}
use Rattle.rules.specs.declared.refusal.Refusal.{Refusal}
use Rattle.rules.specs.Refusals.{number}
use Rattle.rules.specs.Layout.{head_of}
use Rattle.rules.specs.Write.{Plan, refuse, accept, stamp_on, top_used}
use Rattle.laws.proofs.Roots.{root_now}
use Rattle.write.specs.declared.Entered.{Entered}
use Rattle.batch.specs.declared.Known.{Known}

-- what is known is what the rule reads off the card
pub record Knows (h : Head) (card : List ℕ) (k : Known) : Type 0 where
  pub stamp : k.stamp ≡ stamp_on h card
  pub used : k.used ≡ top_used h card h.n
  pub root : k.root ≡ root_now h card

-- what an accepted first request, stamped `at`, tells of the card
abbrev pub Knew : Head → List ℕ → Result Entered Refusal → ℕ → Type 0
Knew h card (Ok entered) at = Knows h card (record { stamp = at; used = entered.used; root = entered.root })
Knew h card (Err r) at = Unit {0}

-- a request was answered by its plan, and what is known afterwards is read off the card it left; or it was refused
abbrev pub Took : Result Known Refusal → Head → List ℕ → List ℕ → Plan → Type 0
Took (Ok known) h card after p = (p ≡ accept after) × (head_of after ≡ Some h) × Knows h after known
Took (Err r) h card after p = (p ≡ refuse (number r)) × (after ≡ card)

-- the number that answers
abbrev pub code_of : {A : Type 0} → Result A Refusal → ℕ
code_of (Ok x) = 0
code_of (Err r) = number r
