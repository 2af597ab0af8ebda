-- A morning's results at once: requests of sixteen bytes "in the sector layout", and a byte for each answer.
use Rattle.std.specs.Prelude.{ℕ, zero, suc, ◌/◌, ◌%◌, Bool, not, List, [], ◌∷◌, length, take, drop, eqb}
use Rattle.std.specs.Prelude.{Option, None, Some}
use Rattle.rules.specs.declared.Head.{Head}
use Rattle.rules.specs.Plain.{if, ◌&◌, ◌or◌, zeros}
use Rattle.rules.specs.Sector.{sector_at, fields, is_post}
use Rattle.rules.specs.Layout.{head_of}
use Rattle.rules.specs.Write.{Plan, refuse, refuse_if, plan_card, plan_answer, plan}

-- "a request whose kind is not 1 or 2, with bytes [2..3] not zero, or a strike with a value, answers 11", and byte 1 of a strike:
-- any other is asked well
unfoldable pub well_asked : List ℕ → Bool
well_asked r =
    let e = fields r in
    zeros (take 2 (drop 2 r)) & (is_post e or (eqb e.kind 2 & eqb e.status 0 & eqb e.value 0))

-- 11 is "after 1 and ahead of 2"; else a request is answered as post and strike are
unfoldable pub request_for : List ℕ → List ℕ → Option Head → Plan
request_for card r None = refuse 1
request_for card r (Some h) = refuse_if (not (well_asked r)) 11 (plan card (fields r))

unfoldable pub request : List ℕ → List ℕ → Plan
request card r = request_for card r (head_of card)

-- the c requests from number i on
unfoldable pub requests_in : List ℕ → ℕ → ℕ → List (List ℕ)
requests_in bytes i zero = []
requests_in bytes i (suc c) = sector_at bytes i ∷ requests_in bytes (suc i) c

-- "the card and answers that the same calls one by one would" leave and give; "Refused requests don't stop it"
unfoldable pub card_of : List ℕ → List (List ℕ) → List ℕ
card_of card [] = card
card_of card (r ∷ rs) = card_of (plan_card card (request card r)) rs

unfoldable pub answers_to : List ℕ → List (List ℕ) → List ℕ
answers_to card [] = []
answers_to card (r ∷ rs) = (plan_answer (request card r)).code ∷ answers_to (plan_card card (request card r)) rs

-- the batch's own answer, and both lent slices afterwards
pub record Batch : Type 0 where
  pub code : ℕ
  pub card : List ℕ
  pub answers : List ℕ

-- 12: "buffers of unequal count, or not a multiple of 16"
unfoldable pub paired : List ℕ → List ℕ → Bool
paired requests answers = eqb (length requests % 16) 0 & eqb (length requests / 16) (length answers)

-- "otherwise the batch itself answers 0"
unfoldable pub batch : List ℕ → List ℕ → List ℕ → Batch
batch card requests answers =
    let rs = requests_in requests 0 (length answers) in
    if (paired requests answers)
    (record { code = 0; card = card_of card rs; answers = answers_to card rs })
    (record { code = 12; card = card; answers = answers })
