-- The season card: what stands as of a stamp goes on to a blank second card.
use Rattle.std.specs.Prelude.{ℕ, zero, suc, ◌+◌, ◌-◌, ◌*◌, ◌/◌, not, List, [], ◌∷◌, length, take, drop, ltb, eqb}
use Rattle.std.specs.Prelude.{Option, None, Some}
use Rattle.rules.specs.declared.Entry.{Entry}
use Rattle.rules.specs.declared.Head.{Head}
use Rattle.rules.specs.Plain.{◌&◌, zeros}
use Rattle.rules.specs.Sector.{put, encode, root_entry}
use Rattle.rules.specs.Layout.{limits, size_of, head_bytes, head_of, beginning}
use Rattle.rules.specs.Rewrite.{Rise, into, pair}
use Rattle.rules.specs.Write.{Plan, refuse, accept, refuse_if}
use Rattle.rules.specs.Format.{meant, dummy}
use Rattle.rules.specs.Records.{Roll, rolled}

-- "the standing records in bib order": what next gives one after the other, of which no card has more than there are bibs
unfoldable pub standing_at : List ℕ → ℕ → Roll
standing_at card t = rolled card t 4294967296 0

-- "floor(3m/4) to a bucket", whatever TD is
unfoldable pub quota : Head → ℕ
quota h = 3 * h.m / 4

-- entries cut into parts of q, "the last holding what is left"; f is as many parts as there can be
unfoldable pub parts : ℕ → ℕ → List Entry → List (List Entry)
parts q zero es = []
parts q (suc f) [] = []
parts q (suc f) (e ∷ es) = take q (e ∷ es) ∷ parts q f (drop q (e ∷ es))

-- each part into a bucket of its own, from bucket b on, and the pairs of these buckets
unfoldable pub filled : Head → ℕ → List (List Entry) → List ℕ → List ℕ
filled h b [] card = card
filled h b (p ∷ ps) card = filled h (b + 1) ps (into h b p card)

unfoldable pub pairs_from : ℕ → ℕ → List (List Entry) → List Entry
pairs_from t b [] = []
pairs_from t b (p ∷ ps) = pair t b p ∷ pairs_from t (b + 1) ps

-- one level: the entries in hand go into fresh buckets, whose pairs are then in hand. "Buckets are numbered as written"
unfoldable pub storey_of : Head → ℕ → List (List Entry) → Rise → Rise
storey_of h t ps r =
    record { hand = pairs_from t r.fresh ps; fresh = r.fresh + length ps; card = filled h r.fresh ps r.card }

unfoldable pub storey : Head → ℕ → Rise → Rise
storey h t r = storey_of h t (parts (quota h) (length r.hand) r.hand) r

-- "index levels are built likewise above, at least one, until one bucket is left as root"; f is as many levels as there can be
unfoldable pub until_one : List Entry → Rise → (Rise → Rise) → Rise
until_one [] r on = r
until_one (p ∷ []) r on = r
until_one (p ∷ d ∷ ps) r on = on r

unfoldable pub tower : Head → ℕ → ℕ → Rise → Rise
tower h t zero r = r
tower h t (suc f) r = let up = storey h t r in until_one up.hand up (tower h t f)

unfoldable pub tower_on : Head → ℕ → Rise → Rise
tower_on h t r = tower h t (length r.hand) r

-- "data first": the head with its beginning, the dummy and the records, the index levels
unfoldable pub built : Head → ℕ → List Entry → List ℕ → Rise
built h t es card = tower_on h t (storey h t (record { hand = dummy ∷ es; fresh = 1; card = put card 0 (head_bytes h t) }))

-- "then 6 if the target has too few buckets"; the last bucket is the root, and "index and root entries carry t"
unfoldable pub rooted_on : Head → ℕ → Rise → Plan
rooted_on h t r = refuse_if (ltb (h.n + 1) r.fresh) 6 (accept (put r.card 1 (encode (root_entry t (r.fresh - 1)))))

-- "then 4 as for next"
unfoldable pub season_on : Head → ℕ → List ℕ → Roll → Plan
season_on h t target r = refuse_if (not (eqb r.code 0)) 4 (rooted_on h t (built h t r.records target))

-- 8 and 9 as in format
unfoldable pub season_to : Head → ℕ → List ℕ → Roll → Plan
season_to h t target r =
    refuse_if (not (limits h & eqb (length target) (size_of h))) 8 (refuse_if (not (zeros target)) 9 (season_on h t target r))

-- 1, then 13: "as-of before the beginning"; "the target's 8 and 9 come after the source's 1 and 13"
unfoldable pub season_for : List ℕ → ℕ → List ℕ → Head → Option Head → Plan
season_for card t target th None = refuse 1
season_for card t target th (Some h) = refuse_if (ltb t (beginning card)) 13 (season_to th t target (standing_at card t))

unfoldable pub season : List ℕ → ℕ → List ℕ → ℕ → ℕ → ℕ → ℕ → Plan
season card t target n m td ti = season_for card t target (meant n m td ti) (head_of card)
