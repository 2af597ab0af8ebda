-- Next as the loops run: the questions to one bucket, the walk that carries the least index key above, the rounds.
use Rattle.std.specs.Prelude.{ℕ, zero, suc, Bool, true, false, Option, None, Some, Result, Ok, Err, List, [], ◌∷◌, leb, ltb, eqb}
use Rattle.rules.specs.declared.Entry.{Entry}
use Rattle.rules.specs.declared.Head.{Head}
use Rattle.rules.specs.declared.Answer.{Answer}
use Rattle.rules.specs.declared.Sector.{Sector}
use Rattle.rules.specs.declared.Sector.TheVariants.{Blank, Held, Damaged}
use Rattle.rules.specs.Answers.{answer, refused, ended}
use Rattle.rules.specs.Layout.{base, head_of, beginning}
use Rattle.rules.specs.Plain.{if, ◌&◌}
use Rattle.rules.specs.Sector.{is_index, is_post}
use Rattle.rules.specs.declared.refusal.Damage.{Damage}
use Rattle.scan.specs.declared.Way.{Way}
use Rattle.scan.specs.declared.Way.TheVariants.{Down, End}
use Rattle.scan.specs.declared.Leg.{Leg}
use Rattle.scan.specs.declared.Leg.TheVariants.{Stand, Over}
use Rattle.scan.specs.Scan.{Found, damaged, sectors, all_blank, root_in, search_log}
use Rattle.scan.specs.Look.{search_at}

-- the smaller key
unfoldable pub under : Option Entry → Entry → Option Entry
under None e = Some e
under (Some o) e = if (leb e.key o.key) (Some e) (Some o)

-- where its key is above x
unfoldable pub above : ℕ → Option Entry → Entry → Option Entry
above x best e = if (ltb x e.key) (under best e) best

-- an index entry with a key above x, stamped t or earlier
unfoldable pub above_at : ℕ → ℕ → Option Entry → Entry → Option Entry
above_at x t best e = if (leb e.stamp t) (above x best e) best

unfoldable pub pick_up : ℕ → ℕ → Option Entry → Entry → Option Entry
pick_up x t best e = if (is_index e) (above_at x t best e) best

-- the entries up to the first sector that is none, weighed one after the other
unfoldable pub weigh : (Option Entry → Entry → Option Entry) → List Sector → Option Entry → Option Entry
weigh pick [] best = best
weigh pick (Blank ∷ ss) best = best
weigh pick (Held e ∷ ss) best = weigh pick ss (pick best e)
weigh pick (Damaged ∷ ss) best = best

-- a run of entries that pass the test, and then blanks
unfoldable pub runs : (Entry → Bool) → List Sector → Bool
runs ok [] = true
runs ok (Blank ∷ ss) = all_blank ss
runs ok (Held e ∷ ss) = ok e & runs ok ss
runs ok (Damaged ∷ ss) = false

-- the entry with the smaller key of two that may be there; of one key the second
unfoldable pub nearer : Option Entry → Option Entry → Option Entry
nearer a None = a
nearer a (Some e) = under a e

-- likewise of what two scans found: damage in either is damage
unfoldable pub lower : Found → Found → Found
lower a (Err d) = damaged
lower (Err d) (Ok b) = damaged
lower (Ok a) (Ok b) = Ok (nearer a b)

-- whether a copy of x stamped t or earlier follows
unfoldable pub later : ℕ → ℕ → List Sector → Bool
later x t [] = false
later x t (Blank ∷ ss) = false
later x t (Held e ∷ ss) = if (leb e.stamp t) (if (eqb e.key x) true (later x t ss)) (later x t ss)
later x t (Damaged ∷ ss) = false

-- e, which a later copy of its bib follows or not, against the best so far
unfoldable pub stands : ℕ → Option Entry → Entry → Option Entry
stands k best e = if (is_post e) (above k best e) best

unfoldable pub unless : Bool → ℕ → Option Entry → Entry → Option Entry
unless again k best e = if again best (stands k best e)

unfoldable pub pick_next : ℕ → ℕ → Bool → Option Entry → Entry → Option Entry
pick_next k t again best e = if (leb e.stamp t) (unless again k best e) best

-- the smallest standing bib above k
unfoldable pub stand_in : ℕ → ℕ → List Sector → Option Entry → Option Entry
stand_in k t [] best = best
stand_in k t (Blank ∷ ss) best = best
stand_in k t (Held e ∷ ss) best = stand_in k t ss (pick_next k t (later e.key t ss) best e)
stand_in k t (Damaged ∷ ss) best = best

-- the sectors of bucket b
unfoldable pub sectors_of : Head → List ℕ → ℕ → List Sector
sectors_of h card b = sectors h.n card (base h b) h.m

unfoldable pub leg_of : Option Entry → Option Entry → Leg
leg_of None up = Over up
leg_of (Some e) up = Stand e

-- the data bucket asked for the bib, or the walk on
unfoldable pub stride : Result Way Damage → Leg → (ℕ → ℕ → Result Leg Damage) → Result Leg Damage
stride (Err d) here on = damaged
stride (Ok (Down e)) here on = on e.value e.key
stride (Ok (End copy)) here on = Ok here

-- from bucket b on, f buckets at most; up is the least index key above x so far
unfoldable pub leg_scan : Head → List ℕ → ℕ → ℕ → ℕ → ℕ → Option Entry → ℕ → ℕ → Result Leg Damage
leg_scan h card k x t zero up b j = damaged
leg_scan h card k x t (suc f) up b j =
    let more = weigh (pick_up x t) (sectors_of h card b) up in
    stride (search_at h card x t b j) (leg_of (stand_in k t (sectors_of h card b) None) more) (leg_scan h card k x t f more)

unfoldable pub leg_from : Head → List ℕ → ℕ → ℕ → ℕ → Result Entry Damage → Result Leg Damage
leg_from h card k x t (Err d) = damaged
leg_from h card k x t (Ok e) = leg_scan h card k x t h.n None e.value 0

-- one walk to x
unfoldable pub leg : Head → List ℕ → ℕ → ℕ → ℕ → Result Leg Damage
leg h card k t x = leg_from h card k x t (root_in (search_log t (sectors h.n card 1 h.n)))

-- what to do after it
unfoldable pub after : Result Leg Damage → (ℕ → Answer) → Answer
after (Err d) on = refused 4
after (Ok (Stand e)) on = answer 0 e.key e.stamp e.status e.value 0
after (Ok (Over None)) on = ended
after (Ok (Over (Some e))) on = on e.key

unfoldable pub rounds : Head → List ℕ → ℕ → ℕ → ℕ → ℕ → Answer
rounds h card k t zero x = ended
rounds h card k t (suc f) x = after (leg h card k t x) (rounds h card k t f)

unfoldable pub next_scan_in : ℕ → ℕ → List ℕ → Option Head → Answer
next_scan_in k t card None = refused 1
next_scan_in k t card (Some h) = if (ltb t (beginning card)) (refused 13) (rounds h card k t 4294967296 k)

unfoldable pub next_scan : List ℕ → ℕ → ℕ → Answer
next_scan card k t = next_scan_in k t card (head_of card)
