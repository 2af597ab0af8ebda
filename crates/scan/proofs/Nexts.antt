-- The walks and rounds of next, as the loops run, are the rules' next.
use mathlib.Core.Path.{◌≡◌, refl, ap, sym, subst, ◌∙◌}
use mathlib.Core.Bool.{true, false}
use Rattle.std.specs.Prelude.{Option, None, Some, Result, Ok, Err}
use Rattle.rules.specs.declared.refusal.Damage.{Damage}
use Prim.Native.Nat.{ℕ, zero, suc, ◌<◌}
use mathlib.Core.List.{List, [], ◌∷◌, ◌++◌, append_assoc}
use Rattle.rules.specs.declared.Entry.{Entry}
use Rattle.rules.specs.declared.Head.{Head}
use Rattle.rules.specs.declared.Answer.{Answer}
use Rattle.rules.specs.declared.Sector.{Sector}
use lib.Dec.{ltb}
use borrow.Author.Tests.{ltb-true}
use Rattle.rules.specs.Answers.{refused}
use Rattle.rules.specs.Bucket.{joins, run, sound_bucket, bucket, log}
use Rattle.rules.specs.Layout.{base, head_of, beginning}
use Rattle.rules.specs.Next.{key_above, index_on, lasts, standing_above, final, hop_to, hop_or, hop, hopping, next_from, next_in, next}
use Rattle.rules.specs.Plain.{if, every, only, smallest}
use Rattle.rules.specs.Sector.{is_index, is_post}
use Rattle.rules.specs.Walk.{Visit, Turn, broken, arrived, down, left, copy_of, turn, met, go, go_in, path, path_from, walk, data_of}
use Rattle.laws.proofs.Lists.{only-true}
use Rattle.laws.proofs.Tells.{smallest-all, wants}
use Rattle.laws.proofs.Tools.{none-some, and-true, then-inv, guard-true}
use Rattle.scan.specs.declared.Way.TheVariants.{Down, End}
use Rattle.scan.specs.declared.Leg.{Leg}
use Rattle.scan.specs.declared.Leg.TheVariants.{Stand, Over}
use Rattle.scan.specs.Scan.{damaged, sectors, root_in, search_log}
use Rattle.scan.specs.Next.{pick_up, weigh, stand_in, sectors_of, leg_of, stride, leg_scan, leg_from, leg, after, rounds, next_scan_in, next_scan}
use Rattle.scan.proofs.Runs.{nil, run_of, run-sectors, fold}
use Rattle.scan.proofs.Ways.{way_on, way_in, search-bucket, root_of, search-log}
use Rattle.scan.proofs.Looks.{Filled, path-filled, in_then}
use Rattle.scan.proofs.Mins.{above_in, fold_up, stand-above, weigh-run, stand-run}

-- a bucket that is read is the run of its sectors
sound-same : (xs es : List Entry) → sound_bucket xs ≡ Some es → xs ≡ es
unfolding sound_bucket
sound-same [] es h = absurd (none-some h)
sound-same (x ∷ xs) es h = (guard-true (every (joins x) (x ∷ xs)) (x ∷ xs) es h).1

bucket-run : (h : Head) (card : List ℕ) (b : ℕ) (es : List Entry) → bucket h card b ≡ Some es → run_of (sectors_of h card b) ≡ Some es
unfolding bucket sectors_of
bucket-run h card zero es e = absurd (none-some e)
bucket-run h card (suc b) es e =
    let w = then-inv (run h.n card (base h (suc b)) h.m) sound_bucket es e in
    sym (run-sectors h.n card (base h (suc b)) h.m) ∙ w.1 ∙ ap Some (sound-same w.0 es w.2)

-- the least index key above x over a path
unfoldable pub ups : ℕ → ℕ → Option Entry → List Visit → Option Entry
ups x t up [] = up
ups x t up (v ∷ p) = ups x t (fold (pick_up x t) up v.entries) p

unfoldable pub leg_in : ℕ → ℕ → ℕ → Option Entry → Option (List Visit) → Result Leg Damage
leg_in k x t up None = damaged
leg_in k x t up (Some p) = Ok (leg_of (standing_above k (left t (data_of p))) (ups x t up p))

leg-met : (k x t : ℕ) (up : Option Entry) (v : Visit) (q : Option (List Visit)) → Filled q
    → leg_in k x t (fold (pick_up x t) up v.entries) q ≡ leg_in k x t up (met v q)
unfolding leg_in met data_of ups
leg-met k x t up v None f = refl
leg-met k x t up v (Some []) f = absurd f
leg-met k x t up v (Some (w ∷ p)) f = refl

-- the record of a walk's end is a post above the bib asked with
standing-key : (k : ℕ) (es : List Entry) (e : Entry) → standing_above k es ≡ Some e → (k < e.key) × (is_post e ≡ true)
unfolding standing_above
standing-key k es e q =
    let w = smallest-all (λ d. wants k d ≡ true) (only (wants k) (lasts es)) e (only-true (wants k) (lasts es)) q in
    let both = and-true (is_post e) (ltb k e.key) w in
    (ltb-true k e.key both.1, both.0)

stride-here : (c : Option Entry) (here : Leg) (on : ℕ → ℕ → Result Leg Damage) → stride (Ok (End c)) here on ≡ Ok here
unfolding stride
stride-here c here on = refl

stride-lost : (k x t : ℕ) (up : Option Entry) (here : Leg) (on : ℕ → ℕ → Result Leg Damage) → stride damaged here on ≡ leg_in k x t up None
unfolding stride leg_in
stride-lost k x t up here on = refl

stride-down : (e : Entry) (here : Leg) (on : ℕ → ℕ → Result Leg Damage) → stride (Ok (Down e)) here on ≡ on e.value e.key
unfolding stride
stride-down e here on = refl

leg-here : (k x t b : ℕ) (up : Option Entry) (es : List Entry)
    → Ok (leg_of (standing_above k (left t es)) (fold (pick_up x t) up es)) ≡ leg_in k x t up (Some (record { number = b; entries = es } ∷ []))
unfolding leg_in data_of ups
leg-here k x t b up es = refl

go-leg : (k x t b : ℕ) (up : Option Entry) (es : List Entry) (u : Turn) (on : ℕ → ℕ → Result Leg Damage) (to : ℕ → ℕ → Option (List Visit))
    → ((c j : ℕ) → on c j ≡ leg_in k x t (fold (pick_up x t) up es) (to c j)) → ((c j : ℕ) → Filled (to c j))
    → stride (way_on t x es u) (leg_of (standing_above k (left t es)) (fold (pick_up x t) up es)) on
    ≡ leg_in k x t up (go (record { number = b; entries = es }) u to)
unfolding way_on go
go-leg k x t b up es broken on to ih f = stride-lost k x t up (leg_of (standing_above k (left t es)) (fold (pick_up x t) up es)) on
go-leg k x t b up es arrived on to ih f =
    stride-here (copy_of x (left t es)) (leg_of (standing_above k (left t es)) (fold (pick_up x t) up es)) on ∙ leg-here k x t b up es
go-leg k x t b up es (down e) on to ih f =
    stride-down e (leg_of (standing_above k (left t es)) (fold (pick_up x t) up es)) on
    ∙ ih e.value e.key
    ∙ leg-met k x t up (record { number = b; entries = es }) (to e.value e.key) (f e.value e.key)

-- one bucket, where its sectors are ss
in-leg : (k x t b j : ℕ) (up : Option Entry) (ss : List Sector) (rd : Option (List Entry)) (on : Option Entry → ℕ → ℕ → Result Leg Damage) (to : ℕ → ℕ → Option (List Visit))
    → ((es : List Entry) → rd ≡ Some es → run_of ss ≡ Some es)
    → ((u : Option Entry) (c j : ℕ) → on u c j ≡ leg_in k x t u (to c j)) → ((c j : ℕ) → Filled (to c j))
    → stride (way_in t x j rd) (leg_of (stand_in k t ss None) (weigh (pick_up x t) ss up)) (on (weigh (pick_up x t) ss up))
    ≡ leg_in k x t up (go_in t x b j rd to)
unfolding way_in go_in
in-leg k x t b j up ss None on to run ih f =
    stride-lost k x t up (leg_of (stand_in k t ss None) (weigh (pick_up x t) ss up)) (on (weigh (pick_up x t) ss up))
in-leg k x t b j up ss (Some es) on to run ih f =
    rw (weigh-run (pick_up x t) ss es up (run es refl), stand-run k t ss es None (run es refl), stand-above k t es)
    (go-leg k x t b up es (turn t x j es) (on (fold (pick_up x t) up es)) to (ih (fold (pick_up x t) up es)) f)

leg-none : (k x t : ℕ) (up : Option Entry) → damaged ≡ leg_in k x t up None
unfolding leg_in
leg-none k x t up = refl

leg-path : (h : Head) (card : List ℕ) (k x t f : ℕ) (up : Option Entry) (b j : ℕ)
    → leg_scan h card k x t f up b j ≡ leg_in k x t up (path (bucket h card) t x f b j)
unfolding leg_scan path
leg-path h card k x t zero up b j = leg-none k x t up
leg-path h card k x t (suc f) up b j =
    rw (search-bucket h card x t b j)
    (in-leg k x t b j up (sectors_of h card b) (bucket h card b) (λ u. leg_scan h card k x t f u) (path (bucket h card) t x f)
    (bucket-run h card b) (λ u c i. leg-path h card k x t f u c i) (λ c i. path-filled (bucket h card) t x f c i))

from-leg : (h : Head) (card : List ℕ) (k x t : ℕ) (o : Result Entry Damage)
    → leg_from h card k x t o ≡ leg_in k x t None (path_from (bucket h card) t x h.n (root_of o))
unfolding leg_from path_from root_of
from-leg h card k x t (Err d) = leg-none k x t None
from-leg h card k x t (Ok e) = leg-path h card k x t h.n None e.value 0

-- one walk of next
leg-walk : (h : Head) (card : List ℕ) (k t x : ℕ) → leg h card k t x ≡ leg_in k x t None (walk h card t x)
unfolding leg walk
leg-walk h card k t x =
    from-leg h card k x t (root_in (search_log t (sectors h.n card 1 h.n)))
    ∙ ap (λ r. leg_in k x t None (path_from (bucket h card) t x h.n r)) (search-log h card t)
    ∙ ap (leg_in k x t None) (in_then (bucket h card) t x h.n (log h card))

-- what a walk stands at, if it does, is a post above k
abbrev StandsAbove : ℕ → Result Leg Damage → Type 0
StandsAbove k (Err d) = Unit {0}
StandsAbove k (Ok (Stand e)) = (k < e.key) × (is_post e ≡ true)
StandsAbove k (Ok (Over up)) = Unit {0}

of-above : (k : ℕ) (es : List Entry) (up o : Option Entry) → standing_above k es ≡ o → StandsAbove k (Ok (leg_of o up))
unfolding leg_of
of-above k es up None q = tt
of-above k es up (Some e) q = standing-key k es e q

in-above : (k x t : ℕ) (up : Option Entry) (q : Option (List Visit)) → StandsAbove k (leg_in k x t up q)
unfolding leg_in
in-above k x t up None = tt
in-above k x t up (Some p) = of-above k (left t (data_of p)) (ups x t up p) (standing_above k (left t (data_of p))) refl

pub leg-stands : (h : Head) (card : List ℕ) (k t x : ℕ) (e : Entry) → leg h card k t x ≡ Ok (Stand e) → (k < e.key) × (is_post e ≡ true)
leg-stands h card k t x e q = subst (StandsAbove k) (sym (leg-walk h card k t x) ∙ q) (in-above k x t None (walk h card t x))

ups-index : (x t : ℕ) (pre : List Entry) (p : List Visit) → ups x t (above_in x t pre) p ≡ above_in x t (pre ++ index_on p)
unfolding ups index_on
ups-index x t pre [] = ap (λ l. above_in x t l) (nil pre)
ups-index x t pre (v ∷ p) =
    rw (fold_up x t pre v.entries)
    (ups-index x t (pre ++ only is_index v.entries) p ∙ ap (λ l. above_in x t l) (append_assoc pre (only is_index v.entries) (index_on p)))

none_above : (x t : ℕ) → None ≡ above_in x t []
unfolding left only smallest
none_above x t = refl

after-or : (a b : Option Entry) (on to : ℕ → Answer) → ((y : ℕ) → on y ≡ to y) → after (Ok (leg_of a b)) on ≡ hopping (hop_or a (hop_to b)) to
unfolding after leg_of hop_or hop_to hopping
after-or (Some e) b on to same = refl
after-or None None on to same = refl
after-or None (Some d) on to same = same d.key

gone : (on to : ℕ → Answer) → after damaged on ≡ hopping (final (refused 4)) to
unfolding after hopping
gone on to = refl

after-hop : (k x t : ℕ) (q : Option (List Visit)) (on to : ℕ → Answer) → ((y : ℕ) → on y ≡ to y)
    → after (leg_in k x t None q) on ≡ hopping (hop k t x q) to
unfolding leg_in hop key_above
after-hop k x t None on to same = gone on to
after-hop k x t (Some p) on to same =
    rw (none_above x t, ups-index x t [] p) (after-or (standing_above k (left t (data_of p))) (above_in x t (index_on p)) on to same)

pub rounds-next : (h : Head) (card : List ℕ) (k t f x : ℕ) → rounds h card k t f x ≡ next_from (walk h card t) k t f x
unfolding rounds next_from
rounds-next h card k t zero x = refl
rounds-next h card k t (suc f) x =
    rw (leg-walk h card k t x) (after-hop k x t (walk h card t x) (rounds h card k t f) (next_from (walk h card t) k t f) (λ y. rounds-next h card k t f y))

in-next : (k t : ℕ) (card : List ℕ) (h : Option Head) → next_scan_in k t card h ≡ next_in k t card h
unfolding next_scan_in next_in
in-next k t card None = refl
in-next k t card (Some h) = ap (if (ltb t (beginning card)) (refused 13)) (rounds-next h card k t 4294967296 k)

-- next, as the loops run, is the rules' next
pub next-scan : (card : List ℕ) (k t : ℕ) → next_scan card k t ≡ next card k t
unfolding next_scan next
next-scan card k t = in-next k t card (head_of card)
