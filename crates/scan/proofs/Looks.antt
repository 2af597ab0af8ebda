-- The walk with a counter is the rules' path and its length, and the look is the rules' look.
use mathlib.Core.Path.{◌≡◌, refl, ap, ◌∙◌}
use mathlib.Core.Bool.{false}
use Rattle.std.specs.Prelude.{Option, None, Some, Result, Ok, Err}
use Rattle.rules.specs.declared.refusal.Damage.{Damage}
use Prim.Native.Nat.{ℕ, zero, suc, ◌+◌}
use native.Mathlib.Omega.{arith}
use mathlib.Core.List.{List, [], ◌∷◌}
use lib.ListN.{length}
use Rattle.rules.specs.declared.Entry.{Entry}
use Rattle.rules.specs.declared.Head.{Head}
use Rattle.rules.specs.Answers.{sheet}
use Rattle.rules.specs.Bucket.{bucket, log}
use Rattle.rules.specs.Layout.{head_of}
use Rattle.rules.specs.Look.{look_on, look_in, look}
use Rattle.rules.specs.Plain.{and_then}
use Rattle.rules.specs.Walk.{stands_on, Visit, Turn, broken, arrived, down, left, copy_of, turn, met, go, go_in, path, path_from, path_in, walk, data_of, standing}
use Rattle.scan.specs.declared.Way.TheVariants.{Down, End}
use Rattle.scan.specs.declared.Trip.{Trip}
use Rattle.scan.specs.Scan.{damaged, sectors, root_in, search_log}
use Rattle.scan.specs.Look.{trip, onward, walk_scan, trip_from, told, told_of, look_scan_in, look_scan}
use Rattle.scan.proofs.Ways.{way_on, way_in, search-bucket, root_of, last_left, search-log}

-- a path that is read is not empty
abbrev pub Filled : Option (List Visit) → Type 0
Filled None = Unit {0}
Filled (Some []) = ⊥
Filled (Some (v ∷ p)) = Unit {0}

met-filled : (v : Visit) (r : Option (List Visit)) → Filled (met v r)
unfolding met
met-filled v None = tt
met-filled v (Some p) = tt

go-filled : (v : Visit) (u : Turn) (on : ℕ → ℕ → Option (List Visit)) → Filled (go v u on)
unfolding go
go-filled v broken on = tt
go-filled v arrived on = tt
go-filled v (down e) on = met-filled v (on e.value e.key)

in-filled : (t x b k : ℕ) (r : Option (List Entry)) (on : ℕ → ℕ → Option (List Visit)) → Filled (go_in t x b k r on)
unfolding go_in
in-filled t x b k None on = tt
in-filled t x b k (Some es) on = go-filled (record { number = b; entries = es }) (turn t x k es) on

pub path-filled : (rd : ℕ → Option (List Entry)) (t x f b k : ℕ) → Filled (path rd t x f b k)
unfolding path
path-filled rd t x zero b k = tt
path-filled rd t x (suc f) b k = in-filled t x b k (rd b) (path rd t x f)

-- the trip of a path, where r buckets were read before it
unfoldable pub trip_in : ℕ → ℕ → ℕ → Option (List Visit) → Result Trip Damage
trip_in x t r None = damaged
trip_in x t r (Some p) = Ok (trip (r + length p) (copy_of x (left t (data_of p))))

trip-met : (x t r : ℕ) (v : Visit) (q : Option (List Visit)) → Filled q → trip_in x t (r + 1) q ≡ trip_in x t r (met v q)
unfolding trip_in met data_of
trip-met x t r v None f = refl
trip-met x t r v (Some []) f = absurd f
trip-met x t r v (Some (w ∷ p)) f =
    let n : r + 1 + length (w ∷ p) ≡ r + length (v ∷ w ∷ p) = omega arith in
    ap (λ (l : ℕ). Ok (trip l (copy_of x (left t (data_of (w ∷ p)))))) n

onward-here : (r : ℕ) (c : Option Entry) (on : ℕ → ℕ → Result Trip Damage) → onward (Ok (End c)) r on ≡ Ok (trip r c)
unfolding onward
onward-here r c on = refl

lost-trip : (x t r s : ℕ) (on : ℕ → ℕ → Result Trip Damage) → onward damaged s on ≡ trip_in x t r None
unfolding onward trip_in
lost-trip x t r s on = refl

no-trip : (x t r : ℕ) → damaged ≡ trip_in x t r None
unfolding trip_in
no-trip x t r = refl

here-trip : (x t r b : ℕ) (es : List Entry) → Ok (trip (r + 1) (copy_of x (left t es))) ≡ trip_in x t r (Some (record { number = b; entries = es } ∷ []))
unfolding trip_in data_of
here-trip x t r b es = refl

down-trip : (e : Entry) (r : ℕ) (on : ℕ → ℕ → Result Trip Damage) → onward (Ok (Down e)) r on ≡ on e.value e.key
unfolding onward
down-trip e r on = refl

go-trip : (x t r b : ℕ) (es : List Entry) (u : Turn) (on : ℕ → ℕ → Result Trip Damage) (to : ℕ → ℕ → Option (List Visit))
    → ((c k : ℕ) → on c k ≡ trip_in x t (r + 1) (to c k)) → ((c k : ℕ) → Filled (to c k))
    → onward (way_on t x es u) (r + 1) on ≡ trip_in x t r (go (record { number = b; entries = es }) u to)
unfolding way_on go
go-trip x t r b es broken on to ih f = lost-trip x t r (r + 1) on
go-trip x t r b es arrived on to ih f = onward-here (r + 1) (copy_of x (left t es)) on ∙ here-trip x t r b es
go-trip x t r b es (down e) on to ih f =
    down-trip e (r + 1) on ∙ ih e.value e.key ∙ trip-met x t r (record { number = b; entries = es }) (to e.value e.key) (f e.value e.key)

in-trip : (x t r b k : ℕ) (rd : Option (List Entry)) (on : ℕ → ℕ → Result Trip Damage) (to : ℕ → ℕ → Option (List Visit))
    → ((c k : ℕ) → on c k ≡ trip_in x t (r + 1) (to c k)) → ((c k : ℕ) → Filled (to c k))
    → onward (way_in t x k rd) (r + 1) on ≡ trip_in x t r (go_in t x b k rd to)
unfolding way_in go_in
in-trip x t r b k None on to ih f = lost-trip x t r (r + 1) on
in-trip x t r b k (Some es) on to ih f = go-trip x t r b es (turn t x k es) on to ih f

-- the walk's loop: the path from b and its length
pub walk-path : (h : Head) (card : List ℕ) (x t f r b k : ℕ) → walk_scan h card x t f r b k ≡ trip_in x t r (path (bucket h card) t x f b k)
unfolding walk_scan path
walk-path h card x t zero r b k = no-trip x t r
walk-path h card x t (suc f) r b k =
    rw (search-bucket h card x t b k)
    (in-trip x t r b k (bucket h card b) (walk_scan h card x t f (r + 1)) (path (bucket h card) t x f)
    (λ c j. walk-path h card x t f (r + 1) c j) (λ c j. path-filled (bucket h card) t x f c j))

from-root : (h : Head) (card : List ℕ) (x t : ℕ) (o : Result Entry Damage) → trip_from h card x t o ≡ trip_in x t 0 (path_from (bucket h card) t x h.n (root_of o))
unfolding trip_from path_from root_of
from-root h card x t (Err d) = no-trip x t 0
from-root h card x t (Ok e) = walk-path h card x t h.n 0 e.value 0

pub in_then : (rd : ℕ → Option (List Entry)) (t x f : ℕ) (l : Option (List Entry)) → path_from rd t x f (and_then l (last_left t)) ≡ path_in rd t x f l
unfolding path_from path_in
in_then rd t x f None = refl
in_then rd t x f (Some es) = refl

-- from the log on
trip-walk : (h : Head) (card : List ℕ) (x t : ℕ)
    → trip_from h card x t (root_in (search_log t (sectors h.n card 1 h.n))) ≡ trip_in x t 0 (walk h card t x)
unfolding walk
trip-walk h card x t =
    from-root h card x t (root_in (search_log t (sectors h.n card 1 h.n)))
    ∙ ap (λ r. trip_in x t 0 (path_from (bucket h card) t x h.n r)) (search-log h card t)
    ∙ ap (trip_in x t 0) (in_then (bucket h card) t x h.n (log h card))

told-hit : (bib r : ℕ) (c : Option Entry) → told bib r (Ok c) ≡ sheet bib r (standing c)
unfolding told standing
told-hit bib r None = refl
told-hit bib r (Some e) = refl

told-look : (bib t : ℕ) (q : Option (List Visit)) → told_of bib (trip_in bib t 0 q) ≡ look_on bib t q
unfolding trip_in look_on told_of told stands_on
told-look bib t None = refl
told-look bib t (Some p) =
    let z : 0 + length p ≡ length p = omega arith in
    rw z (told-hit bib (length p) (copy_of bib (left t (data_of p))))

in-look : (bib t : ℕ) (card : List ℕ) (h : Option Head) → look_scan_in bib t card h ≡ look_in bib t card h
unfolding look_scan_in look_in
in-look bib t card None = refl
in-look bib t card (Some h) = rw (trip-walk h card bib t, told-look bib t (walk h card t bib))

-- the look, as the loops run, is the rules' look
pub look-scan : (card : List ℕ) (bib t : ℕ) → look_scan card bib t ≡ look card bib t
unfolding look_scan look
look-scan card bib t = in-look bib t card (head_of card)
