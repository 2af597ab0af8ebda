-- The track of a write is the rule's walk: its buckets in the order of the way up. A turn of its loop.
use mathlib.Core.Path.{◌≡◌, refl, ap, sym, ◌∙◌, subst}
use Rattle.std.specs.Prelude.{Option, None, Some, Result, Ok, Err}
use Rattle.rules.specs.declared.refusal.Damage.{Damage}
use mathlib.Core.List.{List, [], ◌∷◌}
use Prim.Native.Nat.{ℕ, zero, suc, ◌+◌, ◌-◌, ◌≤◌, ◌<◌}
use native.Mathlib.Omega.{arith}
use lib.ListN.{length, drop, set, length-set}
use lib.Seq.{drop-cons, drop-set-lt, get_or-set_same}
use Rattle.rules.specs.declared.Entry.{Entry}
use Rattle.rules.specs.declared.Head.{Head}
use Rattle.laws.proofs.Roots.{value_of, root_now}
use Rattle.rules.specs.Plain.{and_then}
use Rattle.rules.specs.Bucket.{bucket, log}
use Rattle.rules.specs.Walk.{Visit, Turn, broken, arrived, down, left, copy_of, turn, met, go, go_in, path, path_from, walk, data_of}
use Rattle.rules.specs.Write.{latest}
use Rattle.scan.specs.declared.Way.{Way}
use Rattle.scan.specs.Scan.{damaged, sectors, root_in, search_log}
use Rattle.scan.specs.Look.{search_at}
use Rattle.scan.proofs.Parts.{root-found}
use Rattle.scan.proofs.Ways.{way_on, way_in, search-bucket, root_of, last_left, search-log}
use Rattle.scan.proofs.Looks.{Filled, path-filled, in_then}
use Rattle.climb.specs.Levels.{upward}
use Rattle.trail.specs.Trail.{Track, track, track_on, track_scan, track_from}

-- the track of a path, below those that were met above it
unfoldable pub track_in : ℕ → List ℕ → Option (List Visit) → Result Track Damage
track_in x above None = damaged
track_in x above (Some p) = Ok (track (upward p above) (copy_of x (left latest (data_of p))))

track-met : (x : ℕ) (above : List ℕ) (v : Visit) (q : Option (List Visit)) → Filled q → track_in x (v.number ∷ above) q ≡ track_in x above (met v q)
unfolding track_in met data_of upward
track-met x above v None f = refl
track-met x above v (Some []) f = absurd f
track-met x above v (Some (w ∷ p)) f = refl

go-track : (x : ℕ) (above : List ℕ) (b : ℕ) (es : List Entry) (u : Turn) (on : ℕ → ℕ → Result Track Damage) (to : ℕ → ℕ → Option (List Visit))
    → ((c k : ℕ) → on c k ≡ track_in x (b ∷ above) (to c k)) → ((c k : ℕ) → Filled (to c k))
    → track_on (way_on latest x es u) (b ∷ above) on ≡ track_in x above (go (record { number = b; entries = es }) u to)
unfolding way_on go track_on track_in upward data_of
go-track x above b es broken on to ih f = refl
go-track x above b es arrived on to ih f = refl
go-track x above b es (down e) on to ih f =
    ih e.value e.key ∙ track-met x above (record { number = b; entries = es }) (to e.value e.key) (f e.value e.key)

in-track : (x : ℕ) (above : List ℕ) (b k : ℕ) (rd : Option (List Entry)) (on : ℕ → ℕ → Result Track Damage) (to : ℕ → ℕ → Option (List Visit))
    → ((c k : ℕ) → on c k ≡ track_in x (b ∷ above) (to c k)) → ((c k : ℕ) → Filled (to c k))
    → track_on (way_in latest x k rd) (b ∷ above) on ≡ track_in x above (go_in latest x b k rd to)
unfolding way_in go_in track_on track_in
in-track x above b k None on to ih f = refl
in-track x above b k (Some es) on to ih f = go-track x above b es (turn latest x k es) on to ih f

track-path : (h : Head) (card : List ℕ) (x f : ℕ) (above : List ℕ) (b k : ℕ) → track_scan h card x f above b k ≡ track_in x above (path (bucket h card) latest x f b k)
unfolding track_scan path track_in
track-path h card x zero above b k = refl
track-path h card x (suc f) above b k =
    rw (search-bucket h card x latest b k)
    (in-track x above b k (bucket h card b) (track_scan h card x f (b ∷ above)) (path (bucket h card) latest x f)
    (λ c j. track-path h card x f (b ∷ above) c j) (λ c j. path-filled (bucket h card) latest x f c j))

-- there is no bucket 0
nowhere : (h : Head) (card : List ℕ) (x f : ℕ) → track_scan h card x f [] 0 0 ≡ damaged
unfolding track_scan track_on search_at
nowhere h card x zero = refl
nowhere h card x (suc f) = refl

from-number : (h : Head) (card : List ℕ) (x b : ℕ) → track_from h card x b ≡ track_scan h card x h.n [] b 0
unfolding track_from
from-number h card x zero = sym (nowhere h card x h.n)
from-number h card x (suc b) = refl

track-from : (h : Head) (card : List ℕ) (x : ℕ) (o : Option Entry) → track_from h card x (value_of o) ≡ track_in x [] (path_from (bucket h card) latest x h.n o)
unfolding track_from path_from value_of track_in
track-from h card x None = refl
track-from h card x (Some e) = from-number h card x e.value ∙ track-path h card x h.n [] e.value 0

-- from the log on
pub track-walk : (h : Head) (card : List ℕ) (x : ℕ) → track_from h card x (root_now h card) ≡ track_in x [] (walk h card latest x)
unfolding walk root_now
track-walk h card x =
    track-from h card x (and_then (log h card) (last_left latest)) ∙ ap (track_in x []) (in_then (bucket h card) latest x h.n (log h card))

-- as the scan of the log has it
pub root-found-now : (h : Head) (card : List ℕ) (f : Result Entry Damage) → f ≡ root_in (search_log latest (sectors h.n card 1 h.n)) → value_of (root_of f) ≡ root_now h card
unfolding root_now
root-found-now h card f q = ap value_of (ap root_of q ∙ search-log h card latest)

pub no-root : (h : Head) (card : List ℕ) (f : Result Entry Damage) (d : Damage) → f ≡ root_in (search_log latest (sectors h.n card 1 h.n)) → f ≡ Err d → 0 ≡ root_now h card
unfolding value_of root_of
no-root h card f d q is = sym (ap (λ (g : Result Entry Damage). value_of (root_of g)) is) ∙ root-found-now h card f q

pub hit-root : (h : Head) (card : List ℕ) (f : Result Entry Damage) (e : Entry) → f ≡ root_in (search_log latest (sectors h.n card 1 h.n)) → f ≡ Ok e → e.value ≡ root_now h card
unfolding value_of root_of
hit-root h card f e q is = sym (ap (λ (g : Result Entry Damage). value_of (root_of g)) is) ∙ root-found-now h card f q

-- a root is a bucket of the card
pub root-within : (h : Head) (card : List ℕ) → root_now h card ≤ h.n
unfolding value_of root_of
root-within h card = subst (λ (b : ℕ). b ≤ h.n) (root-found-now h card _ refl) (go (root_in (search_log latest (sectors h.n card 1 h.n))) refl)
  where
    go : (f : Result Entry Damage) → root_in (search_log latest (sectors h.n card 1 h.n)) ≡ f → value_of (root_of f) ≤ h.n
    go (Err d) q = omega arith
    go (Ok e) q = (root-found h.n card latest 1 h.n e q).1

-- no root, and a root
pub from-none : (h : Head) (card : List ℕ) (x b : ℕ) → b ≡ 0 → damaged ≡ track_from h card x b
unfolding track_from
from-none h card x b z = rw z

pub from-root : (h : Head) (card : List ℕ) (x b : ℕ) → track_scan h card x h.n [] b 0 ≡ track_from h card x b
from-root h card x b = sym (from-number h card x b)

-- a bucket written down in front of those above it
store-front : (path : List ℕ) (i b : ℕ) → i < length path → drop i (set path i b) ≡ b ∷ drop (suc i) path
store-front path i b lt =
    let long : i < length (set path i b) = simp length-set lt in
    drop-cons (set path i b) i 0 long ∙ rw (get_or-set_same path i b 0 lt, drop-set-lt (suc i) path i b (omega arith))

pub track-out : (h : Head) (card : List ℕ) (x r b k : ℕ) (above : List ℕ) (w : Result Track Damage) → r ≡ h.n → track_scan h card x (h.n - r) above b k ≡ w → damaged ≡ w
unfolding track_scan
track-out h card x r b k above w e inv = let z : h.n - r ≡ 0 = omega arith in rw z at inv

-- one bucket of the walk, as the loop has the numbers: s is what its search said
module _ (h : Head) (card : List ℕ) (x r b k places : ℕ) (path : List ℕ) (w : Result Track Damage) (s : Result Way Damage) (lt : r < h.n) (few : r < places) (long : length path ≡ places)
    (said : s ≡ search_at h card x latest b k) (inv : track_scan h card x (h.n - r) (drop (places - r) path) b k ≡ w) where
  abbrev start : ℕ
  start = places - (r + 1)

  stored : drop start (set path start b) ≡ b ∷ drop (places - r) path
  stored = store-front path start b (omega arith) ∙ ap (λ (n : ℕ). b ∷ drop n path) (let z : suc start ≡ places - r = omega arith in z)

  pub track-turn : track_on s (drop start (set path start b)) (track_scan h card x (h.n - (r + 1)) (drop start (set path start b))) ≡ w
  unfolding track_scan
  track-turn = let more : h.n - r ≡ suc (h.n - (r + 1)) = omega arith in rw (said, stored) (rw more at inv)
