-- One bucket's scan gives the rules' turn there, or the last copy; and the log's scan the rules' root.
use mathlib.Core.Path.{◌≡◌, refl, ap, sym, ◌∙◌}
use mathlib.Core.Bool.{Bool, true, false}
use Rattle.std.specs.Prelude.{Option, None, Some, Result, Ok, Err}
use Rattle.rules.specs.declared.refusal.Damage.{Damage}
use Prim.Native.Nat.{ℕ, zero, suc}
use mathlib.Core.List.{List, [], ◌∷◌}
use lib.Dec.{eqb}
use Rattle.rules.specs.declared.Entry.{Entry}
use Rattle.rules.specs.declared.Head.{Head}
use Rattle.rules.specs.declared.Sector.{Sector}
use Rattle.rules.specs.declared.Sector.TheVariants.{Blank, Held, Damaged}
use Rattle.rules.specs.Bucket.{onto, joins, sound_bucket, sound_log, bucket, log}
use Rattle.rules.specs.Layout.{base}
use Rattle.rules.specs.Plain.{if, and_then, every, last_of}
use Rattle.rules.specs.Sector.{is_index, is_root}
use Rattle.rules.specs.Walk.{Turn, broken, arrived, down, left, follow, copy_of, down_to, turn}
use Rattle.scan.specs.declared.Way.{Way}
use Rattle.scan.specs.declared.Way.TheVariants.{Down, End}
use Rattle.scan.specs.Scan.{Found, damaged, root_in, sectors, all_blank, pick, way_of, search, pick_root, search_log}
use Rattle.scan.specs.Look.{search_at}
use Rattle.scan.proofs.Runs.{run_of, run-sectors, blank-run, fold, close, scan-close}
use Rattle.scan.proofs.Picks.{fold-index, fold-data, fold-root}

-- what the rules say of a bucket that k was followed to, on the way to x as of t
unfoldable pub way_on : ℕ → ℕ → List Entry → Turn → Result Way Damage
way_on t x es broken = damaged
way_on t x es arrived = Ok (End (copy_of x (left t es)))
way_on t x es (down e) = Ok (Down e)

unfoldable pub way_in : ℕ → ℕ → ℕ → Option (List Entry) → Result Way Damage
way_in t x k None = damaged
way_in t x k (Some es) = way_on t x es (turn t x k es)

way-damage : (i : Bool) → way_of i damaged ≡ damaged
unfolding way_of
way-damage true = refl
way-damage false = refl

way_down : (t x : ℕ) (es : List Entry) (r : Option Entry) → way_of true (Ok r) ≡ way_on t x es (down_to r)
unfolding way_of way_on down_to
way_down t x es None = refl
way_down t x es (Some e) = refl

same-lost : (q : Bool) → if q damaged damaged ≡ damaged {A = Way}
same-lost true = refl
same-lost false = refl

lost : (t x : ℕ) (es : List Entry) → damaged ≡ way_on t x es broken
unfolding way_on
lost t x es = refl

here : (t x : ℕ) (es : List Entry) → way_of false (Ok (copy_of x (left t es))) ≡ way_on t x es arrived
unfolding way_of way_on
here t x es = refl

lost-in : (t x k : ℕ) → damaged ≡ way_in t x k None
unfolding way_in
lost-in t x k = refl

-- the tests of the header
held-run : (k x t : ℕ) (h : Entry) (es : List Entry) (q v i : Bool) → eqb h.key k ≡ q → is_index h ≡ i
    → if q (way_of i (if v (Ok (fold (pick i x t) None (h ∷ es))) damaged)) damaged ≡ way_in t x k (if v (Some (h ∷ es)) None)
unfolding way_in turn
held-run k x t h es q false i p j = rw (way-damage i) (same-lost q)
held-run k x t h es false true i p j = rw p (lost t x (h ∷ es))
held-run k x t h es true true true p j = rw (p, j, fold-index x t (h ∷ es)) (way_down t x (h ∷ es) (follow x (left t (h ∷ es))))
held-run k x t h es true true false p j = rw (p, j, fold-data x t (h ∷ es)) (here t x (h ∷ es))

held-way : (k x t : ℕ) (h : Entry) (r : Option (List Entry))
    → if (eqb h.key k) (way_of (is_index h) (close (joins h) (pick (is_index h) x t) None (onto (Held h) r))) damaged
    ≡ way_in t x k (and_then (onto (Held h) r) sound_bucket)
unfolding close onto sound_bucket
held-way k x t h None = rw (way-damage (is_index h)) (same-lost (eqb h.key k) ∙ lost-in t x k)
held-way k x t h (Some es) = held-run k x t h es (eqb h.key k) (every (joins h) (h ∷ es)) (is_index h) refl refl

blank-way : (t x k : ℕ) (b : Bool) → damaged ≡ way_in t x k (and_then (if b (Some []) None) sound_bucket)
unfolding way_in sound_bucket
blank-way t x k true = refl
blank-way t x k false = refl

damaged-way : (t x k : ℕ) (r : Option (List Entry)) → damaged ≡ way_in t x k (and_then (onto Damaged r) sound_bucket)
unfolding way_in onto
damaged-way t x k r = refl

-- the scan of a bucket is the rules' reading of it
pub search-way : (k x t : ℕ) (ss : List Sector) → search k x t ss ≡ way_in t x k (and_then (run_of ss) sound_bucket)
unfolding search run_of
search-way k x t [] = blank-way t x k true
search-way k x t (Blank ∷ ss) = rw (blank-run ss) (blank-way t x k (all_blank ss))
search-way k x t (Held h ∷ ss) = rw (scan-close (joins h) (pick (is_index h) x t) (Held h ∷ ss) None) (held-way k x t h (run_of ss))
search-way k x t (Damaged ∷ ss) = damaged-way t x k (run_of ss)

pub search-bucket : (h : Head) (card : List ℕ) (x t b k : ℕ) → search_at h card x t b k ≡ way_in t x k (bucket h card b)
unfolding search_at bucket
search-bucket h card x t zero k = lost-in t x k
search-bucket h card x t (suc b) k =
    search-way k x t (sectors h.n card (base h (suc b)) h.m)
    ∙ ap (λ r. way_in t x k (and_then r sound_bucket)) (sym (run-sectors h.n card (base h (suc b)) h.m))

-- the root that a scan of the log found
unfoldable pub root_of : Result Entry Damage → Option Entry
root_of (Err d) = None
root_of (Ok e) = Some e

root-hit : (r : Option Entry) → root_of (root_in (Ok r)) ≡ r
unfolding root_of root_in
root-hit None = refl
root-hit (Some e) = refl

abbrev pub last_left : ℕ → List Entry → Option Entry
last_left t es = last_of (left t es)

log-run : (t : ℕ) (e : Entry) (es : List Entry) (v : Bool)
    → root_of (root_in (if v (Ok (fold (pick_root t) None (e ∷ es))) damaged)) ≡ and_then (if v (Some (e ∷ es)) None) (last_left t)
unfolding root_of root_in
log-run t e es true = rw (fold-root t (e ∷ es)) (root-hit (last_of (left t (e ∷ es))))
log-run t e es false = refl

root-damage : root_of (root_in damaged) ≡ None
unfolding root_of root_in
root-damage = refl

root_none : (t : ℕ) → root_of (root_in (if (every is_root []) (Ok (fold (pick_root t) None [])) damaged)) ≡ None
unfolding root_of root_in every fold
root_none t = refl

log-close : (t : ℕ) (r : Option (List Entry)) → root_of (root_in (close is_root (pick_root t) None r)) ≡ and_then (and_then r sound_log) (last_left t)
unfolding close sound_log
log-close t None = root-damage
log-close t (Some []) = root_none t
log-close t (Some (e ∷ es)) = log-run t e es (every is_root (e ∷ es))

-- the scan of the log finds the last root entry left, where the log is sound and has one
pub search-log : (h : Head) (card : List ℕ) (t : ℕ) → root_of (root_in (search_log t (sectors h.n card 1 h.n))) ≡ and_then (log h card) (last_left t)
unfolding search_log log
search-log h card t =
    ap (λ f. root_of (root_in f)) (scan-close is_root (pick_root t) (sectors h.n card 1 h.n) None)
    ∙ log-close t (run_of (sectors h.n card 1 h.n))
    ∙ ap (λ r. and_then (and_then r sound_log) (last_left t)) (sym (run-sectors h.n card 1 h.n))
