-- A bucket that a search has judged is a run of entries and then blanks: next reads it by its fields alone.
use mathlib.Core.Path.{◌≡◌, refl, ap, sym, ◌∙◌}
use mathlib.Core.Logic.{⊎_elim}
use mathlib.Core.Bool.{Bool, true, false}
use Rattle.std.specs.Prelude.{Option, None, Some, Result, Ok, Err}
use Rattle.rules.specs.declared.refusal.Damage.{Damage}
use mathlib.Core.List.{List, [], ◌∷◌}
use Prim.Native.Nat.{ℕ, zero, suc, ◌≤◌, ◌<◌}
use native.Mathlib.Omega.{arith}
use lib.Dec.{leb, ltb, eqb}
use lib.ListN.{take, drop}
use borrow.Author.Tests.{le-leb, lt-leb, le-ltb, ne_eqb}
use Rattle.rules.specs.declared.Entry.{Entry}
use Rattle.rules.specs.declared.Head.{Head}
use Rattle.rules.specs.declared.Sector.{Sector}
use Rattle.rules.specs.declared.Sector.TheVariants.{Blank, Held, Damaged}
use Rattle.rules.specs.Bucket.{onto, joins}
use Rattle.rules.specs.Layout.{base}
use Rattle.rules.specs.Next.{standing_above}
use Rattle.rules.specs.Plain.{if, ◌&◌, zeros, only, smallest}
use Rattle.rules.specs.Sector.{decode, fields, legal, word, is_index, is_data, is_post}
use Rattle.rules.specs.Walk.{left}
use Rattle.laws.proofs.Tools.{bool_cases, false-true, and-true, le-or-lt}
use Rattle.laws.proofs.Zeros.{zeros-get}
use Rattle.laws.proofs.Bytes.{held-inv}
use Rattle.scan.specs.declared.Way.{Way}
use Rattle.scan.specs.declared.Way.TheVariants.{Down, End}
use Rattle.scan.specs.Scan.{Found, damaged, sectors, all_blank, scan_in, pick, way_of, search}
use Rattle.scan.specs.Look.{search_at}
use Rattle.scan.specs.Next.{under, above, above_at, pick_up, weigh, runs, nearer, lower, stand_in, sectors_of}
use Rattle.scan.proofs.Runs.{run_of, blank-run, fold, fold-snoc}
use Rattle.scan.proofs.Mins.{above_in, up_step, weigh-run, stand-run, stand-above}
use Rattle.scan.proofs.Least.{least-over, stand-none, least-stands}

-- a scan that gives no damage has passed a run
abbrev Whole : Found → Type 0
Whole (Err d) = ⊥
Whole (Ok r) = Unit {0}

if-whole : (b : Bool) (f : Found) → Whole (if b f damaged) → (b ≡ true) × Whole f
if-whole true f w = (refl, w)
if-whole false f w = absurd w

scan_runs : (ok test : Entry → Bool) (p : Option Entry → Entry → Option Entry) → ((e : Entry) → test e ≡ true → ok e ≡ true) → (ss : List Sector) (best : Option Entry) → Whole (scan_in test p ss best) → runs ok ss ≡ true
unfolding scan_in runs
scan_runs ok test p more [] best w = refl
scan_runs ok test p more (Blank ∷ ss) best w = (if-whole (all_blank ss) (Ok best) w).0
scan_runs ok test p more (Held e ∷ ss) best w =
    let go = if-whole (test e) (scan_in test p ss (p best e)) w in
    rw (more e go.0) (scan_runs ok test p more ss (p best e) go.1)
scan_runs ok test p more (Damaged ∷ ss) best w = absurd w

-- an entry beside a header of its class
joins-as : (index : Bool) (h e : Entry) → is_index h ≡ index → joins h e ≡ true → if index (is_index e) (is_data e) ≡ true
unfolding joins
joins-as index h e i j = (and-true (if index (is_index e) (is_data e)) (leb h.key e.key) (rw i at j)).0

-- the class that a way speaks of
abbrev pub Says : Bool → Result Way Damage → Type 0
Says index (Err d) = ⊥
Says true (Ok (Down e)) = Unit {0}
Says false (Ok (Down e)) = ⊥
Says true (Ok (End c)) = ⊥
Says false (Ok (End c)) = Unit {0}

way-says : (index i : Bool) (f : Found) → Says index (way_of i f) → (i ≡ index) × Whole f
unfolding way_of
way-says true true (Ok (Some e)) w = (refl, tt)
way-says false true (Ok (Some e)) w = absurd w
way-says index true (Ok None) w = absurd w
way-says true false (Ok r) w = absurd w
way-says false false (Ok r) w = (refl, tt)
way-says index true (Err d) w = absurd w
way-says index false (Err d) w = absurd w

if-says : (index b : Bool) (w : Result Way Damage) → Says index (if b w damaged) → Says index w
if-says index true w s = s
if-says index false w s = absurd s

search-says : (index : Bool) (k x t : ℕ) (ss : List Sector) → Says index (search k x t ss) → runs (λ e. if index (is_index e) (is_data e)) ss ≡ true
unfolding search
search-says index k x t [] s = absurd s
search-says index k x t (Blank ∷ ss) s = absurd s
search-says index k x t (Held h ∷ ss) s =
    let f = scan_in (joins h) (pick (is_index h) x t) (Held h ∷ ss) None in
    let w = way-says index (is_index h) f (if-says index (eqb h.key k) (way_of (is_index h) f) s) in
    scan_runs (λ e. if index (is_index e) (is_data e)) (joins h) (pick (is_index h) x t) (λ e. joins-as index h e w.0) (Held h ∷ ss) None w.1
search-says index k x t (Damaged ∷ ss) s = absurd s

module _ (h : Head) (card : List ℕ) (x t b k : ℕ) where
  at-says : (index : Bool) → Says index (search_at h card x t b k) → runs (λ e. if index (is_index e) (is_data e)) (sectors_of h card b) ≡ true
  unfolding search_at sectors_of
  at-says index s = go b s
    where
      go : (c : ℕ) → Says index (search_at h card x t c k) → runs (λ e. if index (is_index e) (is_data e)) (sectors h.n card (base h c) h.m) ≡ true
      go zero s = absurd s
      go (suc c) s = search-says index k x t (sectors h.n card (base h (suc c)) h.m) s

  pub down-runs : (w : Result Way Damage) (e : Entry) → w ≡ search_at h card x t b k → w ≡ Ok (Down e) → runs is_index (sectors_of h card b) ≡ true
  down-runs w e said is = at-says true (rw (sym said ∙ is) tt)

  pub end-runs : (w : Result Way Damage) (c : Option Entry) → w ≡ search_at h card x t b k → w ≡ Ok (End c) → runs is_data (sectors_of h card b) ≡ true
  end-runs w c said is = at-says false (rw (sym said ∙ is) tt)

-- a blank sector has key 0, which is above nothing
blank-zeros : (n : ℕ) (s : List ℕ) → decode n s ≡ Blank → zeros s ≡ true
unfolding decode
blank-zeros n s q = go (zeros s) (zeros (take 2 (drop 2 s)) & legal n (fields s)) q
  where
    go : (b c : Bool) → if b Blank (if c (Held (fields s)) Damaged) ≡ Blank → b ≡ true
    go true c q = refl
    go false true q = let z : ◌≡◌ {A = ℕ} 0 1 = cc in absurd (omega arith)
    go false false q = let z : ◌≡◌ {A = ℕ} 0 1 = cc in absurd (omega arith)

blank-key : (n : ℕ) (s : List ℕ) → decode n s ≡ Blank → (fields s).key ≡ 0
unfolding fields word
blank-key n s q = let z = blank-zeros n s q in rw (zeros-get s 4 z, zeros-get s 5 z, zeros-get s 6 z, zeros-get s 7 z)

above-none : (x t : ℕ) (f : Option Entry) (e : Entry) → e.key ≤ x → above_at x t f e ≡ f
unfolding above_at above
above-none x t f e le = rw (le-ltb x e.key le) (go (leb e.stamp t))
  where
    go : (b : Bool) → if b f f ≡ f
    go true = refl
    go false = refl

blanks-weigh : (p : Option Entry → Entry → Option Entry) (ss : List Sector) (f : Option Entry) → all_blank ss ≡ true → weigh p ss f ≡ f
unfolding all_blank weigh
blanks-weigh p [] f q = refl
blanks-weigh p (Blank ∷ ss) f q = refl
blanks-weigh p (Held e ∷ ss) f q = absurd (false-true q)
blanks-weigh p (Damaged ∷ ss) f q = absurd (false-true q)

blanks-run : (ok : Entry → Bool) (ss : List Sector) → all_blank ss ≡ true → runs ok ss ≡ true
unfolding all_blank runs
blanks-run ok [] q = refl
blanks-run ok (Blank ∷ ss) q = q
blanks-run ok (Held e ∷ ss) q = absurd (false-true q)
blanks-run ok (Damaged ∷ ss) q = absurd (false-true q)

-- one sector read by its fields, whatever it is
pub fields-turn : (ok : Entry → Bool) (n x t : ℕ) (b : List ℕ) (s : Sector) (ss : List Sector) (f W : Option Entry) → s ≡ decode n b → runs ok (s ∷ ss) ≡ true → weigh (above_at x t) (s ∷ ss) f ≡ W
    → (runs ok ss ≡ true) × (weigh (above_at x t) ss (above_at x t f (fields b)) ≡ W)
unfolding runs weigh
fields-turn ok n x t b Blank ss f W d r w =
    (blanks-run ok ss r, rw (above-none x t f (fields b) (omega (arith, blank-key n b (sym d)))) (blanks-weigh (above_at x t) ss f r ∙ w))
fields-turn ok n x t b (Held e) ss f W d r w = ((and-true (ok e) (runs ok ss) r).1, rw (held-inv n b e (sym d)).0 w)
fields-turn ok n x t b Damaged ss f W d r w = absurd (false-true r)

-- a run has its entries
runs-some : (ok : Entry → Bool) (ss : List Sector) → runs ok ss ≡ true → (es : List Entry) × (run_of ss ≡ Some es)
unfolding runs run_of onto
runs-some ok [] q = ([], refl)
runs-some ok (Blank ∷ ss) q = ([], blank-run ss ∙ rw q)
runs-some ok (Held e ∷ ss) q = let r = runs-some ok ss (and-true (ok e) (runs ok ss) q).1 in (e ∷ r.0, rw r.1)
runs-some ok (Damaged ∷ ss) q = absurd (false-true q)

-- in an index bucket every entry is one of an index
index-weigh : (x t : ℕ) (ss : List Sector) (up : Option Entry) → runs is_index ss ≡ true → weigh (pick_up x t) ss up ≡ weigh (above_at x t) ss up
unfolding runs weigh pick_up
index-weigh x t [] up q = refl
index-weigh x t (Blank ∷ ss) up q = refl
index-weigh x t (Held e ∷ ss) up q = let a = and-true (is_index e) (runs is_index ss) q in rw a.0 (index-weigh x t ss (above_at x t up e) a.1)
index-weigh x t (Damaged ∷ ss) up q = refl

-- in a data bucket none is: the least index key stays as it was
data-other : (e : Entry) → is_data e ≡ true → is_index e ≡ false
unfolding is_data is_index
data-other e d = ne_eqb e.kind 3 (λ three. let no : ◌≡◌ {A = Bool} false true = rw three at d in let z : ◌≡◌ {A = ℕ} 0 1 = cc in omega arith)

data-passed : (x t : ℕ) (ss : List Sector) (up : Option Entry) → runs is_data ss ≡ true → weigh (pick_up x t) ss up ≡ up
unfolding runs weigh pick_up
data-passed x t [] up q = refl
data-passed x t (Blank ∷ ss) up q = refl
data-passed x t (Held e ∷ ss) up q = let a = and-true (is_data e) (runs is_data ss) q in rw (data-other e a.0) (data-passed x t ss up a.1)
data-passed x t (Damaged ∷ ss) up q = refl

pub data-weigh : (h : Head) (card : List ℕ) (x t b k : ℕ) (up : Option Entry) → Says false (search_at h card x t b k) → weigh (pick_up x t) (sectors_of h card b) up ≡ up
data-weigh h card x t b k up s = data-passed x t (sectors_of h card b) up (at-says h card x t b k false s)

-- of three the least, the later of one key
nearer-under : (a f : Option Entry) (e : Entry) → under (nearer a f) e ≡ nearer a (under f e)
unfolding nearer under
nearer-under None None e = refl
nearer-under None (Some o) e = ⊎_elim (λ (b : leb e.key o.key ≡ true). rw b) (λ (b : leb e.key o.key ≡ false). rw b) (bool_cases (leb e.key o.key))
nearer-under (Some a) None e = refl
nearer-under (Some a) (Some o) e =
    ⊎_elim
    (λ (oa : o.key ≤ a.key).
    ⊎_elim (λ (eo : e.key ≤ o.key). rw (le-leb o.key a.key oa, le-leb e.key o.key eo, le-leb e.key a.key (omega arith)))
    (λ (oe : o.key < e.key). rw (le-leb o.key a.key oa, lt-leb e.key o.key oe, le-leb o.key a.key oa)) (le-or-lt e.key o.key))
    (λ (ao : a.key < o.key).
    ⊎_elim (λ (eo : e.key ≤ o.key). rw (lt-leb o.key a.key ao, le-leb e.key o.key eo))
    (λ (oe : o.key < e.key). rw (lt-leb o.key a.key ao, lt-leb e.key o.key oe, lt-leb e.key a.key (omega arith), lt-leb o.key a.key ao)) (le-or-lt e.key o.key))
    (le-or-lt o.key a.key)

nearer-above : (x t : ℕ) (a f : Option Entry) (e : Entry) → above_at x t (nearer a f) e ≡ nearer a (above_at x t f e)
unfolding above_at above
nearer-above x t a f e = go (leb e.stamp t) (ltb x e.key)
  where
    go : (s k : Bool) → if s (if k (under (nearer a f) e) (nearer a f)) (nearer a f) ≡ nearer a (if s (if k (under f e) f) f)
    go true true = nearer-under a f e
    go true false = refl
    go false k = refl

nearer-weigh : (x t : ℕ) (ss : List Sector) (a f : Option Entry) → weigh (above_at x t) ss (nearer a f) ≡ nearer a (weigh (above_at x t) ss f)
unfolding weigh
nearer-weigh x t [] a f = refl
nearer-weigh x t (Blank ∷ ss) a f = refl
nearer-weigh x t (Held e ∷ ss) a f = rw (nearer-above x t a f e) (nearer-weigh x t ss a (above_at x t f e))
nearer-weigh x t (Damaged ∷ ss) a f = refl

-- the least index key above x, with those of the buckets before
pub index-least : (x t : ℕ) (ss : List Sector) (up : Option Entry) → runs is_index ss ≡ true → nearer up (weigh (above_at x t) ss None) ≡ weigh (pick_up x t) ss up
unfolding nearer
index-least x t ss up q = sym (index-weigh x t ss up q ∙ nearer-weigh x t ss up None)

-- a data bucket asked for the least key above x, stamped t or earlier
module _ (ok : Entry → Bool) (ss : List Sector) (q : runs ok ss ≡ true) (x t : ℕ) where
  abbrev held : List Entry
  held = (runs-some ok ss q).0

  least-is : weigh (above_at x t) ss None ≡ above_in x t held
  unfolding above_at above left only fold smallest
  least-is = weigh-run (above_at x t) ss held None (runs-some ok ss q).1 ∙ fold-snoc (above_at x t) (λ l. above_in x t l) (up_step x t) [] held

  stands-is : (z : ℕ) → stand_in z t ss None ≡ standing_above z (left t held)
  stands-is z = stand-run z t ss held None (runs-some ok ss q).1 ∙ stand-above z t held

  -- none is above x, so none stands
  pub none-next : (f : Option Entry) → f ≡ weigh (above_at x t) ss None → f ≡ None → None ≡ stand_in x t ss None
  none-next f is none = sym (stands-is x ∙ stand-none x (left t held) (sym least-is ∙ sym is ∙ none))

  module _ (f : Option Entry) (e : Entry) (is : f ≡ weigh (above_at x t) ss None) (got : f ≡ Some e) where
    least-e : above_in x t held ≡ Some e
    least-e = sym least-is ∙ sym is ∙ got

    pub next-rises : x < e.key
    next-rises = least-over x (left t held) e least-e

    told : stand_in x t ss None ≡ if (is_post e) (Some e) (standing_above e.key (left t held))
    told = stands-is x ∙ least-stands x (left t held) e least-e

    -- a post: it is the next
    pub post-next : is_post e ≡ true → Some e ≡ stand_in x t ss None
    post-next p = sym (rw p at told)

    -- a strike: the next is above it
    pub strike-next : is_post e ≡ false → stand_in x t ss None ≡ stand_in e.key t ss None
    strike-next p = (rw p at told) ∙ sym (stands-is e.key)
