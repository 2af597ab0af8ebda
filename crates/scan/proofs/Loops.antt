-- The turns of the loops, as the code has the numbers: what each way out of a turn says of the whole scan.
use mathlib.Core.Path.{◌≡◌, refl, ap, sym, ◌∙◌, subst}
use mathlib.Core.Bool.{Bool, true, false}
use Prim.Native.Nat.{ℕ, suc, ◌+◌, ◌-◌, ◌≤◌, ◌<◌}
use native.Mathlib.Omega.{arith}
use native.Mathlib.Numerals.{add-one}
use mathlib.Core.List.{List, [], ◌∷◌}
use borrow.Author.Tests.{eq-eqb, ne_eqb}
use Rattle.std.specs.Prelude.{Option, None, Some, Result, Ok, Err}
use Rattle.rules.specs.declared.refusal.Damage.{Damage}
use Rattle.rules.specs.declared.Entry.{Entry}
use Rattle.rules.specs.declared.Head.{Head}
use Rattle.rules.specs.declared.Sector.{Sector}
use Rattle.rules.specs.declared.Sector.TheVariants.{Blank, Held, Damaged}
use Rattle.rules.specs.Bucket.{joins}
use Rattle.rules.specs.Sector.{sector_at, decode, is_index}
use Rattle.scan.specs.declared.Way.{Way}
use Rattle.scan.specs.declared.Way.TheVariants.{Down, End}
use Rattle.scan.specs.declared.Trip.{Trip}
use Rattle.scan.specs.Scan.{Found, damaged, sectors, all_blank, scan_in, pick, way_of, search}
use Rattle.scan.specs.Look.{search_at, trip, onward, walk_scan}
use Rattle.scan.specs.declared.Leg.{Leg}
use Rattle.scan.specs.Next.{pick_up, weigh, stand_in, sectors_of, leg_of, stride, leg_scan}
use Rattle.scan.proofs.Judged.{Says, data-weigh}

-- the sectors from the i-th on, up to the m-th: the i-th, and those from the next on
sectors-step : (n m i : ℕ) (b : List ℕ) → i < m
    → sectors n b i (m - i) ≡ decode n (sector_at b i) ∷ sectors n b (i + 1) (m - (i + 1))
unfolding sectors
sectors-step n m i b h =
    let more : m - i ≡ suc (m - (i + 1)) = omega arith in
    rw (more, add-one)

pub sectors-end : (n m i : ℕ) (b : List ℕ) → m ≤ i → sectors n b i (m - i) ≡ []
unfolding sectors
sectors-end n m i b h = let z : m - i ≡ 0 = omega arith in rw z

-- the first of m sectors
sectors-first : (n m : ℕ) (b : List ℕ) → 4 ≤ m → sectors n b 0 m ≡ decode n (sector_at b 0) ∷ sectors n b 1 (m - 1)
unfolding sectors
sectors-first n m b h = let more : m ≡ suc (m - 1) = omega arith in ap (λ (k : ℕ). sectors n b 0 k) more

-- any question g to the sectors from the i-th on, once the i-th was read as s; w is what the whole answers
pub sectors-turn : {A : Type 0} (g : List Sector → A) (n m i : ℕ) (b : List ℕ) (s : Sector) (w : A) → i < m
    → s ≡ decode n (sector_at b i) → g (sectors n b i (m - i)) ≡ w → g (s ∷ sectors n b (i + 1) (m - (i + 1))) ≡ w
sectors-turn g n m i b s w h d inv = rw (sectors-step n m i b h, ← d) at inv

-- neither an entry nor blank: damage, whatever comes behind it
pub damaged-at : (ok : Entry → Bool) (pick : Option Entry → Entry → Option Entry) (best : Option Entry) (s : Sector) (l : List Sector)
    → ((e : Entry) → s ≡ Held e → ⊥) → (s ≡ Blank → ⊥) → damaged ≡ scan_in ok pick (s ∷ l) best
unfolding scan_in
damaged-at ok pick best Blank l p q = absurd (q refl)
damaged-at ok pick best (Held e) l p q = absurd (p e refl)
damaged-at ok pick best Damaged l p q = refl

-- the header, read before the loop
first-other-kind : (k x t : ℕ) (s : Sector) (l : List Sector) → ((e : Entry) → s ≡ Held e → ⊥) → damaged ≡ search k x t (s ∷ l)
unfolding search
first-other-kind k x t Blank l p = refl
first-other-kind k x t (Held e) l p = absurd (p e refl)
first-other-kind k x t Damaged l p = refl

module _ (k x t n m : ℕ) (b : List ℕ) (s : Sector) (h : 4 ≤ m) (d : s ≡ decode n (sector_at b 0)) where
  -- no entry at the start
  pub first-none : ((e : Entry) → s ≡ Held e → ⊥) → damaged ≡ search k x t (sectors n b 0 m)
  first-none p = rw (sectors-first n m b h, ← d) (first-other-kind k x t s (sectors n b 1 (m - 1)) p)

  -- another header than the key followed
  pub first-other : (e : Entry) → s ≡ Held e → (e.key ≡ k → ⊥) → damaged ≡ search k x t (sectors n b 0 m)
  unfolding search
  first-other e is other = rw (sectors-first n m b h, ← d, is, ne_eqb e.key k other)

  -- the scan of the whole bucket
  pub first-scan : (e : Entry) → s ≡ Held e → e.key ≡ k
      → way_of (is_index e) (scan_in (joins e) (pick (is_index e) x t) (sectors n b 0 m) None) ≡ search k x t (sectors n b 0 m)
  unfolding search
  first-scan e is same = rw (sectors-first n m b h, ← d, is, eq-eqb e.key k same)

-- one bucket of the walk, as its loop has the numbers; s is what its search said
pub walk_turn : (h : Head) (card : List ℕ) (x t r b k : ℕ) (s : Result Way Damage) (w : Result Trip Damage) → r < h.n → s ≡ search_at h card x t b k
    → walk_scan h card x t (h.n - r) r b k ≡ w → onward s (r + 1) (walk_scan h card x t (h.n - (r + 1)) (r + 1)) ≡ w
unfolding walk_scan
walk_turn h card x t r b k s w lt said inv = let more : h.n - r ≡ suc (h.n - (r + 1)) = omega arith in rw said (rw more at inv)

pub walk-out : (h : Head) (card : List ℕ) (x t r b k : ℕ) (w : Result Trip Damage) → r ≡ h.n → walk_scan h card x t (h.n - r) r b k ≡ w → damaged ≡ w
unfolding walk_scan
walk-out h card x t r b k w e inv = let z : h.n - r ≡ 0 = omega arith in rw z at inv

-- the data bucket is asked for bibs alone, an index bucket for keys alone
stride-here : (s : Result Way Damage) (here there : Leg) (on : ℕ → ℕ → Result Leg Damage) → (Says false s → here ≡ there) → stride s here on ≡ stride s there on
unfolding stride
stride-here (Err d) here there on same = refl
stride-here (Ok (Down e)) here there on same = refl
stride-here (Ok (End c)) here there on same = ap Ok (same tt)

-- one bucket of a walk of next
pub leg-turn : (h : Head) (card : List ℕ) (k x t r b j : ℕ) (up : Option Entry) (s : Result Way Damage) (w : Result Leg Damage) → r < h.n → s ≡ search_at h card x t b j
    → leg_scan h card k x t (h.n - r) up b j ≡ w
    → stride s (leg_of (stand_in k t (sectors_of h card b) None) up) (leg_scan h card k x t (h.n - (r + 1)) (weigh (pick_up x t) (sectors_of h card b) up)) ≡ w
unfolding leg_scan
leg-turn h card k x t r b j up s w lt said inv =
    let more : h.n - r ≡ suc (h.n - (r + 1)) = omega arith in
    let stand = stand_in k t (sectors_of h card b) None in
    let met = weigh (pick_up x t) (sectors_of h card b) up in
    stride-here s (leg_of stand up) (leg_of stand met) (leg_scan h card k x t (h.n - (r + 1)) met)
    (λ e. ap (leg_of stand) (sym (data-weigh h card x t b j up (subst (Says false) said e))))
    ∙ rw said (rw more at inv)

pub leg-out : (h : Head) (card : List ℕ) (k x t r b j : ℕ) (up : Option Entry) (w : Result Leg Damage) → r ≡ h.n → leg_scan h card k x t (h.n - r) up b j ≡ w → damaged ≡ w
unfolding leg_scan
leg-out h card k x t r b j up w e inv = let z : h.n - r ≡ 0 = omega arith in rw z at inv

-- a scan from sector i of m on, which gives w: what the sector there says of w
module _ (ok : Entry → Bool) (pick : Option Entry → Entry → Option Entry) (best : Option Entry) (n m i : ℕ) (b : List ℕ) (w : Found)
    (inv : scan_in ok pick (sectors n b i (m - i)) best ≡ w) where
  -- there is none
  pub scan-end : m ≤ i → Ok best ≡ w
  unfolding scan_in
  scan-end h = rw (sectors-end n m i b h) at inv

  met : i < m → (s : Sector) → s ≡ decode n (sector_at b i) → scan_in ok pick (s ∷ sectors n b (i + 1) (m - (i + 1))) best ≡ w
  met h s is = sectors-turn (λ l. scan_in ok pick l best) n m i b s w h is inv

  pub scan-held : i < m → (e : Entry) → Held e ≡ decode n (sector_at b i) → true ≡ ok e → scan_in ok pick (sectors n b (i + 1) (m - (i + 1))) (pick best e) ≡ w
  unfolding scan_in
  scan-held h e is fits = rw (← fits) at (met h (Held e) is)

  pub scan-misfit : i < m → (e : Entry) → Held e ≡ decode n (sector_at b i) → false ≡ ok e → damaged ≡ w
  unfolding scan_in
  scan-misfit h e is not = rw (← not) at (met h (Held e) is)

  pub scan-blank : i < m → Blank ≡ decode n (sector_at b i) → true ≡ all_blank (sectors n b (i + 1) (m - (i + 1))) → Ok best ≡ w
  unfolding scan_in
  scan-blank h is behind = rw (← behind) at (met h Blank is)

  pub scan-hole : i < m → Blank ≡ decode n (sector_at b i) → false ≡ all_blank (sectors n b (i + 1) (m - (i + 1))) → damaged ≡ w
  unfolding scan_in
  scan-hole h is behind = rw (← behind) at (met h Blank is)

  pub scan-damage : i < m → Damaged ≡ decode n (sector_at b i) → damaged ≡ w
  unfolding scan_in
  scan-damage h is = met h Damaged is
