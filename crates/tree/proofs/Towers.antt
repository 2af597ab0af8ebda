-- The levels of index above a row of buckets, up to the one bucket that is the root.
use mathlib.Core.Path.{◌≡◌, refl, ap, ◌∙◌, subst}
use mathlib.Core.Logic.{⊎_elim}
use mathlib.Core.Bool.{true}
use Rattle.std.specs.Prelude.{Option}
use Prim.Native.Nat.{ℕ, zero, suc, ◌+◌, ◌*◌, ◌-◌, ◌≤◌, ◌<◌}
use native.Mathlib.Omega.{arith}
use mathlib.Core.List.{List, [], ◌∷◌}
use lib.ListN.{length, drop, length-drop}
use Rattle.rules.specs.declared.Entry.{Entry}
use Rattle.rules.specs.declared.Head.{Head}
use Rattle.rules.specs.Bucket.{bucket}
use Rattle.rules.specs.Rewrite.{Rise}
use Rattle.rules.specs.Season.{quota, parts, storey_of, storey, until_one, tower}
use Rattle.rules.specs.Sector.{sector_at}
use Rattle.laws.proofs.Entries.{Fine}
use Rattle.laws.proofs.Halves.{Sorted}
use Rattle.laws.proofs.Heads.{Lim}
use Rattle.laws.proofs.Lists.{All}
use Rattle.laws.proofs.Tools.{le-or-lt}
use Rattle.tree.proofs.Ready.{Ready}
use Rattle.tree.proofs.Rows.{Hand, Row, FirstAt, Stamped, kids-single, parts-nil, filled_row}
use Rattle.tree.proofs.Tree.{HeadIs, Shape, Tree, Kids}

-- of parts of two or more there are at most half as many as entries, rounded up
parts-half : (q f : ℕ) (es : List Entry) → 2 ≤ q → 2 * length (parts q f es) ≤ length es + 1
unfolding parts
parts-half q zero es q2 = omega arith
parts-half q (suc f) [] q2 = omega arith
parts-half q (suc f) (e ∷ es) q2 =
    let ih = parts-half q f (drop q (e ∷ es)) q2 in
    let ld : length (drop q (e ∷ es)) ≡ length (e ∷ es) - q = length-drop q (e ∷ es) in
    ⊎_elim
    (λ (le : length (e ∷ es) ≤ q). short (drop q (e ∷ es)) (omega arith))
    (λ (gt : q < length (e ∷ es)). omega arith)
    (le-or-lt (length (e ∷ es)) q)
  where
    short : (rest : List Entry) → length rest ≡ 0 → 2 * suc (length (parts q f rest)) ≤ suc (length es) + 1
    short [] z = rw (parts-nil q f) (omega arith)
    short (d ∷ rest) z = absurd (omega arith)

pub head-some : (lo : ℕ) (ps : List Entry) → HeadIs lo ps → 1 ≤ length ps
head-some lo [] k = absurd k
head-some lo (p ∷ ps) k = omega arith

-- the card so far: the pairs ps, not in a bucket yet, speak for all keys
pub record Stack (h : Head) (card card' : List ℕ) (g : ℕ → Option Entry) (s k f : ℕ) (ps : List Entry) : Type 0 where
  pub ready : Ready h card' f
  pub front : (j : ℕ) → j < 1 + h.n → sector_at card' j ≡ sector_at card j
  pub content : Kids (bucket h card') g k ps 0 4294967296
  pub shape : Shape true 0 4294967296 ps
  pub sorted : Sorted ps
  pub fine : All (Fine h.n) ps
  pub stamps : All (λ e. e.stamp ≡ s) ps
  pub high : k + 2 ≤ f

-- so do those of a row, where what was before it is as on the first card
pub row-stack : (h : Head) (card card1 card' : List ℕ) (g : ℕ → Option Entry) (s b k f : ℕ) (es ps : List Entry)
    → Row h card1 card' g s b k 0 4294967296 f es ps → ((j : ℕ) → j < 1 + h.n → sector_at card1 j ≡ sector_at card j)
    → k + 2 ≤ f → Stack h card card' g s k f ps
row-stack h card card1 card' g s b k f es ps w front high =
    record {
      ready = w.ready;
      front = λ j lt. w.front j lt ∙ front j lt;
      content = w.content;
      shape = w.shape;
      sorted = w.sorted;
      fine = w.fine;
      stamps = w.stamps;
      high = high;
    }

-- one root is left, the last bucket before f
pub record Topped (h : Head) (card card' : List ℕ) (g : ℕ → Option Entry) (s f : ℕ) : Type 0 where
  pub ready : Ready h card' f
  pub front : (j : ℕ) → j < 1 + h.n → sector_at card' j ≡ sector_at card j
  pub stamped : Stamped s (bucket h card')
  pub height : ℕ
  pub index : 1 ≤ height
  pub tree : Tree (bucket h card') g height (f - 1) 0 4294967296
  pub high : height + 2 ≤ f

-- the number of the next fresh bucket does not fall
pub storey-up : (h : Head) (s : ℕ) (r : Rise) → r.fresh ≤ (storey h s r).fresh
unfolding storey storey_of
storey-up h s r = omega arith

pub until-up : (ps : List Entry) (r : Rise) (on : Rise → Rise) → ((z : Rise) → z.fresh ≤ (on z).fresh) → r.fresh ≤ (until_one ps r on).fresh
unfolding until_one
until-up [] r on f = omega arith
until-up (p ∷ []) r on f = omega arith
until-up (p ∷ d ∷ ps) r on f = f r

pub tower-up : (h : Head) (s f : ℕ) (r : Rise) → r.fresh ≤ (tower h s f r).fresh
unfolding tower
tower-up h s zero r = omega arith
tower-up h s (suc f) r =
    let a = storey-up h s r in
    let b = until-up (storey h s r).hand (storey h s r) (tower h s f) (tower-up h s f) in
    omega arith

module _ (h : Head) (lim : Lim h) (g : ℕ → Option Entry) (s : ℕ) (s32 : s < 4294967296) where
  pub quota-in : (2 ≤ quota h) × (quota h ≤ h.m)
  unfolding quota
  quota-in = let m4 = lim.m4 in (omega arith, omega arith)

  -- the hand of a level goes into its buckets
  pub storey-row : (r : Rise) (k : ℕ) → Hand h r.card g s r.fresh k 0 4294967296 r.hand → (storey h s r).fresh ≤ h.n + 1
      → Row h r.card (storey h s r).card g s r.fresh k 0 4294967296 (storey h s r).fresh r.hand (storey h s r).hand
  unfolding storey storey_of
  storey-row r k i cap =
      let q2 = quota-in.0 in
      filled_row h lim g s (quota h) s32 quota-in.1 (length r.hand) (omega arith) r.card r.fresh k 0 4294967296 r.hand i (omega arith) (omega arith) (omega arith) cap

  module _ (card : List ℕ) where
    abbrev Stacked : ℕ → Rise → Type 0
    Stacked k r = Stack h card r.card g s k r.fresh r.hand

    abbrev Storey : ℕ → Rise → Rise → Type 0
    Storey k r up =
        Stacked (suc k) up × FirstAt r.fresh up.hand × Stamped s (bucket h up.card) × (up.fresh ≡ r.fresh + length up.hand)

    storey-stack : (r : Rise) (k : ℕ) → Stacked k r → (storey h s r).fresh ≤ h.n + 1 → Storey k r (storey h s r)
    storey-stack r k st cap =
        let up = storey h s r in
        let hi = st.high in
        let w = storey-row r (suc k) (record {
          ready = st.ready;
          one = omega arith;
          shape = st.shape;
          sorted = st.sorted;
          content = st.content;
          fine = st.fine;
        }) cap in
        let count = w.next in
        let some_up = head-some 0 up.hand w.shape.0 in (
          row-stack h card r.card up.card g s r.fresh (suc k) up.fresh r.hand up.hand w st.front (omega arith),
          w.first,
          w.stamped st.stamps,
          w.next,
        )

    storey-half : (r : Rise) → (storey h s r).fresh ≡ r.fresh + length (storey h s r).hand → 2 * length (storey h s r).hand ≤ length r.hand + 1
    unfolding storey storey_of
    storey-half r count = let b = parts-half (quota h) (length r.hand) r.hand quota-in.0 in omega arith

    abbrev Towers : ℕ → Type 0
    Towers f = (r : Rise) (k : ℕ) → Stacked k r → length r.hand ≤ f → (tower h s f r).fresh ≤ h.n + 1
        → Topped h card (tower h s f r).card g s (tower h s f r).fresh

    -- one more level, of which ps are the pairs
    up_one : (f : ℕ) → Towers f → (r up : Rise) (k : ℕ) → Storey k r up → 2 * length up.hand ≤ length r.hand + 1
        → length r.hand ≤ suc f → (ps : List Entry) → up.hand ≡ ps → (until_one ps up (tower h s f)).fresh ≤ h.n + 1
        → Topped h card (until_one ps up (tower h s f)).card g s (until_one ps up (tower h s f)).fresh
    unfolding until_one
    up_one f ih r up k st half len [] e cap = absurd (subst (HeadIs 0) e st.0.shape.0)
    up_one f ih r up k st half len (p ∷ []) e cap =
        let rd = bucket h up.card in
        let sh : Shape true 0 4294967296 (p ∷ []) = subst (Shape true 0 4294967296) e st.0.shape in
        let ks : Kids rd g (suc k) (p ∷ []) 0 4294967296 = subst (λ z. Kids rd g (suc k) z 0 4294967296) e st.0.content in
        let tr = kids-single rd g (suc k) 0 4294967296 p sh.0 (omega arith) ks in
        let pv : p.value ≡ r.fresh = subst (FirstAt r.fresh) e st.1 in
        let l1 : length up.hand ≡ 1 = ap length e in
        let count = st.3 in
        let v : p.value ≡ up.fresh - 1 = omega arith in
        record {
          ready = st.0.ready;
          front = st.0.front;
          stamped = st.2;
          height = suc k;
          index = omega arith;
          tree = rw v at tr;
          high = st.0.high;
        }
    up_one f ih r up k st half len (p ∷ d ∷ ps) e cap =
        let l2 : length up.hand ≡ suc (suc (length ps)) = ap length e in
        ih up (suc k) st.0 (omega arith) cap

    pub tower-topped : (f : ℕ) → Towers f
    unfolding tower
    tower-topped zero r k st len cap = absurd (let n = head-some 0 r.hand st.shape.0 in omega arith)
    tower-topped (suc f) r k st len cap =
        let up = storey h s r in
        let more = until-up up.hand up (tower h s f) (tower-up h s f) in
        let above = storey-stack r k st (omega arith) in
        up_one f (tower-topped f) r up k above (storey-half r above.3) len up.hand refl cap
