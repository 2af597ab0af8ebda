-- A level's entries laid down at their sectors are what the rule puts into its buckets, and the headers give its pairs.
use mathlib.Core.Path.{◌≡◌, refl, ap, sym, subst, ◌∙◌}
use Rattle.std.specs.Prelude.{Some}
use mathlib.Core.List.{List, [], ◌∷◌, ◌++◌}
use Prim.Native.Nat.{ℕ, zero, suc, ◌+◌, ◌-◌, ◌*◌, ◌≤◌, ◌<◌}
use native.Mathlib.Omega.{arith}
use lib.ListN.{length, take, drop, length-take, length-drop, take-append-drop}
use Rattle.rules.specs.declared.Entry.{Entry}
use Rattle.rules.specs.declared.Head.{Head}
use Rattle.rules.specs.Sector.{sector_at, put, encode}
use Rattle.rules.specs.Layout.{base}
use Rattle.rules.specs.Rewrite.{into, pair, key_of}
use mathlib.Core.Logic.{inl, ⊎_elim}
use Rattle.laws.proofs.Tools.{le-or-lt}
use Rattle.laws.proofs.Sectors.{length-put, sector-put-same, sector-put-other}
use Rattle.laws.proofs.Codec.{length-encode, key-encode}
use Rattle.laws.proofs.Heads.{bucket-fits}
use Rattle.laws.proofs.Buckets.{raw, apart}
use Rattle.laws.proofs.Into.{block_size, block-else, block-agree}
use Rattle.bucket.specs.Shapes.{Shape}
use Rattle.climb.proofs.Laying.{into-puts}
use Rattle.writer.specs.Rows.{puts}
use Rattle.rules.specs.Season.{parts, filled, pairs_from}
use Rattle.season.specs.Storeys.{spot, over, laid, pair_on, raised}
use Rattle.season.proofs.Counts.{over-more, over_none, over_last, spot-row, spot-shift, spot-from}
use Rattle.season.proofs.Rooms.{base_on}

-- a card whose buckets from b on are blank
pub record Open (h : Head) (card : List ℕ) (b : ℕ) : Type 0 where
  pub shape : Shape h card
  pub least : 1 ≤ b
  pub free : (c : ℕ) → b ≤ c → c ≤ h.n → raw h card c ≡ Some []

pub open-into : (h : Head) (card : List ℕ) (b : ℕ) (es : List Entry) → Open h card b → b ≤ h.n → Open h (into h b es card) (b + 1)
open-into h card b es o most =
    let sh = o.shape in
    record {
      shape = record { lim = sh.lim; long = block_size h card sh.long b o.least most es };
      least = omega arith;
      free = λ c p q. block-else h card sh.long b o.least most es c (omega (arith, o.least)) (λ (e : c ≡ b). omega arith) ∙ o.free c (omega arith) q;
    }

-- entries of the first bucket lie in a row
laid-row : (m q i j : ℕ) (card : List ℕ) (ps rest : List Entry) → j + length ps ≤ q
    → laid m q i j card (ps ++ rest) ≡ laid m q i (j + length ps) (puts card (i + j) ps) rest
laid-row m q i j card [] rest le = let e : j + 0 ≡ j = omega arith in rw e refl
laid-row m q i j card (p ∷ ps) rest le =
    let new = put card (i + j) (encode p) in
    let s = spot-row m q i j (omega arith) in
    let e : j + 1 + length ps ≡ j + suc (length ps) = omega arith in
    let k : i + (j + 1) ≡ i + j + 1 = omega arith in
    ap (λ (n : ℕ). laid m q i (j + 1) (put card n (encode p)) (ps ++ rest)) s
    ∙ laid-row m q i (j + 1) new ps rest (omega arith)
    ∙ ap (λ (n : ℕ). laid m q i n (puts new (i + (j + 1)) ps) rest) e
    ∙ ap (λ (n : ℕ). laid m q i (j + suc (length ps)) (puts new n ps) rest) k

-- those behind it lie as in a level that begins a bucket later
laid-shift : (m q i j : ℕ) (card : List ℕ) (es : List Entry) → 1 ≤ q → laid m q i (q + j) card es ≡ laid m q (i + m) j card es
laid-shift m q i j card [] one = refl
laid-shift m q i j card (e ∷ es) one =
    let s = spot-shift m q i j one in
    let k : q + j + 1 ≡ q + (j + 1) = omega arith in
    rw (s, k) (laid-shift m q i (j + 1) (put card (spot m q (i + m) j) (encode e)) es one)

laid_next : (m q i k : ℕ) (card : List ℕ) (es : List Entry) → 1 ≤ q → k ≤ q → (k < q → length es ≡ 0) → laid m q i k card es ≡ laid m q (i + m) 0 card es
laid_next m q i k card [] one le z = refl
laid_next m q i k card (e ∷ es) one le z =
    ⊎_elim
    (λ (full : q ≤ k). let s : k ≡ q + 0 = omega arith in ap (λ (n : ℕ). laid m q i n card (e ∷ es)) s ∙ laid-shift m q i 0 card (e ∷ es) one)
    (λ (lt : k < q). absurd (let y = z lt in omega arith))
    (le-or-lt q k)

-- as many parts as buckets
pub parts-many : (q f : ℕ) (es : List Entry) → 1 ≤ q → length es ≤ f → length (parts q f es) ≡ over q (length es)
unfolding parts
parts-many q zero [] one le = sym (over_none q one)
parts-many q zero (e ∷ es) one le = absurd (omega arith)
parts-many q (suc f) [] one le = sym (over_none q one)
parts-many q (suc f) (e ∷ es) one le =
    let d : length (drop q (e ∷ es)) ≡ suc (length es) - q = length-drop q (e ∷ es) in
    let ih = parts-many q f (drop q (e ∷ es)) one (omega arith) in
    ap suc ih
    ∙ ap (λ (n : ℕ). suc (over q n)) d
    ∙ ⊎_elim
    (λ (last : suc (length es) ≤ q).
    let z : suc (length es) - q ≡ 0 = omega arith in
    let o = over_last q (suc (length es)) (omega arith) last in
    ap (λ (n : ℕ). suc (over q n)) z ∙ ap suc (over_none q one) ∙ sym o)
    (λ (lt : q < suc (length es)).
    let y : q + (suc (length es) - q) ≡ suc (length es) = omega arith in
    let z : 1 + over q (suc (length es) - q) ≡ suc (over q (suc (length es) - q)) = omega arith in
    sym (ap (over q) (sym y) ∙ over-more q (suc (length es) - q) one ∙ z))
    (le-or-lt (suc (length es)) q)

module _ (h : Head) (q : ℕ) (one : 1 ≤ q) (most : q ≤ h.m) where
  -- one part, into its bucket
  part-puts : (b : ℕ) (es : List Entry) (card : List ℕ) → Open h card b → b ≤ h.n → into h b (take q es) card ≡ puts card (base h b) (take q es)
  part-puts b es card o le =
      let t = length-take q es in
      into-puts h card b [] (take q es) (base h b) (o.free b (omega arith) le) (omega arith) (omega arith)

  pub filled-laid : (f : ℕ) (es : List Entry) (b : ℕ) (card : List ℕ) → Open h card b → length es ≤ f → b + length (parts q f es) ≤ h.n + 1
      → filled h b (parts q f es) card ≡ laid h.m q (base h b) 0 card es
  unfolding parts filled
  filled-laid zero [] b card o le fit = refl
  filled-laid zero (e ∷ es) b card o le fit = absurd (omega arith)
  filled-laid (suc f) [] b card o le fit = refl
  filled-laid (suc f) (e ∷ es) b card o le fit =
      let p = take q (e ∷ es) in
      let r = drop q (e ∷ es) in
      let i = base h b in
      let d : length r ≡ suc (length es) - q = length-drop q (e ∷ es) in
      let t = length-take q (e ∷ es) in
      let on : base h (b + 1) ≡ i + h.m = base_on h b 1 o.least ∙ (omega arith) in
      let zero-on : i + 0 ≡ i = omega arith in
      let whole : p ++ r ≡ e ∷ es = take-append-drop q (e ∷ es) in
      filled-laid f r (b + 1) (into h b p card) (open-into h card b p o (omega arith)) (omega arith) (omega arith)
      ∙ ap (λ (n : ℕ). laid h.m q n 0 (into h b p card) r) on
      ∙ ap (λ (c : List ℕ). laid h.m q (i + h.m) 0 c r) (part-puts b (e ∷ es) card o (omega arith))
      ∙ sym (laid_next h.m q i (length p) (puts card i p) r one (omega arith) (λ lt. omega arith))
      ∙ ap (λ (n : ℕ). laid h.m q i (length p) (puts card n p) r) (sym zero-on)
      ∙ ap (λ (n : ℕ). laid h.m q i n (puts card (i + 0) p) r) (let z : length p ≡ 0 + length p = omega arith in z)
      ∙ sym (laid-row h.m q i 0 card p r (omega arith))
      ∙ ap (laid h.m q i 0 card) whole

-- the headers of the buckets from b on give these pairs
abbrev pub PairsOn : Head → ℕ → List ℕ → ℕ → List Entry → Type 0
PairsOn h s card b [] = Unit {0}
PairsOn h s card b (p ∷ ps) = (pair_on h s card b ≡ p) × PairsOn h s card (b + 1) ps

base-less : (h : Head) (b c : ℕ) → 1 ≤ b → b < c → base h b + h.m ≤ base h c
unfolding base
base-less h b c lo lt = let a = apart h.m b c lt lo in omega arith

take-some : (q : ℕ) (e : Entry) (es : List Entry) → 1 ≤ q → take q (e ∷ es) ≡ e ∷ take (q - 1) es
take-some q e es one = let s : q ≡ suc (q - 1) = omega arith in ap (λ (n : ℕ). take n (e ∷ es)) s

puts-front : (card : List ℕ) (i j : ℕ) (es : List Entry) → j < i → 16 * (i + length es) ≤ length card → sector_at (puts card i es) j ≡ sector_at card j
puts-front card i j [] lt le = refl
puts-front card i j (e ∷ es) lt le =
    let l = length-put card i (encode e) (length-encode e) (omega arith) in
    puts-front (put card i (encode e)) (i + 1) j es (omega arith) (omega arith)
    ∙ sector-put-other card i j (encode e) (length-encode e) (omega arith) (λ (z : j ≡ i). omega arith)

module _ (h : Head) where
  filled-front : (ps : List (List Entry)) (b : ℕ) (card : List ℕ) → Open h card b → b + length ps ≤ h.n + 1 → (j : ℕ) → j < base h b
      → sector_at (filled h b ps card) j ≡ sector_at card j
  unfolding filled
  filled-front [] b card o fit j lt = refl
  filled-front (p ∷ ps) b card o fit j lt =
      let up = base-less h b (b + 1) o.least (omega arith) in
      filled-front ps (b + 1) (into h b p card) (open-into h card b p o (omega arith)) (omega arith) j (omega arith)
      ∙ block-agree h card o.shape.long b o.least (omega arith) p j 1 (inl (omega arith)) j (omega arith) (omega arith)

  pub filled-open : (ps : List (List Entry)) (b : ℕ) (card : List ℕ) → Open h card b → b + length ps ≤ h.n + 1 → Open h (filled h b ps card) (b + length ps)
  unfolding filled
  filled-open [] b card o fit = subst (Open h card) (let z : b ≡ b + 0 = omega arith in z) o
  filled-open (p ∷ ps) b card o fit =
      subst (Open h (filled h (b + 1) ps (into h b p card))) (let z : b + 1 + length ps ≡ b + suc (length ps) = omega arith in z)
      (filled-open ps (b + 1) (into h b p card) (open-into h card b p o (omega arith)) (omega arith))

  -- a write behind the buckets leaves their headers
  pairs-put : (s b : ℕ) (ps : List Entry) (card : List ℕ) (k : ℕ) (bs : List ℕ) → length bs ≡ 16 → 16 * k + 16 ≤ length card → 1 ≤ h.m → 1 ≤ b → base h (b + length ps) ≤ k
      → PairsOn h s card b ps → PairsOn h s (put card k bs) b ps
  unfolding pair_on
  pairs-put s b [] card k bs l in-card pos lo le ok = tt
  pairs-put s b (p ∷ ps) card k bs l in-card pos lo le ok =
      let far = base-less h b (b + suc (length ps)) lo (omega arith) in
      let e : b + suc (length ps) ≡ b + 1 + length ps = omega arith in
      let same = sector-put-other card k (base h b) bs l in-card (λ (z : base h b ≡ k). omega arith) in
      (rw same ok.0, pairs-put s (b + 1) ps card k bs l in-card pos (omega arith) (rw e at le) ok.1)

module _ (h : Head) (q : ℕ) (one : 1 ≤ q) (most : q ≤ h.m) where
  -- the header of a bucket that is filled
  part-header : (b : ℕ) (e : Entry) (es : List Entry) (card : List ℕ) → Open h card b → b ≤ h.n → sector_at (into h b (take q (e ∷ es)) card) (base h b) ≡ encode e
  part-header b e es card o le =
      let i = base h b in
      let t = length-take (q - 1) es in
      let fits = bucket-fits h card b o.shape.long o.least le in
      let l = length-put card i (encode e) (length-encode e) (omega arith) in
      ap (λ (c : List ℕ). sector_at c i) (part-puts h q one most b (e ∷ es) card o le ∙ ap (puts card i) (take-some q e es one))
      ∙ puts-front (put card i (encode e)) (i + 1) i (take (q - 1) es) (omega arith) (omega arith)
      ∙ sector-put-same card i (encode e) (length-encode e) (omega arith)

  pub filled-pairs : (s f : ℕ) (es : List Entry) (b : ℕ) (card : List ℕ) → Open h card b → length es ≤ f → b + length (parts q f es) ≤ h.n + 1
      → PairsOn h s (filled h b (parts q f es) card) b (pairs_from s b (parts q f es))
  unfolding parts filled pairs_from pair_on pair key_of
  filled-pairs s zero es b card o le fit = tt
  filled-pairs s (suc f) [] b card o le fit = tt
  filled-pairs s (suc f) (e ∷ es) b card o le fit =
      let p = take q (e ∷ es) in
      let r = drop q (e ∷ es) in
      let d : length r ≡ suc (length es) - q = length-drop q (e ∷ es) in
      let next = open-into h card b p o (omega arith) in
      let up = base-less h b (b + 1) o.least (omega arith) in
      let head : sector_at (filled h (b + 1) (parts q f r) (into h b p card)) (base h b) ≡ encode e =
      filled-front h (parts q f r) (b + 1) (into h b p card) next (omega arith) (base h b) (omega arith) ∙ part-header b e es card o (omega arith) in
      let first : key_of p ≡ e.key = ap key_of (take-some q e es one) in
      (rw (head, key-encode e, first) refl, filled-pairs s f r (b + 1) (into h b p card) next (omega arith) (omega arith))

  -- pairs read when their turn comes are those in hand
  pub raised-laid : (s b i j c : ℕ) (ps : List Entry) (card : List ℕ) → c ≡ length ps → 1 ≤ b → base h (b + j + length ps) ≤ i
      → ((k : ℕ) → k < j + length ps → 16 * spot h.m q i k + 16 ≤ length card) → PairsOn h s card (b + j) ps
      → raised h s q b i j c card ≡ laid h.m q i j card ps
  raised-laid s b i j zero [] card n lo far room ok = refl
  raised-laid s b i j (suc c) [] card n lo far room ok = absurd (omega arith)
  raised-laid s b i j zero (p ∷ ps) card n lo far room ok = absurd (omega arith)
  raised-laid s b i j (suc c) (p ∷ ps) card n lo far room ok =
      let at = spot h.m q i j in
      let from = spot-from h.m q i j in
      let lies = room j (omega arith) in
      let new = put card at (encode p) in
      let l = length-put card at (encode p) (length-encode p) lies in
      let e : b + j + suc (length ps) ≡ b + (j + 1) + length ps = omega arith in
      let e1 : b + j + 1 ≡ b + (j + 1) = omega arith in
      let tail : PairsOn h s card (b + (j + 1)) ps = rw e1 at ok.1 in
      let far' : base h (b + (j + 1) + length ps) ≤ i = rw e at far in
      ap (λ (x : Entry). raised h s q b i (j + 1) c (put card at (encode x))) ok.0
      ∙ raised-laid s b i (j + 1) c ps new (omega arith) lo far'
      (λ k lt. let r = room k (omega arith) in omega arith)
      (pairs-put h s (b + (j + 1)) ps card at (encode p) (length-encode p) lies (omega arith) (omega arith) (omega arith) tail)
