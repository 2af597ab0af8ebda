-- A season card as the code builds it is the rule's.
use mathlib.Core.Path.{◌≡◌, refl, ap, sym, ◌∙◌}
use mathlib.Core.Bool.{true}
use mathlib.Core.List.{List, ◌∷◌}
use Prim.Native.Nat.{ℕ, suc, ◌+◌, ◌≤◌}
use native.Mathlib.Omega.{arith}
use lib.ListN.{length}
use Rattle.rules.specs.declared.Entry.{Entry}
use Rattle.rules.specs.declared.Head.{Head}
use Rattle.rules.specs.Plain.{zeros}
use Rattle.rules.specs.Sector.{put, encode}
use Rattle.rules.specs.Layout.{base, head_bytes}
use Rattle.rules.specs.Rewrite.{Rise}
use Rattle.rules.specs.Format.{dummy}
use Rattle.laws.proofs.Sectors.{length-put, sector-put-other}
use Rattle.laws.proofs.Zeros.{zero-sector}
use Rattle.laws.proofs.Used.{run-blank}
use Rattle.laws.proofs.Heads.{log-fits, first-base, head-length}
use Rattle.bucket.specs.Shapes.{Shape}
use Rattle.rules.specs.Records.{rolled}
use Rattle.scroll.proofs.Rolls.{roll-length}
use Rattle.rules.specs.Season.{quota, storey, tower, tower_on, built, standing_at}
use Rattle.season.specs.Storeys.{over, laid, tiers, heap, fresh}
use Rattle.season.proofs.Counts.{heap-more, spot-row}
use Rattle.season.proofs.Rows.{Open}
use Rattle.season.proofs.Towers.{Level, storey-fresh, storey-many, storey-laid, storey-level, tower-fresh, tower-tiers}

pub quota-fits : (h : Head) → 4 ≤ h.m → (3 ≤ quota h) × (quota h ≤ h.m)
unfolding quota
quota-fits h four = (omega arith, omega arith)

abbrev start : Head → ℕ → List Entry → List ℕ → Rise
start h s es card = record { hand = dummy ∷ es; fresh = 1; card = put card 0 (head_bytes h s) }

-- how many buckets are needed depends on the number of records alone
pub built-fresh : (h : Head) (s : ℕ) (es : List Entry) (card : List ℕ) → 1 ≤ quota h → (built h s es card).fresh ≡ fresh (quota h) (length es + 1)
unfolding built tower_on fresh
built-fresh h s es card one =
    let g = storey h s (start h s es card) in
    let n : suc (length es) ≡ length es + 1 = omega arith in
    tower-fresh h s one (length g.hand) g
    ∙ ap (λ (x : ℕ). heap (quota h) (length g.hand) x (length g.hand)) (storey-fresh h s one (start h s es card))
    ∙ ap (λ (x : ℕ). heap (quota h) x (1 + over (quota h) (suc (length es))) x) (storey-many h s one (start h s es card))
    ∙ ap (λ (x : ℕ). heap (quota h) (over (quota h) x) (1 + over (quota h) x) (over (quota h) x)) n

-- the data level's buckets are among them
pub data-fits : (q n c : ℕ) → fresh q c ≤ n → 1 + over q c ≤ n
unfolding fresh
data-fits q n c le = let h = heap-more q (over q c) (1 + over q c) (over q c) in omega arith

module _ (h : Head) (s : ℕ) (card : List ℕ) (sh : Shape h card) (zs : zeros card ≡ true) where
  pub begun-long : length (put card 0 (head_bytes h s)) ≡ length card
  begun-long = length-put card 0 (head_bytes h s) (head-length h s) (let l = log-fits h card sh.long in omega arith)

  begun-open : Open h (put card 0 (head_bytes h s)) 1
  unfolding base
  begun-open =
      record {
        shape = record { lim = sh.lim; long = sh.long ∙ sym begun-long };
        least = omega arith;
        free = λ c p q.
            run-blank h.n (put card 0 (head_bytes h s)) (base h c) h.m
            (λ j a b.
            ap zeros (sector-put-other card 0 j (head_bytes h s) (head-length h s) (let l = log-fits h card sh.long in omega arith) (λ (z : j ≡ 0). omega arith))
            ∙ zero-sector card j zs);
      }

  pub built-card : (es : List Entry) → fresh (quota h) (length es + 1) ≤ h.n + 1
      → (built h s es card).card
      ≡ tiers h s (quota h) (over (quota h) (length es + 1)) 1 (over (quota h) (length es + 1))
      (laid h.m (quota h) (1 + h.n) 1 (put (put card 0 (head_bytes h s)) (1 + h.n) (encode dummy)) es)
  unfolding built tower_on fresh
  built-card es fit =
      let qs = quota-fits h sh.lim.m4 in
      let one : 1 ≤ quota h = omega (arith, qs.0) in
      let q = quota h in
      let r = start h s es card in
      let g = storey h s r in
      let n : suc (length es) ≡ length es + 1 = omega arith in
      let c = over q (length es + 1) in
      let top : 1 + over q (suc (length es)) ≤ h.n + 1 = rw n (data-fits q (h.n + 1) (length es + 1) fit) in
      let l : Level h s 1 (over q (suc (length es))) g = storey-level h s one qs.1 r begun-open top in
      let l' : Level h s 1 c g = rw n at l in
      let many : length g.hand ≡ c = l'.many in
      let spot0 = spot-row h.m q (1 + h.n) 0 (omega arith) ∙ (let z : 1 + h.n + 0 ≡ 1 + h.n = omega arith in z) in
      ap (λ (x : ℕ). (tower h s x g).card) many
      ∙ tower-tiers h s one qs.1 c 1 c g l' fit
      ∙ ap (tiers h s q c 1 c)
      (storey-laid h s one qs.1 r begun-open top
      ∙ ap (λ (x : ℕ). laid h.m q x 0 (put card 0 (head_bytes h s)) (dummy ∷ es)) (first-base h)
      ∙ ap (λ (x : ℕ). laid h.m q (1 + h.n) 1 (put (put card 0 (head_bytes h s)) x (encode dummy)) es) spot0)

-- the records that were counted come again
pub records-again : (card : List ℕ) (t c : ℕ) → c ≡ length (standing_at card t).records → (rolled card t c 0).records ≡ (standing_at card t).records
unfolding standing_at
records-again card t c e = ap (λ (n : ℕ). (rolled card t n 0).records) e ∙ roll-length card t 4294967296 0

-- the levels fit above the c buckets of the data level
pub levels-fit : (q n entries p c : ℕ) → p ≡ q → c ≡ over p entries → fresh q entries ≤ n → heap p c (1 + c) c ≤ n
unfolding fresh
levels-fit q n entries p c pe ce le = rw (ce, pe) le

-- head, dummy and records, as they were written one after the other
pub data-laid : (h : Head) (s : ℕ) (card headed begun lay : List ℕ) (q : ℕ) (es rs : List Entry) → headed ≡ put card 0 (head_bytes h s) → begun ≡ put headed (1 + h.n) (encode dummy)
    → q ≡ quota h → rs ≡ es → lay ≡ laid h.m q (1 + h.n) 1 begun rs
    → lay ≡ laid h.m (quota h) (1 + h.n) 1 (put (put card 0 (head_bytes h s)) (1 + h.n) (encode dummy)) es
data-laid h s card headed begun lay q es rs he be qe re le = le ∙ rw (be, he, qe, re) refl

pub fresh-some : (q c : ℕ) → 1 ≤ fresh q c
unfolding fresh
fresh-some q c = let h = heap-more q (over q c) (1 + over q c) (over q c) in omega arith

pub built-is : (h : Head) (s : ℕ) (card : List ℕ) → Shape h card → zeros card ≡ true → (es : List Entry) (count q c : ℕ) (lay new : List ℕ) → count ≡ length es → q ≡ quota h
    → c ≡ over q (count + 1) → fresh (quota h) (count + 1) ≤ h.n + 1
    → lay ≡ laid h.m (quota h) (1 + h.n) 1 (put (put card 0 (head_bytes h s)) (1 + h.n) (encode dummy)) es
    → new ≡ tiers h s q c 1 c lay → new ≡ (built h s es card).card
built-is h s card sh zs es count q c lay new ke qe ce fit le ne =
    ne ∙ rw (ce, qe, ke, le) (sym (built-card h s card sh zs es (rw ke at fit)))
