-- The largest stamp bucket by bucket, and a bucket's as its part of the card gives it.
use mathlib.Core.Path.{◌≡◌, refl, ap, ap₂, sym, ◌∙◌}
use mathlib.Core.Logic.{⊎_elim}
use mathlib.Core.Bool.{Bool, true, false}
use mathlib.Core.List.{List, [], ◌++◌}
use Prim.Native.Nat.{ℕ, zero, suc, ◌+◌, ◌-◌, ◌*◌, ◌≤◌, ◌<◌, max}
use native.Mathlib.Nat.{max-zero, max_comm, mul_comm, mul-add, suc-mul, mul-le-mul, mul-le-mul_right}
use native.Mathlib.Numerals.{add-one}
use native.Mathlib.Omega.{arith}
use lib.ListN.{length, take, drop, get_or, length-drop, drop_of_length-le, take-append-drop}
use lib.Dec.{eqb, leb}
use lib.Seq.{length-take-le, take-append-add, drop-drop}
use borrow.Author.Tests.{eq-eqb, le-leb}
use Rattle.rules.specs.declared.Head.{Head}
use Rattle.rules.specs.Plain.{if, ◌&◌, ◌or◌, zeros}
use Rattle.rules.specs.Sector.{sector_at, word}
use Rattle.rules.specs.Layout.{base, size_of}
use Rattle.rules.specs.Bucket.{unwritten}
use Rattle.rules.specs.Write.{stamp_of, top_stamp, top_used}
use Rattle.laws.proofs.Tools.{and-true, bool_cases, false-true, le-or-lt}
use Rattle.laws.proofs.Heads.{bucket-fits}
use Rattle.scan.specs.Look.{part_of}
use Rattle.scan.proofs.Blanks.{zeros-append}
use Rattle.laws.proofs.Zeros.{zeros-get, zero-take, zero-drop}
use Rattle.bucket.specs.Shapes.{Shape}
use Rattle.survey.specs.declared.Area.{Area}
use Rattle.survey.specs.Survey.{survey_of}

max_assoc : (a b c : ℕ) → max a (max b c) ≡ max (max a b) c
max_assoc a b c = omega arith

-- a stamp field is no less than the stamp, which is 0 where the kind is
stamp-le : (s : List ℕ) → stamp_of s ≤ word s 8
unfolding stamp_of
stamp-le s = go (eqb (get_or s 0 0) 0) where
  go : (b : Bool) → if b 0 (word s 8) ≤ word s 8
  go true = omega arith
  go false = omega arith

top-next : (card : List ℕ) (i to : ℕ) → i < to → top_stamp card i (to - i) ≡ max (stamp_of (sector_at card i)) (top_stamp card (i + 1) (to - (i + 1)))
unfolding top_stamp
top-next card i to lt = let k : to - i ≡ suc (to - (i + 1)) = omega arith in rw (k, add-one)

-- one sector's field weighed: what is no less than it and than what was seen is no less than the stamps seen
pub field-turn : (card : List ℕ) (to i top s more R : ℕ) → i < to → R ≤ max top (top_stamp card i (to - i)) → s ≡ word (sector_at card i) 8
    → top ≤ more → s ≤ more → R ≤ max more (top_stamp card (i + 1) (to - (i + 1)))
field-turn card to i top s more R lt inv e le more-le =
    let a = stamp-le (sector_at card i) in
    let b = top-next card i to lt in
    omega arith

pub field_end : (card : List ℕ) (to i top R : ℕ) → to ≤ i → R ≤ max top (top_stamp card i (to - i)) → R ≤ top
unfolding top_stamp
field_end card to i top R le inv = let k : to - i ≡ 0 = omega arith in let j = rw k at inv in omega arith

pub or-false : (a b : Bool) → (a or b) ≡ false → (a ≡ false) × (b ≡ false)
or-false true b q = absurd (false-true (sym q))
or-false false b q = (refl, q)

-- a run of sectors stamps as its two parts
stamp-split : (card : List ℕ) (i a c : ℕ) → top_stamp card i (a + c) ≡ max (top_stamp card i a) (top_stamp card (i + a) c)
unfolding top_stamp
stamp-split card i zero c =
    let z : 0 + c ≡ c = omega arith in
    let y : i + 0 ≡ i = omega arith in
    rw (z, y) (sym (max_comm 0 _ ∙ max-zero _))
stamp-split card i (suc a) c =
    let z : suc a + c ≡ suc (a + c) = omega arith in
    let y : i + suc a ≡ suc i + a = omega arith in
    rw (z, y) (ap (max (stamp_of (sector_at card i))) (stamp-split card (suc i) a c) ∙ max_assoc _ _ _)

-- from behind: one sector more
pub from_start : (card : List ℕ) (to : ℕ) → 0 ≡ top_stamp card to (to - to)
unfolding top_stamp
from_start card to = let k : to - to ≡ 0 = omega arith in rw k

pub from-turn : (card : List ℕ) (to i top s more : ℕ) → i < to → top ≡ top_stamp card (i + 1) (to - (i + 1)) → s ≡ stamp_of (sector_at card i) → more ≡ max top s
    → more ≡ top_stamp card i (to - i)
from-turn card to i top s more lt inv e f = let b = top-next card i to lt in omega arith

-- the sectors from i on are some of those from `from` on
pub from_less : (card : List ℕ) (from to i : ℕ) → from ≤ i → i ≤ to → top_stamp card i (to - i) ≤ top_stamp card from (to - from)
from_less card from to i le lt =
    let k : to - from ≡ (i - from) + (to - i) = omega arith in
    let z : from + (i - from) ≡ i = omega arith in
    let d : top_stamp card from (to - from) ≡ max (top_stamp card from (i - from)) (top_stamp card i (to - i)) =
    ap (top_stamp card from) k ∙ stamp-split card from (i - from) (to - i) ∙ ap (λ (j : ℕ). max (top_stamp card from (i - from)) (top_stamp card j (to - i))) z in
    omega arith

-- so many sectors from one on
pub span : (card : List ℕ) (from k to : ℕ) → to ≡ from + k → top_stamp card from (to - from) ≡ top_stamp card from k
span card from k to e = ap (top_stamp card from) (let z : to - from ≡ k = omega arith in z)

-- a stamp r that is there, and the largest T, which it is unless it is enough
pub enough-is : (enough T r : ℕ) → r ≤ T → (r < enough → T ≤ r) → T ≤ enough → r ≡ T
enough-is enough T r Some else most = ⊎_elim (λ (le : enough ≤ r). omega arith) (λ (lt : r < enough). omega (arith, else lt)) (le-or-lt enough r)

pub enough-late : (enough T r : ℕ) → r ≤ T → (r < enough → T ≤ r) → leb enough r ≡ leb enough T
enough-late enough T r Some else =
    ⊎_elim (λ (le : enough ≤ r). le-leb enough r le ∙ sym (le-leb enough T (omega arith)))
    (λ (lt : r < enough). ap (leb enough) (let z : r ≡ T = omega (arith, else lt) in z)) (le-or-lt enough r)

-- a part is all zeros where none of its sectors is written
part-zeros : (card : List ℕ) (i c : ℕ) → 16 * (i + c) ≤ length card → zeros (take (16 * c) (drop (16 * i) card)) ≡ unwritten card i c
unfolding unwritten sector_at zeros
part-zeros card i zero long = refl
part-zeros card i (suc c) long =
    let l = drop (16 * i) card in
    let ll : length l ≡ length card - 16 * i = length-drop (16 * i) card in
    let lt : length (take 16 l) ≡ 16 = length-take-le 16 l (omega arith) in
    let n : 16 * suc c ≡ length (take 16 l) + 16 * c = omega arith in
    let e : take (16 * suc c) l ≡ take 16 l ++ take (16 * c) (drop 16 l) =
    ap₂ (λ (k : ℕ) (x : List ℕ). take k x) n (sym (take-append-drop 16 l)) ∙ take-append-add (take 16 l) (drop 16 l) (16 * c) in
    let d : drop 16 l ≡ drop (16 * suc i) card = drop-drop 16 (16 * i) card ∙ ap (λ (k : ℕ). drop k card) (let z : 16 * i + 16 ≡ 16 * suc i = omega arith in z) in
    ap zeros e ∙ zeros-append (take 16 l) (take (16 * c) (drop 16 l))
    ∙ ap (λ (z : Bool). zeros (take 16 l) & z) (ap (λ (x : List ℕ). zeros (take (16 * c) x)) d ∙ part-zeros card (suc i) c (omega arith))

-- a nonzero byte in front
pub first-written : (l : List ℕ) → (get_or l 0 0 ≡ 0 → ⊥) → false ≡ zeros l
first-written l other = ⊎_elim (λ z. absurd (other (zeros-get l 0 z))) sym (bool_cases (zeros l))

-- blank sectors have no stamp
blank-stamp : (card : List ℕ) (i c : ℕ) → unwritten card i c ≡ true → top_stamp card i c ≡ 0
unfolding unwritten top_stamp stamp_of
blank-stamp card i zero q = refl
blank-stamp card i (suc c) q =
    let a = and-true (zeros (sector_at card i)) (unwritten card (suc i) c) q in
    rw (eq-eqb (get_or (sector_at card i) 0 0) 0 (zeros-get (sector_at card i) 0 a.0), blank-stamp card (suc i) c a.1)

-- the highest bucket, one bucket further
used-next : (h : Head) (card : List ℕ) (b : ℕ) (t : Bool) → unwritten card (base h (suc b)) h.m ≡ t
    → top_used h card (suc b) ≡ elim t as (λ x. ℕ) [ true ↦ top_used h card b | false ↦ suc b ]
unfolding top_used
used-next h card b t u = ap (λ (x : Bool). elim x as (λ y. ℕ) [ true ↦ top_used h card b | false ↦ suc b ]) u

used-blank : (h : Head) (card : List ℕ) (b : ℕ) → unwritten card (base h (b + 1)) h.m ≡ true → top_used h card (b + 1) ≡ top_used h card b
used-blank h card b u = ap (top_used h card) (add-one b) ∙ used-next h card b true (rw add-one at u)

used-here : (h : Head) (card : List ℕ) (b : ℕ) → unwritten card (base h (b + 1)) h.m ≡ false → top_used h card (b + 1) ≡ b + 1
used-here h card b u = ap (top_used h card) (add-one b) ∙ used-next h card b false (rw add-one at u) ∙ sym (add-one b)

-- bucket b + 1 of the pass
module _ (h : Head) (card : List ℕ) (b : ℕ) (sh : Shape h card) (lt : b < h.n) where
  next-base : base h (b + 1) ≡ 1 + h.n + b * h.m
  unfolding base
  next-base = let z : b + 1 - 1 ≡ b = omega arith in rw z (ap (λ (k : ℕ). 1 + h.n + k) (mul_comm h.m b))

  fits : 16 * (base h (b + 1) + h.m) ≤ length card
  fits = bucket-fits h card (b + 1) sh.long (omega arith) (omega arith)

  next-stamp : top_stamp card (1 + h.n) ((b + 1) * h.m) ≡ max (top_stamp card (1 + h.n) (b * h.m)) (top_stamp card (base h (b + 1)) h.m)
  next-stamp =
      let n : (b + 1) * h.m ≡ b * h.m + h.m = rw add-one (suc-mul b h.m) in
      ap (top_stamp card (1 + h.n)) n ∙ stamp-split card (1 + h.n) (b * h.m) h.m
      ∙ ap (λ (k : ℕ). max (top_stamp card (1 + h.n) (b * h.m)) (top_stamp card k h.m)) (sym next-base)

  -- all zeros: nothing new
  pub survey-blank : zeros (part_of h card (b + 1)) ≡ true → survey_of h card (b + 1) ≡ survey_of h card b
  unfolding survey_of part_of
  survey-blank z =
      let u : unwritten card (base h (b + 1)) h.m ≡ true = sym (part-zeros card (base h (b + 1)) h.m fits) ∙ z in
      ap₂ (λ (s u : ℕ). record { stamp = s; used = u })
      (next-stamp ∙ ap (max (top_stamp card (1 + h.n) (b * h.m))) (blank-stamp card (base h (b + 1)) h.m u) ∙ max-zero _)
      (used-blank h card b u)

-- nothing behind bucket b: what b buckets hold is what all hold
module _ (h : Head) (card : List ℕ) (b : ℕ) (sh : Shape h card) (blank : zeros (drop (16 * base h (b + 1)) card) ≡ true) where
  behind : (k : ℕ) → zeros (part_of h card (b + k + 1)) ≡ true
  unfolding part_of base
  behind k =
      let more : h.m * (b + k) ≡ h.m * b + h.m * k = mul-add h.m b k in
      let here : b + 1 - 1 ≡ b = omega arith in
      let there : b + k + 1 - 1 ≡ b + k = omega arith in
      let far : 16 * (1 + h.n + h.m * (b + 1 - 1)) + 16 * (h.m * k) ≡ 16 * (1 + h.n + h.m * (b + k + 1 - 1)) = rw (here, there, more) (omega arith) in
      zero-take (16 * h.m) _ (rw (drop-drop, far) at (zero-drop (16 * (h.m * k)) _ blank))

  up : (k : ℕ) → b + k ≤ h.n → survey_of h card (b + k) ≡ survey_of h card b
  up zero le = ap (survey_of h card) (let z : b + 0 ≡ b = omega arith in z)
  up (suc k) le = ap (survey_of h card) (let z : b + suc k ≡ b + k + 1 = omega arith in z) ∙ survey-blank h card (b + k) sh (omega arith) (behind k) ∙ up k (omega arith)

  pub survey-rest : b ≤ h.n → survey_of h card h.n ≡ survey_of h card b
  survey-rest le = ap (survey_of h card) (let z : h.n ≡ b + (h.n - b) = omega arith in z) ∙ up (h.n - b) (omega arith)

-- the bytes behind so many buckets; behind the last of all there is none
pub behind-zero : (h : Head) (card : List ℕ) (b : ℕ) → zeros (drop (16 * base h (b + 1)) card) ≡ true → zeros (drop (16 * (1 + h.n + b * h.m)) card) ≡ true
unfolding base
behind-zero h card b z =
    let one : b + 1 - 1 ≡ b = omega arith in
    let same : h.m * (b + 1 - 1) ≡ b * h.m = ap (λ (k : ℕ). h.m * k) one ∙ mul_comm h.m b in
    rw same at z

pub behind-all : (h : Head) (card : List ℕ) → Shape h card → zeros (drop (16 * (1 + h.n + h.n * h.m)) card) ≡ true
unfolding size_of zeros
behind-all h card sh =
    let long = sh.long in
    let none_left : drop (16 * (1 + h.n + h.n * h.m)) card ≡ [] = drop_of_length-le card {i = 16 * (1 + h.n + h.n * h.m)} (omega arith) in
    rw none_left

-- from behind: a bucket of zeros is passed by, the first other one is the highest
module _ (h : Head) (card : List ℕ) (b : ℕ) (sh : Shape h card) (Some : 0 < b) (le : b ≤ h.n) where
  turn : b - 1 + 1 ≡ b
  turn = omega arith

  pub highest-blank : zeros (part_of h card b) ≡ true → top_used h card (b - 1) ≡ top_used h card b
  unfolding survey_of
  highest-blank z = ap (λ (s : Area). s.used) (sym (survey-blank h card (b - 1) sh (omega arith) (rw turn z))) ∙ ap (top_used h card) turn

  pub highest-here : zeros (part_of h card b) ≡ false → b ≡ top_used h card b
  unfolding part_of
  highest-here z =
      let u : unwritten card (base h (b - 1 + 1)) h.m ≡ false = rw turn (sym (part-zeros card (base h b) h.m (bucket-fits h card b sh.long (omega arith) le)) ∙ z) in
      sym (ap (top_used h card) (sym turn) ∙ used-here h card (b - 1) u ∙ turn)

-- the first b buckets end on the card
pub area-room : (h : Head) (card : List ℕ) (b : ℕ) → Shape h card → b ≤ h.n → (b * h.m ≤ 131072) × (16 * (1 + h.n + b * h.m) ≤ length card)
unfolding size_of
area-room h card b sh le =
    let most : b * h.m ≤ h.n * h.m = mul-le-mul_right h.m le in
    let small : h.n * h.m ≤ 4096 * 32 = mul-le-mul sh.lim.n4096 sh.lim.m32 in
    let long = sh.long in
    let more : h.n * (h.m + 1) ≡ h.n * h.m + h.n * 1 = mul-add h.n h.m 1 in
    (omega arith, omega (arith, most, more, long))
