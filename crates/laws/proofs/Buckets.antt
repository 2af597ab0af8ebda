-- What a sound bucket is, what is read of it by its sectors, and where the buckets lie.
use mathlib.Core.Path.{◌∙◌, ◌≡◌, ap, refl, sym}
use mathlib.Core.Logic.{⊎_elim, inl, inr, ◌⊎◌}
use mathlib.Core.Bool.{Bool, true}
use Rattle.std.specs.Prelude.{Option, None, Some}
use Prim.Native.Nat.{◌*◌, ◌+◌, ◌-◌, ◌<◌, ◌≤◌, suc, zero, ℕ}
use native.Mathlib.Omega.{arith}
use mathlib.Core.List.{List, [], ◌++◌, ◌∷◌}
use lib.ListN.{drop_of_length-le, length}
use native.Mathlib.Nat.{mul-le-mul_left}
use Rattle.rules.specs.declared.Entry.{Entry}
use Rattle.rules.specs.declared.Head.{Head}
use Rattle.rules.specs.declared.Sector.TheVariants.{Blank, Held}
use Rattle.rules.specs.Bucket.{bucket, joins, onto, run, sound_bucket}
use Rattle.rules.specs.Layout.{base, size_of}
use Rattle.rules.specs.Plain.{every, zeros}
use Rattle.rules.specs.Sector.{decode, sector_at}
use Rattle.laws.proofs.Tools.{and-true, guard-true, le-or-lt, none-some, then-inv, true-and}
use Rattle.laws.proofs.Run.{onto-inv}

-- what the sectors of bucket b hold, sound or not
abbrev pub raw : Head → List ℕ → ℕ → Option (List Entry)
raw h card b = run h.n card (base h b) h.m

pub every-snoc : (p : Entry → Bool) (es : List Entry) (e : Entry) → every p es ≡ true → p e ≡ true → every p (es ++ (e ∷ [])) ≡ true
unfolding every
every-snoc p [] e h q = true-and q refl
every-snoc p (x ∷ es) e h q =
    let t = and-true (p x) (every p es) h in
    true-and t.0 (every-snoc p es e t.1 q)

-- what a sound bucket is
sound-inv : (es gs : List Entry) → sound_bucket es ≡ Some gs → es ≡ gs
unfolding sound_bucket
sound-inv [] gs eq = cc
sound-inv (x ∷ es) gs eq = (guard-true (every (joins x) (x ∷ es)) (x ∷ es) gs eq).1

-- the sectors of a bucket lie in the card, and apart from those of another
pub bucket-in : (m n b : ℕ) → 1 ≤ b → b ≤ n → m * (b - 1) + m ≤ n * m
bucket-in m n b lo hi =
    let k : suc (b - 1) ≤ n = omega arith in
    omega (arith, mul-le-mul_left m k)

pub apart : (m b c : ℕ) → b < c → 1 ≤ b → m * (b - 1) + m ≤ m * (c - 1)
apart m b c lt lo =
    let k : suc (b - 1) ≤ c - 1 = omega arith in
    omega (arith, mul-le-mul_left m k)

-- what is read of a bucket, by its sectors
pub bucket-raw : (h : Head) (card : List ℕ) (b : ℕ) (es : List Entry) → bucket h card b ≡ Some es
    → (1 ≤ b) × (raw h card b ≡ Some es) × (sound_bucket es ≡ Some es)
unfolding bucket
bucket-raw h card zero es q = absurd (none-some q)
bucket-raw h card (suc b) es q =
    let inv = then-inv (raw h card (suc b)) sound_bucket es q in
    let e = sound-inv inv.0 es inv.2 in
    (omega arith, inv.1 ∙ ap Some e, ap sound_bucket (sym e) ∙ inv.2)

pub raw-bucket : (h : Head) (card : List ℕ) (b : ℕ) (es : List Entry) → 1 ≤ b → raw h card b ≡ Some es → sound_bucket es ≡ Some es
    → bucket h card b ≡ Some es
unfolding bucket
raw-bucket h card zero es lo r s = absurd (omega arith)
raw-bucket h card (suc b) es lo r s = rw r s

-- past the card's end all is blank
pub run_past : (n : ℕ) (card : List ℕ) (i c : ℕ) → length card ≤ 16 * i → run n card i c ≡ Some []
unfolding run sector_at decode zeros onto
run_past n card i zero le = refl
run_past n card i (suc c) le = rw (drop_of_length-le card le, run_past n card (suc i) c (omega arith))

pub bucket-within : (h : Head) (card : List ℕ) (b : ℕ) (es : List Entry) → size_of h ≡ length card → bucket h card b ≡ Some es → b ≤ h.n
unfolding size_of base sound_bucket
bucket-within h card b es size q =
    ⊎_elim (λ le. le)
    (λ gt.
    let r = bucket-raw h card b es q in
    let past = run_past h.n card (base h b) h.m (let k : h.n ≤ b - 1 = omega arith in omega (arith, mul-le-mul_left h.m k)) in
    let e : es ≡ [] = cc (r.1, past) in
    absurd (none-some (ap sound_bucket (sym e) ∙ r.2)))
    (le-or-lt b h.n)

-- a run is no longer than its sectors
pub run_length : (n : ℕ) (card : List ℕ) (i c : ℕ) (es : List Entry) → run n card i c ≡ Some es → length es ≤ c
unfolding run
run_length n card i zero [] q = omega arith
run_length n card i zero (e ∷ es) q = absurd (none-some (let z : None ≡ Some e = cc in z))
run_length n card i (suc c) es q =
    ⊎_elim
    (λ (v : (decode n (sector_at card i) ≡ Blank) × (es ≡ []) × (run n card (suc i) c ≡ Some [])). let z = ap length v.1 in omega arith)
    (λ (v : (x : Entry) × (xs : List Entry) × (decode n (sector_at card i) ≡ Held x) × (es ≡ x ∷ xs) × (run n card (suc i) c ≡ Some xs)).
    let ih = run_length n card (suc i) c v.1 v.4 in
    let z = ap length v.3 in omega arith)
    (onto-inv (decode n (sector_at card i)) (run n card (suc i) c) es q)

pub bucket-length : (h : Head) (card : List ℕ) (b : ℕ) (es : List Entry) → bucket h card b ≡ Some es → length es ≤ h.m
bucket-length h card b es q = run_length h.n card (base h b) h.m es (bucket-raw h card b es q).1

-- the k sectors from i lie apart from bucket b
abbrev pub Clear : Head → ℕ → ℕ → ℕ → Type 0
Clear h i k b = (i + k ≤ base h b) ⊎ (base h b + h.m ≤ i)

-- as those of another bucket do, and those of the head and the log
pub buckets-clear : (h : Head) (c b : ℕ) → 1 ≤ c → 1 ≤ b → (c ≡ b → ⊥) → Clear h (base h c) h.m b
unfolding base
buckets-clear h c b lc lb ne =
    ⊎_elim
    (λ (le : b ≤ c). inr (omega (arith, apart h.m b c (omega arith) lb)))
    (λ (gt : c < b). inl (omega (arith, apart h.m c b gt lc)))
    (le-or-lt b c)

pub front-clear : (h : Head) (b : ℕ) → Clear h 0 (1 + h.n) b
unfolding base
front-clear h b = inl (omega arith)
