-- The blanks of a sound bucket or log lie behind its entries, in a row.
use mathlib.Core.Path.{◌∙◌, ◌≡◌, ap, ap₂, refl}
use mathlib.Core.Logic.{⊎_elim}
use Rattle.std.specs.Prelude.{Some}
use Prim.Native.Nat.{◌+◌, ◌-◌, suc, zero, ℕ}
use native.Mathlib.Omega.{arith}
use mathlib.Core.List.{List, [], ◌∷◌}
use lib.ListN.{length}
use Rattle.rules.specs.declared.Entry.{Entry}
use Rattle.rules.specs.declared.Sector.TheVariants.{Blank, Held}
use Rattle.rules.specs.Bucket.{blanks, run}
use Rattle.rules.specs.Sector.{decode, sector_at}
use Rattle.laws.proofs.Codec.{blank-zeros, held-zeros}
use Rattle.laws.proofs.Run.{onto-inv}
use Rattle.laws.proofs.Blocks.{blanks-no, blanks-none, blanks-yes}

-- c numbers from i on
abbrev pub up_from : ℕ → ℕ → List ℕ
up_from i zero = []
up_from i (suc c) = i ∷ up_from (suc i) c

pub blanks-from : (n : ℕ) (card : List ℕ) (i c : ℕ) (es : List Entry) → run n card i c ≡ Some es
    → blanks card i c ≡ up_from (i + length es) (c - length es)
unfolding run
blanks-from n card i zero es q = blanks-none card i ∙ ap (λ k. up_from (i + length es) k) (let z : 0 ≡ 0 - length es = omega arith in z)
blanks-from n card i (suc c) es q =
    ⊎_elim
    (λ (b : (decode n (sector_at card i) ≡ Blank) × (es ≡ []) × (run n card (suc i) c ≡ Some [])).
    let l = ap length b.1 in
    let ih = blanks-from n card (suc i) c [] b.2 in
    let e1 : suc i + 0 ≡ suc i = omega arith in
    let e2 : c - 0 ≡ c = omega arith in
    let e3 : i ≡ i + length es = omega arith in
    let e4 : suc c ≡ suc c - length es = omega arith in
    blanks-yes card i c (blank-zeros n (sector_at card i) b.0) ∙ ap {B = List ℕ} (λ z. i ∷ z) (ih ∙ ap₂ up_from e1 e2) ∙ ap₂ up_from e3 e4)
    (λ (b : (x : Entry) × (xs : List Entry) × (decode n (sector_at card i) ≡ Held x) × (es ≡ x ∷ xs) × (run n card (suc i) c ≡ Some xs)).
    let l = ap length b.3 in
    let e1 : suc i + length b.1 ≡ i + length es = omega arith in
    let e2 : c - length b.1 ≡ suc c - length es = omega arith in
    blanks-no card i c (held-zeros n (sector_at card i) b.0 b.2) ∙ blanks-from n card (suc i) c b.1 b.4 ∙ ap₂ up_from e1 e2)
    (onto-inv (decode n (sector_at card i)) (run n card (suc i) c) es q)

up_from-length : (i c : ℕ) → length (up_from i c) ≡ c
up_from-length i zero = refl
up_from-length i (suc c) = ap suc (up_from-length (suc i) c)

-- so as many are left as there are fewer entries than sectors
pub blanks-left : (n : ℕ) (card : List ℕ) (i c : ℕ) (es : List Entry) → run n card i c ≡ Some es → length (blanks card i c) ≡ c - length es
blanks-left n card i c es q = ap length (blanks-from n card i c es q) ∙ up_from-length (i + length es) (c - length es)
