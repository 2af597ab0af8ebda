-- The entries of the bucket area, and the sectors that they stand in.
use mathlib.Core.Path.{◌≡◌, refl, ap, sym, ◌∙◌, subst}
use mathlib.Core.Logic.{◌⊎◌, inl, inr, ⊎_elim}
use mathlib.Core.Bool.{Bool, true, false}
use Rattle.std.specs.Prelude.{Option, None, Some}
use Prim.Native.Nat.{ℕ, zero, suc, ◌+◌, ◌≤◌, ◌<◌}
use native.Mathlib.Omega.{arith}
use mathlib.Core.List.{List, [], ◌∷◌}
use Rattle.rules.specs.declared.Entry.{Entry}
use Rattle.rules.specs.declared.Sector.{Sector}
use Rattle.rules.specs.declared.Sector.TheVariants.{Blank, Held, Damaged}
use Rattle.rules.specs.History.{join, entries}
use Rattle.rules.specs.Plain.{if}
use Rattle.rules.specs.Sector.{sector_at, decode, is_root}
use Rattle.laws.proofs.Lists.{All, all_map}
use Rattle.laws.proofs.Mems.{Mem}
use Rattle.laws.proofs.Tools.{le-or-lt, none-some}

-- d can be read in one of the sectors lo .. hi - 1
abbrev pub Stands : ℕ → List ℕ → ℕ → ℕ → Entry → Type 0
Stands n card lo hi d = (j : ℕ) × (lo ≤ j) × (j < hi) × (decode n (sector_at card j) ≡ Held d)

-- what the entries of a run of sectors are
abbrev Joins : Sector → Option (List Entry) → List Entry → Type 0
Joins s r xs = ((s ≡ Blank) × (r ≡ Some xs)) ⊎ ((e : Entry) × (ys : List Entry) × (s ≡ Held e) × (r ≡ Some ys) × (e ∷ ys ≡ xs))

join-inv : (s : Sector) (r : Option (List Entry)) (xs : List Entry) → join s r ≡ Some xs → Joins s r xs
unfolding join
join-inv Blank r xs q = inl (refl, q)
join-inv (Held e) None xs q = absurd (none-some q)
join-inv (Held e) (Some ys) xs q =
    let go : (b : Bool) → if b None (Some (e ∷ ys)) ≡ Some xs → e ∷ ys ≡ xs
    = λ b. elim b as (λ b. if b None (Some (e ∷ ys)) ≡ Some xs → e ∷ ys ≡ xs) [ true ↦ λ z. absurd (none-some z) | false ↦ λ z. cc ] in
    inr (e, ys, refl, refl, go (is_root e) q)
join-inv Damaged r xs q = absurd (none-some q)

pub entries-stand : (n : ℕ) (c : List ℕ) (i k : ℕ) (xs : List Entry) → entries n c i k ≡ Some xs → All (Stands n c i (i + k)) xs
unfolding entries
entries-stand n c i zero [] q = tt
entries-stand n c i zero (x ∷ xs) q = absurd (none-some (let z : None ≡ Some x = cc in z))
entries-stand n c i (suc k) xs q =
    let wide : (d : Entry) → Stands n c (suc i) (suc i + k) d → Stands n c i (i + suc k) d = λ d z. (let a = z.1 in let b = z.2 in (z.0, omega arith, omega arith, z.3)) in
    ⊎_elim
    (λ (z : (decode n (sector_at c i) ≡ Blank) × (entries n c (suc i) k ≡ Some xs)). all_map (Stands n c (suc i) (suc i + k)) (Stands n c i (i + suc k)) wide xs (entries-stand n c (suc i) k xs z.1))
    (λ (z : (e : Entry) × (ys : List Entry) × (decode n (sector_at c i) ≡ Held e) × (entries n c (suc i) k ≡ Some ys) × (e ∷ ys ≡ xs)).
    subst (All (Stands n c i (i + suc k))) z.4
    ((i, omega arith, omega arith, z.2), all_map (Stands n c (suc i) (suc i + k)) (Stands n c i (i + suc k)) wide z.1 (entries-stand n c (suc i) k z.1 z.3)))
    (join-inv (decode n (sector_at c i)) (entries n c (suc i) k) xs q)

blank-not : (d : Entry) → Blank ≡ Held d → ⊥
blank-not d q = let x : ◌≡◌ {A = ℕ} 0 1 = cc in omega arith

held-inj : (d e : Entry) → Held d ≡ Held e → d ≡ e
held-inj d e q = cc

pub entries-mem : (n : ℕ) (c : List ℕ) (i k : ℕ) (xs : List Entry) → entries n c i k ≡ Some xs → (d : Entry) → Stands n c i (i + k) d → Mem d xs
unfolding entries
entries-mem n c i zero xs q d z = absurd (let a = z.1 in let b = z.2 in omega arith)
entries-mem n c i (suc k) xs q d z =
    let z1 = z.1 in
    let z2 = z.2 in
    ⊎_elim
    (λ (w : (decode n (sector_at c i) ≡ Blank) × (entries n c (suc i) k ≡ Some xs)).
    ⊎_elim
    (λ (le : z.0 ≤ i). let e : z.0 ≡ i = omega arith in absurd (blank-not d (sym w.0 ∙ ap (λ j. decode n (sector_at c j)) (sym e) ∙ z.3)))
    (λ (lt : i < z.0). entries-mem n c (suc i) k xs w.1 d (z.0, lt, omega arith, z.3))
    (le-or-lt z.0 i))
    (λ (w : (e : Entry) × (ys : List Entry) × (decode n (sector_at c i) ≡ Held e) × (entries n c (suc i) k ≡ Some ys) × (e ∷ ys ≡ xs)).
    subst (Mem d) w.4
    (⊎_elim
    (λ (le : z.0 ≤ i). let e : z.0 ≡ i = omega arith in inl (held-inj d w.0 (sym z.3 ∙ ap (λ j. decode n (sector_at c j)) e ∙ w.2)))
    (λ (lt : i < z.0). inr (entries-mem n c (suc i) k w.1 w.3 d (z.0, lt, omega arith, z.3)))
    (le-or-lt z.0 i)))
    (join-inv (decode n (sector_at c i)) (entries n c (suc i) k) xs q)
