-- Entries put at the blanks of a run of sectors: they come behind it, and nothing else changes.
use mathlib.Core.Path.{◌∙◌, ◌≡◌, ap, ap₂, refl, sym}
use mathlib.Core.Logic.{inl, ⊎_elim}
use mathlib.Core.Bool.{Bool, false, true}
use Rattle.std.specs.Prelude.{Some}
use Prim.Native.Nat.{◌*◌, ◌+◌, ◌<◌, ◌≤◌, suc, zero, ℕ}
use native.Mathlib.Omega.{arith}
use mathlib.Core.List.{List, [], ◌++◌, ◌∷◌, append-nil}
use lib.ListN.{length}
use Rattle.rules.specs.declared.Entry.{Entry}
use Rattle.rules.specs.declared.Sector.TheVariants.{Blank, Held}
use Rattle.rules.specs.Bucket.{also, blanks, onto, run}
use Rattle.rules.specs.Plain.{zeros}
use Rattle.rules.specs.Rewrite.{fill}
use Rattle.rules.specs.Sector.{decode, encode, put, sector_at}
use Rattle.laws.proofs.Sectors.{length-put, sector-put-other, sector-put-same}
use Rattle.laws.proofs.Codec.{blank-zeros, decode-encode, held-zeros, length-encode}
use Rattle.laws.proofs.Run.{Agree, agree-put, blanks-agree, onto-inv, run_agree}
use Rattle.laws.proofs.Entries.{Good}

-- P holds of every sector number of the list
abbrev pub Each : (ℕ → Type 0) → List ℕ → Type 0
Each P [] = Unit {0}
Each P (i ∷ is) = P i × Each P is

pub each_map : (P Q : ℕ → Type 0) → ((i : ℕ) → P i → Q i) → (is : List ℕ) → Each P is → Each Q is
each_map P Q f [] a = tt
each_map P Q f (i ∷ is) a = (f i a.0, each_map P Q f is a.1)

-- what the blanks of a run of sectors are
pub blanks-each : (P : ℕ → Type 0) (card : List ℕ) (i c : ℕ) → ((j : ℕ) → i ≤ j → j < i + c → zeros (sector_at card j) ≡ true → P j)
    → Each P (blanks card i c)
unfolding blanks
blanks-each P card i zero f = tt
blanks-each P card i (suc c) f =
    let rest = blanks-each P card (suc i) c (λ j p q z. f j (omega arith) (omega arith) z) in
    let go : (b : Bool) → zeros (sector_at card i) ≡ b → Each P (also b i (blanks card (suc i) c))
    = λ b. elim b as (λ b. zeros (sector_at card i) ≡ b → Each P (also b i (blanks card (suc i) c))) [ true ↦ λ z. (f i (omega arith) (omega arith) z, rest) | false ↦ λ z. rest ] in
    go (zeros (sector_at card i)) refl

pub blanks-none : (card : List ℕ) (i : ℕ) → blanks card i zero ≡ []
unfolding blanks
blanks-none card i = refl

pub blanks-yes : (card : List ℕ) (i c : ℕ) → zeros (sector_at card i) ≡ true → blanks card i (suc c) ≡ i ∷ blanks card (suc i) c
unfolding blanks
blanks-yes card i c z = rw z

pub blanks-no : (card : List ℕ) (i c : ℕ) → zeros (sector_at card i) ≡ false → blanks card i (suc c) ≡ blanks card (suc i) c
unfolding blanks
blanks-no card i c z = rw z

-- the sector i lies in the card
abbrev pub Lies : List ℕ → ℕ → Type 0
Lies card i = 16 * i + 16 ≤ length card

pub length-fill : (card : List ℕ) (is : List ℕ) (new : List Entry) → Each (Lies card) is → length (fill card is new) ≡ length card
unfolding fill
length-fill card is [] a = refl
length-fill card [] (e ∷ new) a = refl
length-fill card (i ∷ is) (e ∷ new) a =
    let one = length-put card i (encode e) (length-encode e) a.0 in
    length-fill (put card i (encode e)) is new (each_map (Lies card) (Lies (put card i (encode e))) (λ j l. omega arith) is a.1) ∙ one

pub fill-other : (card : List ℕ) (is : List ℕ) (new : List Entry) (j : ℕ) → Each (Lies card) is → Each (λ i. j ≡ i → ⊥) is
    → sector_at (fill card is new) j ≡ sector_at card j
unfolding fill
fill-other card is [] j a n = refl
fill-other card [] (e ∷ new) j a n = refl
fill-other card (i ∷ is) (e ∷ new) j a n =
    let one = length-put card i (encode e) (length-encode e) a.0 in
    fill-other (put card i (encode e)) is new j (each_map (Lies card) (Lies (put card i (encode e))) (λ k l. omega arith) is a.1) n.1
    ∙ sector-put-other card i j (encode e) (length-encode e) a.0 n.0

pub fill-run : (n : ℕ) (card : List ℕ) (i c : ℕ) (es new : List Entry) → Good n new → 16 * (i + c) ≤ length card
    → length new ≤ length (blanks card i c) → run n card i c ≡ Some es → run n (fill card (blanks card i c) new) i c ≡ Some (es ++ new)
unfolding run onto fill
fill-run n card i c es [] good lies fits q = q ∙ ap Some (sym (append-nil es))
fill-run n card i zero es (e ∷ new) good lies fits q = absurd (let z = ap length (blanks-none card i) in omega arith)
fill-run n card i (suc c) es (e ∷ new) good lies fits q =
    ⊎_elim
    (λ (b : (decode n (sector_at card i) ≡ Blank) × (es ≡ []) × (run n card (suc i) c ≡ Some [])).
    let z = blanks-yes card i c (blank-zeros n (sector_at card i) b.0) in
    let card1 = put card i (encode e) in
    let len = length-put card i (encode e) (length-encode e) (omega arith) in
    let ag : Agree card1 card (suc i) c = agree-put card e i (suc i) c (omega arith) (inl (omega arith)) in
    let be = blanks-agree card1 card (suc i) c ag in
    let ft : suc (length new) ≤ suc (length (blanks card (suc i) c)) = rw z at fits in
    let bl = ap length be in
    let ih = fill-run n card1 (suc i) c [] new good.1 (omega arith) (omega arith) (run_agree n card1 card (suc i) c ag ∙ b.2) in
    let oth = fill-other card1 (blanks card1 (suc i) c) new i
    (blanks-each (Lies card1) card1 (suc i) c (λ j p r y. omega arith)) (blanks-each (λ k. i ≡ k → ⊥) card1 (suc i) c (λ j p r y u. omega arith)) in
    let hd : decode n (sector_at (fill card1 (blanks card1 (suc i) c) new) i) ≡ Held e
    = ap (decode n) (oth ∙ sector-put-same card i (encode e) (length-encode e) (omega arith)) ∙ decode-encode n e good.0.1 in
    let filled : fill card (blanks card i (suc c)) (e ∷ new) ≡ fill card1 (blanks card1 (suc i) c) new = rw (z, sym be) in
    rw b.1 (ap (λ (k : List ℕ). run n k i (suc c)) filled ∙ ap₂ onto hd ih))
    (λ (b : (x : Entry) × (xs : List Entry) × (decode n (sector_at card i) ≡ Held x) × (es ≡ x ∷ xs) × (run n card (suc i) c ≡ Some xs)).
    let z = blanks-no card i c (held-zeros n (sector_at card i) b.0 b.2) in
    let ft : suc (length new) ≤ length (blanks card (suc i) c) = rw z at fits in
    let ih = fill-run n card (suc i) c b.1 (e ∷ new) good (omega arith) ft b.4 in
    let oth = fill-other card (blanks card (suc i) c) (e ∷ new) i
    (blanks-each (Lies card) card (suc i) c (λ j p r y. omega arith)) (blanks-each (λ k. i ≡ k → ⊥) card (suc i) c (λ j p r y u. omega arith)) in
    let filled = ap (λ (is : List ℕ). fill card is (e ∷ new)) z in
    rw b.3 (ap (λ (k : List ℕ). run n k i (suc c)) filled ∙ ap₂ onto (ap (decode n) oth ∙ b.2) ih))
    (onto-inv (decode n (sector_at card i)) (run n card (suc i) c) es q)

-- a run without entries is blank
pub blank-room : (n : ℕ) (card : List ℕ) (i c : ℕ) → run n card i c ≡ Some [] → length (blanks card i c) ≡ c
unfolding run
blank-room n card i zero q = ap length (blanks-none card i)
blank-room n card i (suc c) q =
    ⊎_elim
    (λ (b : (decode n (sector_at card i) ≡ Blank) × ([] ≡ []) × (run n card (suc i) c ≡ Some [])).
    rw (blanks-yes card i c (blank-zeros n (sector_at card i) b.0)) (ap suc (blank-room n card (suc i) c b.2)))
    (λ (b : (x : Entry) × (xs : List Entry) × (decode n (sector_at card i) ≡ Held x) × ([] ≡ x ∷ xs) × (run n card (suc i) c ≡ Some xs)).
    absurd (let y : ◌≡◌ {A = ℕ} 0 (suc (length b.1)) = ap length b.3 in omega arith))
    (onto-inv (decode n (sector_at card i)) (run n card (suc i) c) [] q)
