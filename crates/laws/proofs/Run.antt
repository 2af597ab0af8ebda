-- A run of sectors: it depends on its own sectors alone, and so do its blanks; how it begins.
use mathlib.Core.Path.{◌≡◌, refl, ap, ap₂, sym, ◌∙◌}
use mathlib.Core.Logic.{◌⊎◌, inl, inr, ⊎_elim}
use mathlib.Core.Bool.{true}
use Rattle.std.specs.Prelude.{Option, None, Some}
use Prim.Native.Nat.{ℕ, zero, suc, ◌+◌, ◌*◌, ◌≤◌, ◌<◌}
use native.Mathlib.Omega.{arith}
use mathlib.Core.List.{List, [], ◌∷◌}
use lib.ListN.{length}
use Rattle.rules.specs.declared.Entry.{Entry}
use Rattle.rules.specs.declared.Sector.{Sector}
use Rattle.rules.specs.declared.Sector.TheVariants.{Blank, Held, Damaged}
use Rattle.rules.specs.Bucket.{onto, run, also, blanks}
use Rattle.rules.specs.Plain.{zeros}
use Rattle.rules.specs.Sector.{sector_at, put, encode, decode, legal}
use Rattle.laws.proofs.Tools.{none-some}
use Rattle.laws.proofs.Sectors.{sector-put-same, sector-put-other}
use Rattle.laws.proofs.Codec.{decode-encode, length-encode}

-- two cards agree on the c sectors from i
abbrev pub Agree : List ℕ → List ℕ → ℕ → ℕ → Type 0
Agree a b i c = (j : ℕ) → i ≤ j → j < i + c → sector_at a j ≡ sector_at b j

pub run_agree : (n : ℕ) (a b : List ℕ) (i c : ℕ) → Agree a b i c → run n a i c ≡ run n b i c
unfolding run
run_agree n a b i zero h = refl
run_agree n a b i (suc c) h =
    ap₂ (λ s r. onto (decode n s) r) (h i (omega arith) (omega arith))
    (run_agree n a b (suc i) c (λ j p q. h j (omega arith) (omega arith)))

-- the same for its blanks
pub blanks-agree : (a b : List ℕ) (i c : ℕ) → Agree a b i c → blanks a i c ≡ blanks b i c
unfolding blanks
blanks-agree a b i zero h = refl
blanks-agree a b i (suc c) h =
    ap₂ (λ s r. also (zeros s) i r) (h i (omega arith) (omega arith))
    (blanks-agree a b (suc i) c (λ j p q. h j (omega arith) (omega arith)))

-- how a run that is read begins
abbrev pub Begins : Sector → Option (List Entry) → List Entry → Type 0
Begins s r es =
    ((s ≡ Blank) × (es ≡ []) × (r ≡ Some []))
    ⊎ ((x : Entry) × (xs : List Entry) × (s ≡ Held x) × (es ≡ x ∷ xs) × (r ≡ Some xs))

pub onto-inv : (s : Sector) (r : Option (List Entry)) (es : List Entry) → onto s r ≡ Some es → Begins s r es
unfolding onto
onto-inv Blank None es e = absurd (none-some e)
onto-inv Blank (Some []) es e = inl (refl, cc, refl)
onto-inv Blank (Some (x ∷ xs)) es e = absurd (none-some e)
onto-inv (Held x) None es e = absurd (none-some e)
onto-inv (Held x) (Some xs) es e = inr (x, xs, refl, cc, refl)
onto-inv Damaged r es e = absurd (none-some e)

-- e, put at sector k, is read there
pub decode-put : (n : ℕ) (card : List ℕ) (e : Entry) → legal n e ≡ true → (k i : ℕ) → k ≡ i → 16 * k + 16 ≤ length card
    → decode n (sector_at (put card k (encode e)) i) ≡ Held e
decode-put n card e l k i ki room =
    ap (λ j. decode n (sector_at (put card k (encode e)) j)) (sym ki)
    ∙ ap (decode n) (sector-put-same card k (encode e) (length-encode e) room)
    ∙ decode-encode n e l

-- and other runs of sectors are as they were
pub agree-put : (card : List ℕ) (e : Entry) (k i c : ℕ) → 16 * k + 16 ≤ length card → (k < i) ⊎ (i + c ≤ k)
    → Agree (put card k (encode e)) card i c
agree-put card e k i c room out j p q =
    sector-put-other card k j (encode e) (length-encode e) room
    (λ eq. ⊎_elim (λ h. omega arith) (λ h. omega arith) out)
