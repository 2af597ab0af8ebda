-- Past the highest bucket in use all is blank.
use mathlib.Core.Path.{◌∙◌, ◌≡◌, ap, refl, sym}
use mathlib.Core.Logic.{⊎_elim}
use mathlib.Core.Bool.{Bool, false, true}
use Rattle.std.specs.Prelude.{Some}
use Prim.Native.Nat.{◌+◌, ◌<◌, ◌≤◌, suc, zero, ℕ}
use native.Mathlib.Omega.{arith}
use mathlib.Core.List.{List, []}
use lib.ListN.{length}
use Rattle.rules.specs.declared.Head.{Head}
use Rattle.rules.specs.declared.Entry.{Entry}
use Rattle.rules.specs.Bucket.{bucket, onto, run, sound_bucket, unwritten}
use Rattle.rules.specs.Layout.{base, size_of}
use Rattle.rules.specs.Plain.{zeros}
use Rattle.rules.specs.Sector.{decode, sector_at}
use Rattle.rules.specs.Write.{top_used}
use Rattle.laws.proofs.Tools.{and-true, eq-or-ne, le-or-lt, none-some}
use Rattle.laws.proofs.Buckets.{bucket-raw, bucket-within, raw}

pub unwritten-each : (card : List ℕ) (i c j : ℕ) → unwritten card i c ≡ true → i ≤ j → j < i + c → zeros (sector_at card j) ≡ true
unfolding unwritten
unwritten-each card i zero j u p q = absurd (omega arith)
unwritten-each card i (suc c) j u p q =
    let t = and-true (zeros (sector_at card i)) (unwritten card (suc i) c) u in
    ⊎_elim
    (λ (le : j ≤ i). let e : j ≡ i = omega arith in rw e t.0)
    (λ (gt : i < j). unwritten-each card (suc i) c j t.1 (omega arith) (omega arith))
    (le-or-lt j i)

pub run-blank : (n : ℕ) (card : List ℕ) (i c : ℕ) → ((j : ℕ) → i ≤ j → j < i + c → zeros (sector_at card j) ≡ true) → run n card i c ≡ Some []
unfolding run decode onto
run-blank n card i zero f = refl
run-blank n card i (suc c) f = rw (f i (omega arith) (omega arith), run-blank n card (suc i) c (λ j p q. f j (omega arith) (omega arith)))

pub top-blank : (h : Head) (card : List ℕ) (n c : ℕ) → top_used h card n < c → c ≤ n → unwritten card (base h c) h.m ≡ true
unfolding top_used
top-blank h card zero c lt le = absurd (omega arith)
top-blank h card (suc n) c lt le = go (unwritten card (base h (suc n)) h.m) refl lt (top-blank h card n c)
  where
    go : (b : Bool) → unwritten card (base h (suc n)) h.m ≡ b → (elim b as (λ x. ℕ) [ true ↦ top_used h card n | false ↦ suc n ]) < c
        → (top_used h card n < c → c ≤ n → unwritten card (base h c) h.m ≡ true) → unwritten card (base h c) h.m ≡ true
    go true z l ih = ⊎_elim (λ p. rw p z) (λ (ne : c ≡ suc n → ⊥). ih l (omega arith)) (eq-or-ne c (suc n))
    go false z l ih = absurd (omega arith)

top-sector : (h : Head) (card : List ℕ) (c j : ℕ) → top_used h card h.n < c → c ≤ h.n → base h c ≤ j → j < base h c + h.m
    → zeros (sector_at card j) ≡ true
top-sector h card c j p q a b = unwritten-each card (base h c) h.m j (top-blank h card h.n c p q) a b

pub top-raw : (h : Head) (card : List ℕ) (c : ℕ) → top_used h card h.n < c → c ≤ h.n → raw h card c ≡ Some []
top-raw h card c p q = run-blank h.n card (base h c) h.m (λ j a b. top-sector h card c j p q a b)

pub used-within : (h : Head) (card : List ℕ) (n : ℕ) → top_used h card n ≤ n
unfolding top_used
used-within h card zero = omega arith
used-within h card (suc n) =
    let ih = used-within h card n in
    elim (unwritten card (base h (suc n)) h.m) as (λ b. (elim b as (λ x. ℕ) [ true ↦ top_used h card n | false ↦ suc n ]) ≤ suc n) [ true ↦ omega arith | false ↦ omega arith ]

-- and a bucket that can be read is not past it
pub used-top : (h : Head) (card : List ℕ) (b : ℕ) (es : List Entry) → size_of h ≡ length card → bucket h card b ≡ Some es → b ≤ top_used h card h.n
unfolding sound_bucket
used-top h card b es size q =
    ⊎_elim (λ le. le)
    (λ (gt : top_used h card h.n < b).
    let r = bucket-raw h card b es q in
    let w = bucket-within h card b es size q in
    let e : es ≡ [] = cc (r.1, top-raw h card b gt w) in
    absurd (none-some (ap sound_bucket (sym e) ∙ r.2)))
    (le-or-lt b (top_used h card h.n))
