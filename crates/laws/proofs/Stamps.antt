-- The largest stamp of the buckets: not below any entry's, and no higher than what bounds every sector's.
use Prim.Native.Nat.{◌*◌, ◌+◌, ◌<◌, ◌≤◌, suc, zero, ℕ}
use borrow.Author.Tests.{eq-eqb, ne_eqb}
use lib.ListN.{get_or, length}
use mathlib.Core.Bool.{true}
use mathlib.Core.List.{List, [], ◌∷◌}
use mathlib.Core.Logic.{⊎_elim}
use Rattle.std.specs.Prelude.{None, Some}
use mathlib.Core.Path.{◌∙◌, ◌≡◌, ap, subst, sym}
use native.Mathlib.Omega.{arith}
use Rattle.rules.specs.declared.Entry.{Entry}
use Rattle.rules.specs.declared.Head.{Head}
use Rattle.rules.specs.declared.Sector.TheVariants.{Blank, Held}
use Rattle.rules.specs.Bucket.{bucket, run}
use Rattle.rules.specs.Layout.{base, size_of}
use Rattle.rules.specs.Plain.{zeros}
use Rattle.rules.specs.Sector.{decode, fields, legal, other_row, sector_at}
use Rattle.rules.specs.Write.{stamp_of, top_stamp, stamp_on}
use Rattle.laws.proofs.Buckets.{bucket-in, bucket-raw, bucket-within}
use Rattle.laws.proofs.Bytes.{held-inv}
use Rattle.laws.proofs.Lists.{All}
use Rattle.laws.proofs.Run.{onto-inv}
use Rattle.laws.proofs.Tools.{false-true, le-or-lt, none-some}
use Rattle.laws.proofs.Zeros.{zeros-get}

pub top-ge : (card : List ℕ) (i c j : ℕ) → i ≤ j → j < i + c → stamp_of (sector_at card j) ≤ top_stamp card i c
unfolding top_stamp
top-ge card i zero j p q = absurd (omega arith)
top-ge card i (suc c) j p q =
    ⊎_elim
    (λ (le : j ≤ i). let e : j ≡ i = omega arith in rw e (omega arith))
    (λ (gt : i < j). let ih = top-ge card (suc i) c j (omega arith) (omega arith) in omega arith)
    (le-or-lt j i)

pub top-le : (card : List ℕ) (t i c : ℕ) → ((j : ℕ) → i ≤ j → j < i + c → stamp_of (sector_at card j) ≤ t) → top_stamp card i c ≤ t
unfolding top_stamp
top-le card t i zero f = omega arith
top-le card t i (suc c) f =
    let a = f i (omega arith) (omega arith) in
    let b = top-le card t (suc i) c (λ j p q. f j (omega arith) (omega arith)) in
    omega arith

-- no row of the table has kind 0
kind-some : (n : ℕ) (e : Entry) → legal n e ≡ true → e.kind ≡ 0 → ⊥
unfolding legal other_row
kind-some n e l z = false-true (rw z at l)

pub held-stamp : (n : ℕ) (s : List ℕ) (e : Entry) → decode n s ≡ Held e → stamp_of s ≡ e.stamp
unfolding stamp_of fields
held-stamp n s e q =
    let h = held-inv n s e q in
    let k : get_or s 0 0 ≡ e.kind = ap (λ z. z.kind) h.0 in
    rw (ne_eqb (get_or s 0 0) 0 (λ z. kind-some n e h.1 (sym k ∙ z))) (ap (λ z. z.stamp) h.0)

pub stamp-blank : (s : List ℕ) → zeros s ≡ true → stamp_of s ≡ 0
unfolding stamp_of
stamp-blank s z = rw (eq-eqb (get_or s 0 0) 0 (zeros-get s 0 z))

pub run-stamps : (n : ℕ) (card : List ℕ) (t i c : ℕ) (es : List Entry) → ((j : ℕ) → i ≤ j → j < i + c → stamp_of (sector_at card j) ≤ t)
    → run n card i c ≡ Some es → All (λ e. e.stamp ≤ t) es
unfolding run
run-stamps n card t i zero [] f q = tt
run-stamps n card t i zero (e ∷ es) f q = absurd (none-some (let z : None ≡ Some e = cc in z))
run-stamps n card t i (suc c) es f q =
    ⊎_elim
    (λ (v : (decode n (sector_at card i) ≡ Blank) × (es ≡ []) × (run n card (suc i) c ≡ Some [])). subst (All (λ e. e.stamp ≤ t)) (sym v.1) tt)
    (λ (v : (x : Entry) × (xs : List Entry) × (decode n (sector_at card i) ≡ Held x) × (es ≡ x ∷ xs) × (run n card (suc i) c ≡ Some xs)).
    let hs = held-stamp n (sector_at card i) v.0 v.2 in
    let fi = f i (omega arith) (omega arith) in
    subst (All (λ e. e.stamp ≤ t)) (sym v.3) (omega arith, run-stamps n card t (suc i) c v.1 (λ j a b. f j (omega arith) (omega arith)) v.4))
    (onto-inv (decode n (sector_at card i)) (run n card (suc i) c) es q)

-- what is not below the largest stamp is not below any entry's
pub bucket-stamps : (h : Head) (card : List ℕ) → size_of h ≡ length card → (s : ℕ) → stamp_on h card ≤ s
    → (c : ℕ) (cs : List Entry) → bucket h card c ≡ Some cs → All (λ e. e.stamp ≤ s) cs
unfolding base stamp_on
bucket-stamps h card size s le c cs q =
    let r = bucket-raw h card c cs q in
    let w = bucket-within h card c cs size q in
    run-stamps h.n card s (base h c) h.m cs
    (λ j a b.
    let t = top-ge card (1 + h.n) (h.n * h.m) j (omega arith) (omega (arith, bucket-in h.m h.n c r.0 w)) in
    omega arith)
    r.1
