-- A walk as of t is the same walk after every write with a later stamp; what two such walks show alike.
use Prim.Native.Nat.{◌<◌, ℕ, suc}
use lib.Dec.{leb}
use lib.ListN.{length}
use mathlib.Core.Bool.{Bool, false, true}
use mathlib.Core.List.{List, [], ◌++◌, ◌∷◌}
use Rattle.std.specs.Prelude.{Option, None, Some}
use mathlib.Core.Path.{◌∙◌, ◌≡◌, ap, ap₂, refl, sym}
use Rattle.rules.specs.declared.Entry.{Entry}
use Rattle.rules.specs.declared.Head.{Head}
use Rattle.rules.specs.Bucket.{bucket, log}
use Rattle.rules.specs.Next.{index_on}
use Rattle.rules.specs.Plain.{keep_if, only, last_of}
use Rattle.rules.specs.Sector.{is_index}
use Rattle.rules.specs.Walk.{Visit, left, path_from, path_in, walk, data_of}
use Rattle.laws.proofs.Lists.{only-append}
use Rattle.laws.proofs.Tools.{none-some}
use Rattle.tree.proofs.AsOf.{Again, Alike, Grows, left-late, path-late}
use Rattle.tree.proofs.Write.{Wrote}

from-late : (t s x : ℕ) (rd rd' : ℕ → Option (List Entry)) (f : ℕ) (r : Option Entry) (p : List Visit) → t < s → Grows s rd rd'
    → path_from rd t x f r ≡ Some p → Again t (path_from rd' t x f r) p
unfolding path_from
from-late t s x rd rd' f None p lt gr q = absurd (none-some q)
from-late t s x rd rd' f (Some r) p lt gr q = path-late t s x rd rd' lt gr f r.value 0 p q

-- the walk as of t is the same walk afterwards
pub walk-late : (h : Head) (card card' : List ℕ) (g' : ℕ → Option Entry) (s : ℕ) (lg : List Entry) → log h card ≡ Some lg → Wrote h card card' g' s lg
    → (t x : ℕ) → t < s → (p : List Visit) → walk h card t x ≡ Some p → Again t (walk h card' t x) p
unfolding walk path_in
walk-late h card card' g' s lg lq w t x lt p q =
    let q1 : path_from (bucket h card) t x h.n (last_of (left t lg)) ≡ Some p = rw lq at q in
    rw (w.log-grows.0, left-late t s lg w.new-log lt w.log-grows.1)
    (from-late t s x (bucket h card) (bucket h card') h.n (last_of (left t lg)) p lt w.grows q1)

pub alike-length : (t : ℕ) (p q : List Visit) → Alike t p q → length p ≡ length q
alike-length t [] [] a = refl
alike-length t [] (w ∷ q) a = absurd a
alike-length t (v ∷ p) [] a = absurd a
alike-length t (v ∷ p) (w ∷ q) a = ap suc (alike-length t p q a.2)

pub alike-data : (t : ℕ) (p q : List Visit) → Alike t p q → left t (data_of p) ≡ left t (data_of q)
unfolding data_of
alike-data t [] [] a = refl
alike-data t [] (w ∷ q) a = absurd a
alike-data t (v ∷ p) [] a = absurd a
alike-data t (v ∷ []) (w ∷ []) a = a.1
alike-data t (v ∷ []) (w ∷ z ∷ q) a = absurd a.2
alike-data t (v ∷ u ∷ p) (w ∷ []) a = absurd a.2
alike-data t (v ∷ u ∷ p) (w ∷ z ∷ q) a = alike-data t (u ∷ p) (z ∷ q) a.2

pub alike_refl : (t : ℕ) (p : List Visit) → Alike t p p
alike_refl t [] = tt
alike_refl t (v ∷ p) = (refl, refl, alike_refl t p)

pub alike-trans : (t : ℕ) (p q r : List Visit) → Alike t p q → Alike t q r → Alike t p r
alike-trans t [] [] [] a b = tt
alike-trans t [] [] (w ∷ r) a b = b
alike-trans t [] (v ∷ q) r a b = absurd a
alike-trans t (u ∷ p) [] r a b = absurd a
alike-trans t (u ∷ p) (v ∷ q) [] a b = absurd b
alike-trans t (u ∷ p) (v ∷ q) (w ∷ r) a b = (a.0 ∙ b.0, a.1 ∙ b.1, alike-trans t p q r a.2 b.2)

-- two filters change places
only-comm : (p q : Entry → Bool) (es : List Entry) → only p (only q es) ≡ only q (only p es)
unfolding only
only-comm p q [] = refl
only-comm p q (e ∷ es) = go (p e) (q e) refl refl (only-comm p q es)
  where
    go : (a b : Bool) → p e ≡ a → q e ≡ b → only p (only q es) ≡ only q (only p es)
        → only p (keep_if b e (only q es)) ≡ only q (keep_if a e (only p es))
    go true true x y ih = rw (x, y) (ap {B = List Entry} (λ z. e ∷ z) ih)
    go true false x y ih = rw y ih
    go false true x y ih = rw x ih
    go false false x y ih = ih

-- alike paths show the same index entries as of t
pub alike-index : (t : ℕ) (p q : List Visit) → Alike t p q → left t (index_on p) ≡ left t (index_on q)
unfolding index_on left
alike-index t [] [] a = refl
alike-index t [] (w ∷ q) a = absurd a
alike-index t (v ∷ p) [] a = absurd a
alike-index t (v ∷ p) (w ∷ q) a =
    only-append (λ e. leb e.stamp t) (only is_index v.entries) (index_on p)
    ∙ ap₂ ◌++◌
    (only-comm (λ e. leb e.stamp t) is_index v.entries ∙ ap (only is_index) a.1 ∙ sym (only-comm (λ e. leb e.stamp t) is_index w.entries))
    (alike-index t p q a.2)
    ∙ sym (only-append (λ e. leb e.stamp t) (only is_index w.entries) (index_on q))
