-- The path of a walk: its buckets are read as they stand on the card, and none is met twice.
use mathlib.Core.Path.{◌∙◌, ◌≡◌, ap, ap₂, refl, subst, sym}
use mathlib.Core.Logic.{◌⊎◌, inl, inr, ⊎_elim}
use mathlib.Core.Bool.{Bool, false, true}
use Rattle.std.specs.Prelude.{Option, None, Some}
use Prim.Native.Nat.{◌≤◌, suc, zero, ℕ}
use native.Mathlib.Omega.{arith}
use mathlib.Core.List.{List, [], ◌∷◌}
use lib.ListN.{length}
use lib.Dec.{eqb}
use borrow.Author.Tests.{eqb-true}
use Rattle.rules.specs.declared.Entry.{Entry}
use Rattle.rules.specs.declared.Head.{Head}
use Rattle.rules.specs.Bucket.{bucket, log}
use Rattle.rules.specs.Plain.{if, last_of}
use Rattle.rules.specs.Rewrite.{key_of}
use Rattle.rules.specs.Sector.{is_index}
use Rattle.rules.specs.Walk.{Turn, Visit, arrived, broken, down, down_to, follow, go, go_in, left, met, path, path_from, path_in, turn, walk}
use Rattle.laws.proofs.Tools.{none-some}

-- P holds of every bucket of a path
abbrev pub Along : (Visit → Type 0) → List Visit → Type 0
Along P [] = Unit {0}
Along P (v ∷ p) = P v × Along P p

pub along-map : (P Q : Visit → Type 0) → ((v : Visit) → P v → Q v) → (p : List Visit) → Along P p → Along Q p
along-map P Q f [] a = tt
along-map P Q f (v ∷ p) a = (f v a.0, along-map P Q f p a.1)

-- a path: it ends at the bucket, or goes on from it
abbrev Goes : Visit → Turn → (ℕ → ℕ → Option (List Visit)) → List Visit → Type 0
Goes v u on p = ((u ≡ arrived) × (p ≡ v ∷ [])) ⊎ ((d : Entry) × (q : List Visit) × (u ≡ down d) × (on d.value d.key ≡ Some q) × (p ≡ v ∷ q))

pub met-inv : (v : Visit) (r : Option (List Visit)) (p : List Visit) → met v r ≡ Some p → (q : List Visit) × (r ≡ Some q) × (p ≡ v ∷ q)
unfolding met
met-inv v None p e = absurd (none-some e)
met-inv v (Some q) p e = (q, refl, cc)

go-inv : (v : Visit) (u : Turn) (on : ℕ → ℕ → Option (List Visit)) (p : List Visit) → go v u on ≡ Some p → Goes v u on p
unfolding go
go-inv v broken on p e = absurd (none-some e)
go-inv v arrived on p e = inl (refl, cc)
go-inv v (down d) on p e = let m = met-inv v (on d.value d.key) p e in inr (d, m.0, refl, m.1, m.2)

abbrev Steps : (ℕ → Option (List Entry)) → ℕ → ℕ → ℕ → ℕ → Option (List Entry) → (ℕ → ℕ → Option (List Visit)) → List Visit → Type 0
Steps rd t x b k r on p = (es : List Entry) × (r ≡ Some es) × Goes (record { number = b; entries = es }) (turn t x k es) on p

in-inv : (rd : ℕ → Option (List Entry)) (t x b k : ℕ) (r : Option (List Entry)) (on : ℕ → ℕ → Option (List Visit)) (p : List Visit)
    → go_in t x b k r on ≡ Some p → Steps rd t x b k r on p
unfolding go_in
in-inv rd t x b k None on p e = absurd (none-some e)
in-inv rd t x b k (Some es) on p e = (es, refl, go-inv (record { number = b; entries = es }) (turn t x k es) on p e)

path-inv : (rd : ℕ → Option (List Entry)) (t x f b k : ℕ) (p : List Visit) → path rd t x (suc f) b k ≡ Some p
    → Steps rd t x b k (rd b) (path rd t x f) p
unfolding path
path-inv rd t x f b k p e = in-inv rd t x b k (rd b) (path rd t x f) p e

path-zero : (rd : ℕ → Option (List Entry)) (t x b k : ℕ) (p : List Visit) → path rd t x zero b k ≡ Some p → ⊥
unfolding path
path-zero rd t x b k p e = none-some e

from-inv : (rd : ℕ → Option (List Entry)) (t x f : ℕ) (r : Option Entry) (p : List Visit) → path_from rd t x f r ≡ Some p
    → (b : ℕ) × (path rd t x f b 0 ≡ Some p)
unfolding path_from
from-inv rd t x f None p q = absurd (none-some q)
from-inv rd t x f (Some r) p q = (r.value, q)

in-log : (rd : ℕ → Option (List Entry)) (t x f : ℕ) (l : Option (List Entry)) (p : List Visit) → path_in rd t x f l ≡ Some p
    → (b : ℕ) × (path rd t x f b 0 ≡ Some p)
unfolding path_in
in-log rd t x f None p q = absurd (none-some q)
in-log rd t x f (Some es) p q = from-inv rd t x f (last_of (left t es)) p q

-- a walk is the path from some root
walk-inv : (h : Head) (card : List ℕ) (t x : ℕ) (p : List Visit) → walk h card t x ≡ Some p → (b : ℕ) × (path (bucket h card) t x h.n b 0 ≡ Some p)
unfolding walk
walk-inv h card t x p q = in-log (bucket h card) t x h.n (log h card) p q

-- and its log is sound
none-path : (rd : ℕ → Option (List Entry)) (t x f : ℕ) → path_in rd t x f None ≡ None
unfolding path_in
none-path rd t x f = refl

pub walk-log : (h : Head) (card : List ℕ) (t x : ℕ) (p : List Visit) → walk h card t x ≡ Some p → (es : List Entry) × (log h card ≡ Some es)
unfolding walk
walk-log h card t x p w = go (log h card) w
  where
    go : (l : Option (List Entry)) → path_in (bucket h card) t x h.n l ≡ Some p → (es : List Entry) × (l ≡ Some es)
    go None q = absurd (none-some (sym (none-path (bucket h card) t x h.n) ∙ q))
    go (Some es) q = (es, refl)

-- the buckets of a path are read so
abbrev Reads : (ℕ → Option (List Entry)) → Visit → Type 0
Reads rd v = rd v.number ≡ Some v.entries

path-reads : (rd : ℕ → Option (List Entry)) (t x f b k : ℕ) (p : List Visit) → path rd t x f b k ≡ Some p → Along (Reads rd) p
path-reads rd t x zero b k p e = absurd (path-zero rd t x b k p e)
path-reads rd t x (suc f) b k p e =
    let s = path-inv rd t x f b k p e in
    let v : Visit = record { number = b; entries = s.0 } in
    ⊎_elim
    (λ (a : (turn t x k s.0 ≡ arrived) × (p ≡ v ∷ [])). subst (Along (Reads rd)) (sym a.1) (s.1, tt))
    (λ (a : (m : Entry) × (o : List Visit) × (turn t x k s.0 ≡ down m) × (path rd t x f m.value m.key ≡ Some o) × (p ≡ v ∷ o)).
    subst (Along (Reads rd)) (sym a.4) (s.1, path-reads rd t x f a.0.value a.0.key a.1 a.3))
    s.2

pub walk-reads : (h : Head) (card : List ℕ) (t x : ℕ) (p : List Visit) → walk h card t x ≡ Some p
    → Along (λ v. bucket h card v.number ≡ Some v.entries) p
walk-reads h card t x p q = let w = walk-inv h card t x p q in path-reads (bucket h card) t x h.n w.0 0 p w.1

-- a walk meets a bucket
visit-some : (v : Visit) (p : List Visit) → [] ≡ v ∷ p → ⊥
visit-some v p q = let z : ◌≡◌ {A = ℕ} 0 1 = cc in omega arith

path-some : (rd : ℕ → Option (List Entry)) (t x f b k : ℕ) → path rd t x f b k ≡ Some [] → ⊥
path-some rd t x zero b k e = path-zero rd t x b k [] e
path-some rd t x (suc f) b k e =
    let s = path-inv rd t x f b k [] e in
    let v : Visit = record { number = b; entries = s.0 } in
    ⊎_elim
    (λ (a : (turn t x k s.0 ≡ arrived) × ([] ≡ v ∷ [])). visit-some v [] a.1)
    (λ (a : (m : Entry) × (o : List Visit) × (turn t x k s.0 ≡ down m) × (path rd t x f m.value m.key ≡ Some o) × ([] ≡ v ∷ o)). visit-some v a.1 a.4)
    s.2

pub walk-some : (h : Head) (card : List ℕ) (t x : ℕ) → walk h card t x ≡ Some [] → ⊥
walk-some h card t x q = let w = walk-inv h card t x [] q in path-some (bucket h card) t x h.n w.0 0 w.1

-- the key followed to a bucket of a path is its header's
turn-key : (t x k : ℕ) (es : List Entry) → (turn t x k es ≡ broken → ⊥) → key_of es ≡ k
unfolding turn key_of
turn-key t x k [] n = absurd (n refl)
turn-key t x k (e ∷ es) n = one (eqb e.key k) refl n
  where
    one : (b : Bool) → eqb e.key k ≡ b → (if b (if (is_index e) (down_to (follow x (left t (e ∷ es)))) arrived) broken ≡ broken → ⊥) → e.key ≡ k
    one true z m = eqb-true e.key k z
    one false z m = absurd (m refl)

arrived-broken : arrived ≡ broken → ⊥
arrived-broken e = let z : ◌≡◌ {A = ℕ} 0 1 = cc in omega arith

down-broken : (d : Entry) → down d ≡ broken → ⊥
down-broken d e = let z : ◌≡◌ {A = ℕ} 0 1 = cc in omega arith

arrived-down : (d : Entry) → arrived ≡ down d → ⊥
arrived-down d e = let z : ◌≡◌ {A = ℕ} 0 1 = cc in omega arith

down_inj : (c d : Entry) → down c ≡ down d → c ≡ d
down_inj c d e = cc

goes-key : (t x k : ℕ) (es : List Entry) (v : Visit) (on : ℕ → ℕ → Option (List Visit)) (p : List Visit) → Goes v (turn t x k es) on p → key_of es ≡ k
goes-key t x k es v on p (inl a) = turn-key t x k es (λ z. arrived-broken (sym a.0 ∙ z))
goes-key t x k es v on p (inr a) = turn-key t x k es (λ z. down-broken a.0 (sym a.2 ∙ z))

path-key : (rd : ℕ → Option (List Entry)) (t x f b k : ℕ) (p : List Visit) → path rd t x f b k ≡ Some p
    → (es : List Entry) × (rd b ≡ Some es) × (key_of es ≡ k)
path-key rd t x zero b k p e = absurd (path-zero rd t x b k p e)
path-key rd t x (suc f) b k p e =
    let s = path-inv rd t x f b k p e in
    (s.0, s.1, goes-key t x k s.0 (record { number = b; entries = s.0 }) (path rd t x f) p s.2)

-- how far one may go does not change where a path leads
path-same : (rd : ℕ → Option (List Entry)) (t x f g b k : ℕ) (p q : List Visit) → path rd t x f b k ≡ Some p → path rd t x g b k ≡ Some q → p ≡ q
path-same rd t x zero g b k p q e d = absurd (path-zero rd t x b k p e)
path-same rd t x (suc f) zero b k p q e d = absurd (path-zero rd t x b k q d)
path-same rd t x (suc f) (suc g) b k p q e d =
    let s = path-inv rd t x f b k p e in
    let u = path-inv rd t x g b k q d in
    let es : s.0 ≡ u.0 = cc (s.1, u.1) in
    let v : Visit = record { number = b; entries = s.0 } in
    let w : Visit = record { number = b; entries = u.0 } in
    let vw : v ≡ w = ap (λ z. record { number = b; entries = z }) es in
    let tt' : turn t x k s.0 ≡ turn t x k u.0 = ap (turn t x k) es in
    ⊎_elim
    (λ (a : (turn t x k s.0 ≡ arrived) × (p ≡ v ∷ [])).
    ⊎_elim
    (λ (c : (turn t x k u.0 ≡ arrived) × (q ≡ w ∷ [])). a.1 ∙ ap (λ z. z ∷ []) vw ∙ sym c.1)
    (λ (c : (m : Entry) × (o : List Visit) × (turn t x k u.0 ≡ down m) × (path rd t x g m.value m.key ≡ Some o) × (q ≡ w ∷ o)).
    absurd (arrived-down c.0 (sym a.0 ∙ tt' ∙ c.2)))
    u.2)
    (λ (a : (m : Entry) × (o : List Visit) × (turn t x k s.0 ≡ down m) × (path rd t x f m.value m.key ≡ Some o) × (p ≡ v ∷ o)).
    ⊎_elim
    (λ (c : (turn t x k u.0 ≡ arrived) × (q ≡ w ∷ [])). absurd (arrived-down a.0 (sym c.0 ∙ sym tt' ∙ a.2)))
    (λ (c : (m : Entry) × (o : List Visit) × (turn t x k u.0 ≡ down m) × (path rd t x g m.value m.key ≡ Some o) × (q ≡ w ∷ o)).
    let mm : a.0 ≡ c.0 = down_inj a.0 c.0 (sym a.2 ∙ tt' ∙ c.2) in
    let oo : a.1 ≡ c.1 = path-same rd t x f g a.0.value a.0.key a.1 c.1 a.3 (subst (λ z. path rd t x g z.value z.key ≡ Some c.1) (sym mm) c.3) in
    a.4 ∙ ap₂ (λ y z. y ∷ z) vw oo ∙ sym c.4)
    u.2)
    s.2

-- from each bucket of a path another starts, no longer than it
abbrev Starts : (ℕ → Option (List Entry)) → ℕ → ℕ → ℕ → Visit → Type 0
Starts rd t x n v = (f : ℕ) × (k : ℕ) × (s : List Visit) × (path rd t x f v.number k ≡ Some s) × (length s ≤ n)

path-starts : (rd : ℕ → Option (List Entry)) (t x f b k : ℕ) (p : List Visit) → path rd t x f b k ≡ Some p → Along (Starts rd t x (length p)) p
path-starts rd t x zero b k p e = absurd (path-zero rd t x b k p e)
path-starts rd t x (suc f) b k p e =
    let s = path-inv rd t x f b k p e in
    let v : Visit = record { number = b; entries = s.0 } in
    ⊎_elim
    (λ (a : (turn t x k s.0 ≡ arrived) × (p ≡ v ∷ [])).
    subst (λ z. Along (Starts rd t x (length z)) z) (sym a.1) ((suc f, k, v ∷ [], subst (λ z. path rd t x (suc f) b k ≡ Some z) a.1 e, omega arith), tt))
    (λ (a : (m : Entry) × (o : List Visit) × (turn t x k s.0 ≡ down m) × (path rd t x f m.value m.key ≡ Some o) × (p ≡ v ∷ o)).
    let o = a.1 in
    subst (λ z. Along (Starts rd t x (length z)) z) (sym a.4) (
      (suc f, k, v ∷ o, subst (λ z. path rd t x (suc f) b k ≡ Some z) a.4 e, omega arith),
      along-map (Starts rd t x (length o)) (Starts rd t x (suc (length o))) (λ w z. let le = z.4 in (z.0, z.1, z.2, z.3, omega arith)) o
          (path-starts rd t x f a.0.value a.0.key o a.3),
    ))
    s.2

-- no two buckets of a path are the same
abbrev pub Apart : List Visit → Type 0
Apart [] = Unit {0}
Apart (v ∷ p) = Along (λ w. v.number ≡ w.number → ⊥) p × Apart p

path-once : (rd : ℕ → Option (List Entry)) (t x f b k : ℕ) (p : List Visit) → path rd t x f b k ≡ Some p → Apart p
path-once rd t x zero b k p e = absurd (path-zero rd t x b k p e)
path-once rd t x (suc f) b k p e =
    let s = path-inv rd t x f b k p e in
    let v : Visit = record { number = b; entries = s.0 } in
    ⊎_elim
    (λ (a : (turn t x k s.0 ≡ arrived) × (p ≡ v ∷ [])). subst Apart (sym a.1) (tt, tt))
    (λ (a : (m : Entry) × (o : List Visit) × (turn t x k s.0 ≡ down m) × (path rd t x f m.value m.key ≡ Some o) × (p ≡ v ∷ o)).
    let o = a.1 in
    let whole : path rd t x (suc f) b k ≡ Some (v ∷ o) = subst (λ z. path rd t x (suc f) b k ≡ Some z) a.4 e in
    let kb = path-key rd t x (suc f) b k p e in
    subst Apart (sym a.4) (
      along-map (Starts rd t x (length o)) (λ w. b ≡ w.number → ⊥)
          (λ w z bw.
          let st : path rd t x z.0 b z.1 ≡ Some z.2 = subst (λ y. path rd t x z.0 y z.1 ≡ Some z.2) (sym bw) z.3 in
          let kw = path-key rd t x z.0 b z.1 z.2 st in
          let ee : kb.0 ≡ kw.0 = cc (kb.1, kw.1) in
          let kk : z.1 ≡ k = sym kw.2 ∙ ap key_of (sym ee) ∙ kb.2 in
          let so : z.2 ≡ v ∷ o = path-same rd t x z.0 (suc f) b k z.2 (v ∷ o) (subst (λ y. path rd t x z.0 b y ≡ Some z.2) kk st) whole in
          let ls = ap length so in
          let le = z.4 in
          omega arith) o
          (path-starts rd t x f a.0.value a.0.key o a.3),
      path-once rd t x f a.0.value a.0.key o a.3,
    ))
    s.2

-- on any card: a walk visits no bucket twice
pub walk-once : (h : Head) (card : List ℕ) (t x : ℕ) (p : List Visit) → walk h card t x ≡ Some p → Apart p
walk-once h card t x p q = let w = walk-inv h card t x p q in path-once (bucket h card) t x h.n w.0 0 p w.1
