-- The tree of buckets: what it is, and what a change of one bucket leaves of it.
use mathlib.Core.Path.{◌∙◌, ◌≡◌, ap, refl, subst, sym}
use mathlib.Core.Logic.{◌⊎◌, inl, inr, ⊎_elim}
use mathlib.Core.Bool.{Bool, false, true}
use Rattle.std.specs.Prelude.{Option, Some}
use Prim.Native.Nat.{◌<◌, ◌≤◌, suc, zero, ℕ}
use native.Mathlib.Omega.{arith}
use mathlib.Core.List.{List, [], ◌∷◌}
use lib.ListN.{length}
use borrow.Author.Tests.{eq-eqb}
use Rattle.rules.specs.declared.Entry.{Entry}
use Rattle.rules.specs.Sector.{is_data, is_index}
use Rattle.rules.specs.Walk.{Visit, arrived, copy_of, data_of, down_to, follow, left, standing, turn}
use Rattle.laws.proofs.Tools.{true-false}
use Rattle.laws.proofs.Lists.{All, follow-all, follow-le, upper, upper-gt, upper-le}

abbrev pub Reading : Type 0
Reading = ℕ → Option (List Entry)

-- an entry of a bucket with keys from lo up to hi; index entries if i is true
abbrev pub cls : Bool → Entry → Bool
cls true e = is_index e
cls false e = is_data e

abbrev pub Span : Bool → ℕ → ℕ → Entry → Type 0
Span i lo hi e = (is_index e ≡ i) × (lo ≤ e.key) × (e.key < hi) × (cls i e ≡ true)

abbrev pub HeadIs : ℕ → List Entry → Type 0
HeadIs k [] = ⊥
HeadIs k (e ∷ es) = e.key ≡ k

abbrev pub Shape : Bool → ℕ → ℕ → List Entry → Type 0
Shape i lo hi es = HeadIs lo es × All (Span i lo hi) es

-- bucket b and what is below it hold g for the keys from lo up to hi, in h levels of index
abbrev pub Tree : Reading → (ℕ → Option Entry) → ℕ → ℕ → ℕ → ℕ → Type 0
Tree rd g zero b lo hi =
    (es : List Entry) × (rd b ≡ Some es) × Shape false lo hi es × ((x : ℕ) → lo ≤ x → x < hi → standing (copy_of x es) ≡ g x)
Tree rd g (suc h) b lo hi =
    (es : List Entry) × (rd b ≡ Some es) × Shape true lo hi es
    × ((x : ℕ) → lo ≤ x → x < hi → (e : Entry) × (follow x es ≡ Some e) × Tree rd g h e.value e.key (upper x es hi))

-- the trees below an index bucket with the entries es
abbrev pub Kids : Reading → (ℕ → Option Entry) → ℕ → List Entry → ℕ → ℕ → Type 0
Kids rd g h es lo hi = (x : ℕ) → lo ≤ x → x < hi → (e : Entry) × (follow x es ≡ Some e) × Tree rd g h e.value e.key (upper x es hi)

-- no entry is stamped after t
abbrev pub Early : ℕ → Reading → Type 0
Early t rd = (b : ℕ) (es : List Entry) → rd b ≡ Some es → left t es ≡ es

pub turn-data : (t x lo hi : ℕ) (es : List Entry) → Shape false lo hi es → turn t x lo es ≡ arrived
unfolding turn
turn-data t x lo hi [] s = absurd s.0
turn-data t x lo hi (e ∷ es) s = simp (eq-eqb e.key lo s.0, s.1.0.0)

pub turn-index : (t x lo hi : ℕ) (es : List Entry) → Shape true lo hi es → turn t x lo es ≡ down_to (follow x (left t es))
unfolding turn
turn-index t x lo hi [] s = absurd s.0
turn-index t x lo hi (e ∷ es) s = simp (eq-eqb e.key lo s.0, s.1.0.0)

pub data-cons : (v : Visit) (p : List Visit) (h : ℕ) → length p ≡ suc h → data_of (v ∷ p) ≡ data_of p
unfolding data_of
data-cons v [] h q = absurd (omega arith)
data-cons v (w ∷ p) h q = refl

-- a tree stands where every bucket that could be read is read alike
pub tree-fresh : (rd rd' : Reading) (g : ℕ → Option Entry) → ((b : ℕ) (es : List Entry) → rd b ≡ Some es → rd' b ≡ Some es)
    → (h b lo hi : ℕ) → Tree rd g h b lo hi → Tree rd' g h b lo hi
tree-fresh rd rd' g same zero b lo hi tr = (tr.0, same b tr.0 tr.1, tr.2, tr.3)
tree-fresh rd rd' g same (suc h) b lo hi tr = (
  tr.0,
  same b tr.0 tr.1,
  tr.2,
  λ x p q. let c = tr.3 x p q in (c.0, c.1, tree-fresh rd rd' g same h c.0.value c.0.key (upper x tr.0 hi) c.2),
)

-- it holds what is the same on its keys
pub tree-ext : (rd : Reading) (g g' : ℕ → Option Entry) (h b lo hi : ℕ) → ((x : ℕ) → lo ≤ x → x < hi → g x ≡ g' x) → Tree rd g h b lo hi
    → Tree rd g' h b lo hi
tree-ext rd g g' zero b lo hi same tr = (tr.0, tr.1, tr.2, λ x p q. tr.3 x p q ∙ same x p q)
tree-ext rd g g' (suc h) b lo hi same tr = (
  tr.0,
  tr.1,
  tr.2,
  λ x p q.
      let c = tr.3 x p q in
      let in-range = follow-all (Span true lo hi) x tr.0 c.0 tr.2.1 c.1 in
      let u = upper-le x tr.0 hi in
      (c.0, c.1, tree-ext rd g g' h c.0.value c.0.key (upper x tr.0 hi) (λ y k l. same y (omega arith) (omega arith)) c.2),
)

head-eq : (es : List Entry) (j k : ℕ) → HeadIs j es → HeadIs k es → j ≡ k
head-eq [] j k a b = absurd a
head-eq (e ∷ es) j k a b = sym a ∙ b

-- the header of a bucket of a tree, and the entries that are read there
tree-entries : (rd : Reading) (g : ℕ → Option Entry) (h b lo hi : ℕ) → Tree rd g h b lo hi → (es : List Entry) × (rd b ≡ Some es) × HeadIs lo es
tree-entries rd g zero b lo hi tr = (tr.0, tr.1, tr.2.0)
tree-entries rd g (suc h) b lo hi tr = (tr.0, tr.1, tr.2.0)

pub some_inj : {A : Type 0} {x y : A} → Some x ≡ Some y → x ≡ y
some_inj e = cc

data-index : (rd : Reading) (g g' : ℕ → Option Entry) (h b lo lo' hi hi' : ℕ) → Tree rd g zero b lo hi → Tree rd g' (suc h) b lo' hi' → ⊥
data-index rd g g' h b lo lo' hi hi' a c =
    go a.0 a.2 (subst (λ es. Shape true lo' hi' es) (some_inj (sym c.1 ∙ a.1)) c.2)
  where
    go : (es : List Entry) → Shape false lo hi es → Shape true lo' hi' es → ⊥
    go [] s u = s.0
    go (e ∷ es) s u = true-false (sym u.1.0.0 ∙ s.1.0.0)

-- a bucket stands at one height only
height-unique : (rd : Reading) (g g' : ℕ → Option Entry) (h h' b lo hi hi' : ℕ) → lo < hi → lo < hi'
    → Tree rd g h b lo hi → Tree rd g' h' b lo hi' → h ≡ h'
height-unique rd g g' zero zero b lo hi hi' p q a c = refl
height-unique rd g g' zero (suc h') b lo hi hi' p q a c = absurd (data-index rd g g' h' b lo lo hi hi' a c)
height-unique rd g g' (suc h) zero b lo hi hi' p q a c = absurd (data-index rd g' g h b lo lo hi' hi c a)
height-unique rd g g' (suc h) (suc h') b lo hi hi' p q a c =
    let es = some_inj (sym a.1 ∙ c.1) in
    let ca = a.3 lo (omega arith) p in
    let cc' = c.3 lo (omega arith) q in
    let ee : ca.0 ≡ cc'.0 = some_inj (sym ca.1 ∙ ap (follow lo) es ∙ cc'.1) in
    let ka = follow-le lo a.0 ca.0 ca.1 in
    let sa = follow-all (Span true lo hi) lo a.0 ca.0 a.2.1 ca.1 in
    let key : ca.0.key ≡ lo = omega arith in
    let ta : Tree rd g h ca.0.value lo (upper lo a.0 hi) = rw key at ca.2 in
    let key' : cc'.0.key ≡ lo = ap (λ e. e.key) (sym ee) ∙ key in
    let tc : Tree rd g' h' cc'.0.value lo (upper lo c.0 hi') = rw key' at cc'.2 in
    ap suc (height-unique rd g g' h h' ca.0.value lo (upper lo a.0 hi) (upper lo c.0 hi')
    (upper-gt lo a.0 hi p) (upper-gt lo c.0 hi' q) ta (rw (ee) tc))

-- bucket c, which has a tree of height k with header m, is not the bucket of a tree that m is out of, or that is lower
pub tree-not : (rd : Reading) (g g' : ℕ → Option Entry) (c k m top : ℕ) → Tree rd g' k c m top → m < top
    → (h b lo hi : ℕ) → lo < hi → (m < lo) ⊎ ((hi ≤ m) ⊎ (h < k)) → Tree rd g h b lo hi → b ≡ c → ⊥
tree-not rd g g' c k m top tc mt h b lo hi lt out tr q =
    let te = tree-entries rd g h b lo hi tr in
    let ce = tree-entries rd g' k c m top tc in
    let es : te.0 ≡ ce.0 = some_inj (sym te.1 ∙ ap rd q ∙ ce.1) in
    let lm : lo ≡ m = head-eq te.0 lo m te.2 (subst (HeadIs m) (sym es) ce.2) in
    ⊎_elim (λ a. omega arith)
    (⊎_elim (λ a. omega arith)
    (λ a. let hk = height-unique rd g g' h k c m hi top (omega arith) mt (rw (lm, q) at tr) tc in omega arith))
    out

-- where only bucket c changes, such a tree stands
pub tree-frame : (rd rd' : Reading) (g g' : ℕ → Option Entry) (c k m top : ℕ) → Tree rd g' k c m top → m < top
    → ((b : ℕ) (es : List Entry) → (b ≡ c → ⊥) → rd b ≡ Some es → rd' b ≡ Some es)
    → (h b lo hi : ℕ) → lo < hi → (m < lo) ⊎ ((hi ≤ m) ⊎ (h < k)) → Tree rd g h b lo hi → Tree rd' g h b lo hi
tree-frame rd rd' g g' c k m top tc mt same zero b lo hi lt out tr =
    (tr.0, same b tr.0 (tree-not rd g g' c k m top tc mt zero b lo hi lt out tr) tr.1, tr.2, tr.3)
tree-frame rd rd' g g' c k m top tc mt same (suc h) b lo hi lt out tr = (
  tr.0,
  same b tr.0 (tree-not rd g g' c k m top tc mt (suc h) b lo hi lt out tr) tr.1,
  tr.2,
  λ x p q.
      let d = tr.3 x p q in
      let span = follow-all (Span true lo hi) x tr.0 d.0 tr.2.1 d.1 in
      let le = follow-le x tr.0 d.0 d.1 in
      let u = upper-le x tr.0 hi in
      let v = upper-gt x tr.0 hi q in (
        d.0,
        d.1,
        tree-frame rd rd' g g' c k m top tc mt same h d.0.value d.0.key (upper x tr.0 hi) (omega arith)
            (⊎_elim (λ a. inl (omega arith)) (⊎_elim (λ a. inr (inl (omega arith))) (λ a. inr (inr (omega arith)))) out) d.2,
      ),
)
