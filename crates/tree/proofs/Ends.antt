-- Where a walk ends: the data bucket with its range of keys, and the smallest index key above.
use Prim.Native.Nat.{◌<◌, ◌≤◌, suc, zero, ℕ}
use borrow.Author.Tests.{le-leb, le-ltb, lt-ltb, ltb-true}
use lib.Dec.{leb, ltb}
use lib.ListN.{length}
use mathlib.Core.Bool.{false, true}
use mathlib.Core.List.{List, [], ◌++◌, ◌∷◌}
use mathlib.Core.Logic.{◌⊎◌, inl, inr, ⊎_elim}
use Rattle.std.specs.Prelude.{Option, None, Some}
use mathlib.Core.Path.{◌∙◌, ◌≡◌, ap, refl, subst, sym}
use native.Mathlib.Omega.{arith}
use Rattle.rules.specs.declared.Entry.{Entry}
use Rattle.rules.specs.Next.{index_on}
use Rattle.rules.specs.Plain.{only, smaller, smallest}
use Rattle.rules.specs.Sector.{is_index}
use Rattle.rules.specs.Walk.{Visit, copy_of, data_of, down_to, go, go_in, left, met, path, standing, stands_on}
use Rattle.laws.proofs.Tells.{smaller-pick}
use Rattle.laws.proofs.Halves.{only-every, only_none}
use Rattle.laws.proofs.Lists.{All, all_map, follow-all, follow-le, only-all, only-append, only-true, upper, upper-all, upper-gt, upper-le, all_both}
use Rattle.laws.proofs.Tools.{le-or-lt}
use Rattle.tree.proofs.AsOf.{Alike}
use Rattle.tree.proofs.Walks.{alike-data, alike-index}
use Rattle.tree.proofs.Tree.{Early, Reading, Shape, Span, Tree, data-cons, turn-data, turn-index}

abbrev pub above : ℕ → List Entry → List Entry
above x es = only (λ e. ltb x e.key) es

-- the smallest of a list
smaller-none : (d : Entry) → smaller d None ≡ Some d
unfolding smaller
smaller-none d = refl

abbrev pub Least : ℕ → List Entry → ℕ → ℕ → Type 0
Least x es u hi = ((smallest (above x es) ≡ None) × (u ≡ hi)) ⊎ ((e : Entry) × (smallest (above x es) ≡ Some e) × (e.key ≡ u) × (u < hi))

small-upper : (x : ℕ) (es : List Entry) (hi : ℕ) → All (λ e. e.key < hi) es → Least x es (upper x es hi) hi
unfolding only upper smallest
small-upper x [] hi a = inl (refl, refl)
small-upper x (d ∷ es) hi a =
    ⊎_elim
    (λ (le : d.key ≤ x). rw (le-ltb x d.key le) (small-upper x es hi a.1))
    (λ (gt : x < d.key). rw (lt-ltb x d.key gt)
    (⊎_elim
    (λ (n : (smallest (above x es) ≡ None) × (upper x es hi ≡ hi)).
    let dh = a.0 in let un = n.1 in
    inr (d, ap (smaller d) n.0 ∙ smaller-none d, omega arith, omega arith))
    (λ (s : (e : Entry) × (smallest (above x es) ≡ Some e) × (e.key ≡ upper x es hi) × (upper x es hi < hi)).
    let ek = s.2 in let eh = s.3 in let dh = a.0 in
    ⊎_elim
    (λ (c : (smaller d (Some s.0) ≡ Some s.0) × (s.0.key ≤ d.key)). let c1 = c.1 in inr (s.0, ap (smaller d) s.1 ∙ c.0, omega arith, omega arith))
    (λ (c : (smaller d (Some s.0) ≡ Some d) × (d.key < s.0.key)). let c1 = c.1 in inr (d, ap (smaller d) s.1 ∙ c.0, omega arith, omega arith))
    (smaller-pick d s.0))
    (small-upper x es hi a.1)))
    (le-or-lt d.key x)

small-append-none : (ls bs : List Entry) → smallest bs ≡ None → smallest (ls ++ bs) ≡ smallest ls
unfolding smallest
small-append-none [] bs q = q
small-append-none (a ∷ ls) bs q = ap (smaller a) (small-append-none ls bs q)

small-append-some : (ls bs : List Entry) (e : Entry) → smallest bs ≡ Some e → All (λ a. e.key ≤ a.key) ls → smallest (ls ++ bs) ≡ Some e
unfolding smallest smaller
small-append-some [] bs e q a = q
small-append-some (d ∷ ls) bs e q a = ap (smaller d) (small-append-some ls bs e q a.1) ∙ rw (le-leb e.key d.key a.0)

no_index : (x t : ℕ) (es : List Entry) → only is_index es ≡ [] → smallest (above x (left t (only is_index es ++ []))) ≡ None
unfolding smallest only left
no_index x t es e = ap (λ z. smallest (above x (left t (z ++ [])))) e

least-up : (x t : ℕ) (es rest : List Entry) (high hi : ℕ) → left t es ≡ es → only is_index es ≡ es → All (λ e. e.key < hi) es
    → Least x (left t rest) high (upper x es hi) → Least x (left t (only is_index es ++ rest)) high hi
unfolding left
least-up x t es rest high hi le ix bound l =
    rw (ix, only-append (λ e. leb e.stamp t) es rest, le, only-append (λ e. ltb x e.key) es (left t rest))
    (⊎_elim
    (λ (n : (smallest (above x (left t rest)) ≡ None) × (high ≡ upper x es hi)).
    let n1 = n.1 in
    ⊎_elim
    (λ (m : (smallest (above x es) ≡ None) × (upper x es hi ≡ hi)). inl (small-append-none (above x es) (above x (left t rest)) n.0 ∙ m.0, n.1 ∙ m.1))
    (λ (m : (e : Entry) × (smallest (above x es) ≡ Some e) × (e.key ≡ upper x es hi) × (upper x es hi < hi)).
    let m3 = m.3 in
    inr (m.0, small-append-none (above x es) (above x (left t rest)) n.0 ∙ m.1, m.2 ∙ sym n.1, omega arith))
    (small-upper x es hi bound))
    (λ (s : (e : Entry) × (smallest (above x (left t rest)) ≡ Some e) × (e.key ≡ high) × (high < upper x es hi)).
    let ul = upper-le x es hi in let s2 = s.2 in let s3 = s.3 in
    inr (
      s.0,
      small-append-some (above x es) (above x (left t rest)) s.0 s.1
          (all_map (λ e. (x < e.key → upper x es hi ≤ e.key) × (ltb x e.key ≡ true)) (λ e. s.0.key ≤ e.key)
          (λ e z. let k = z.0 (ltb-true x e.key z.1) in omega arith) (above x es)
          (all_both (λ e. x < e.key → upper x es hi ≤ e.key) (λ e. ltb x e.key ≡ true) (above x es)
          (only-all (λ e. x < e.key → upper x es hi ≤ e.key) (λ e. ltb x e.key) es (upper-all x es hi)) (only-true (λ e. ltb x e.key) es))),
      s.2,
      omega arith,
    ))
    l)

-- where a walk to x ends: a data bucket for the keys from low up to high, and the smallest index key above x on the path is high
pub record Ends (g : ℕ → Option Entry) (t x lo hi : ℕ) (p : List Visit) : Type 0 where
  pub low : ℕ
  pub high : ℕ
  pub range : (lo ≤ low) × (low ≤ x) × (x < high) × (high ≤ hi)
  pub shape : Shape false low high (left t (data_of p))
  pub content : (y : ℕ) → low ≤ y → y < high → standing (copy_of y (left t (data_of p))) ≡ g y
  pub least : Least x (left t (index_on p)) high hi

pub tree-ends : (rd : Reading) (g : ℕ → Option Entry) (t : ℕ) → Early t rd → (h b lo hi : ℕ) → Tree rd g h b lo hi
    → (x : ℕ) → lo ≤ x → x < hi → (f : ℕ) → h < f → (p : List Visit) × (length p ≡ suc h) × (path rd t x f b lo ≡ Some p) × Ends g t x lo hi p
unfolding path go_in go met down_to data_of index_on
tree-ends rd g t early h b lo hi tr x p q zero lt = absurd (omega arith)
tree-ends rd g t early zero b lo hi tr x p q (suc f) lt =
    let es = tr.0 in
    let le = early b es tr.1 in
    let ix : only is_index es ≡ [] = only_none is_index es (all_map (Span false lo hi) (λ e. is_index e ≡ false) (λ e z. z.0) es tr.2.1) in (
      record { number = b; entries = es } ∷ [],
      refl,
      rw (tr.1, turn-data t x lo hi es tr.2),
      record {
        low = lo;
        high = hi;
        range = (omega arith, p, q, omega arith);
        shape = rw le tr.2;
        content = λ y a c. rw le (tr.3 y a c);
        least = inl (no_index x t es ix, refl);
      },
    )
tree-ends rd g t early (suc h) b lo hi tr x p q (suc f) lt =
    let es = tr.0 in
    let c = tr.3 x p q in
    let e = c.0 in
    let le = follow-le x es e c.1 in
    let span = follow-all (Span true lo hi) x es e tr.2.1 c.1 in
    let ul = upper-le x es hi in
    let ih = tree-ends rd g t early h e.value e.key (upper x es hi) c.2 x le (upper-gt x es hi q) f (omega arith) in
    let v : Visit = record { number = b; entries = es } in
    let en = ih.3 in
    let rg = en.range in
    let dc : data_of (v ∷ ih.0) ≡ data_of ih.0 = data-cons v ih.0 h ih.1 in
    let ix : only is_index es ≡ es = only-every is_index es (all_map (Span true lo hi) (λ z. is_index z ≡ true) (λ z w. w.0) es tr.2.1) in (
      v ∷ ih.0,
      ap suc ih.1,
      rw (tr.1, turn-index t x lo hi es tr.2, early b es tr.1, c.1, ih.2),
      record {
        low = en.low;
        high = en.high;
        range = (omega arith, rg.1, rg.2, omega arith);
        shape = rw dc en.shape;
        content = λ y i j. rw dc (en.content y i j);
        least = least-up x t es (index_on ih.0) en.high hi (early b es tr.1) ix
            (all_map (Span true lo hi) (λ z. z.key < hi) (λ z w. w.2) es tr.2.1) en.least;
      },
    )

pub ends-alike : (g : ℕ → Option Entry) (t x lo hi : ℕ) (p q : List Visit) → Alike t p q → Ends g t x lo hi p → Ends g t x lo hi q
ends-alike g t x lo hi p q a en =
    let d = alike-data t p q a in
    record {
      low = en.low;
      high = en.high;
      range = en.range;
      shape = subst (Shape false en.low en.high) d en.shape;
      content = λ y i j. ap (λ z. standing (copy_of y z)) (sym d) ∙ en.content y i j;
      least = subst (λ z. Least x z en.high hi) (alike-index t p q a) en.least;
    }

pub ends-ext : (g g' : ℕ → Option Entry) (t x lo hi : ℕ) (p : List Visit) → ((y : ℕ) → g y ≡ g' y) → Ends g t x lo hi p → Ends g' t x lo hi p
ends-ext g g' t x lo hi p same en =
    record { low = en.low; high = en.high; range = en.range; shape = en.shape; content = λ y i j. en.content y i j ∙ same y; least = en.least }

-- the bucket where the walk ends tells of x itself
pub ends-here : (g : ℕ → Option Entry) (t x lo hi : ℕ) (p : List Visit) → Ends g t x lo hi p → stands_on t x p ≡ g x
unfolding stands_on
ends-here g t x lo hi p en = let r = en.range in en.content x r.1 r.2
