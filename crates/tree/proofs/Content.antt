-- What the entries of a bucket hold, for a data and an index bucket alike.
use mathlib.Core.Path.{◌∙◌, ◌≡◌, ap, refl, subst, sym}
use mathlib.Core.Logic.{inr}
use mathlib.Core.Bool.{Bool, false, not, true}
use Rattle.std.specs.Prelude.{Option, Some}
use Prim.Native.Nat.{◌<◌, ◌≤◌, suc, zero, ℕ}
use native.Mathlib.Omega.{arith}
use mathlib.Core.List.{List, [], ◌++◌, ◌∷◌}
use lib.Dec.{eqb}
use borrow.Author.Tests.{eqb-true, le-leb}
use Rattle.rules.specs.declared.Entry.{Entry}
use Rattle.rules.specs.Bucket.{joins, sound_bucket}
use Rattle.rules.specs.Plain.{◌or◌, every, only}
use Rattle.rules.specs.Rewrite.{kept, last_copies}
use Rattle.rules.specs.Sector.{is_index, is_post}
use Rattle.rules.specs.Walk.{copy_of, follow, standing}
use Rattle.laws.proofs.Tools.{true-and, true-false}
use Rattle.laws.proofs.Lists.{All, all_map, follow-gap, follow-le, upper, upper-gt}
use Rattle.laws.proofs.Copies.{Says, copies-says}
use Rattle.laws.proofs.Halves.{Sorted, copies-all, copies-sorted, copy-high, copy-low, follow-high, follow-low, follow-some, only-every, standing-only, upper-high, upper-low, sorted-low, sorted-high}
use Rattle.tree.proofs.Tree.{Kids, Reading, Shape, Span, Tree, tree-frame, tree-fresh}

abbrev pub is_idx : ℕ → Bool
is_idx zero = false
is_idx (suc k) = true

abbrev pub Content : Reading → (ℕ → Option Entry) → ℕ → List Entry → ℕ → ℕ → Type 0
Content rd g zero es lo hi = (x : ℕ) → lo ≤ x → x < hi → standing (copy_of x es) ≡ g x
Content rd g (suc k) es lo hi = Kids rd g k es lo hi

pub tree-make : (rd : Reading) (g : ℕ → Option Entry) (k b lo hi : ℕ) (es : List Entry)
    → rd b ≡ Some es → Shape (is_idx k) lo hi es → Content rd g k es lo hi → Tree rd g k b lo hi
tree-make rd g zero b lo hi es r s c = (es, r, s, c)
tree-make rd g (suc k) b lo hi es r s c = (es, r, s, c)

pub tree-parts : (rd : Reading) (g : ℕ → Option Entry) (k b lo hi : ℕ) → Tree rd g k b lo hi
    → (es : List Entry) × (rd b ≡ Some es) × Shape (is_idx k) lo hi es × Content rd g k es lo hi
tree-parts rd g zero b lo hi tr = tr
tree-parts rd g (suc k) b lo hi tr = tr

-- a list that says the same has the same content
content-says : (rd : Reading) (g : ℕ → Option Entry) (k lo hi : ℕ) (ls bs : List Entry) → Says ls bs → Content rd g k bs lo hi
    → Content rd g k ls lo hi
content-says rd g zero lo hi ls bs s c = λ x p q. ap standing (s.copies x) ∙ c x p q
content-says rd g (suc k) lo hi ls bs s c = λ x p q.
    let d = c x p q in (d.0, s.follows x ∙ d.1, rw (s.uppers x hi) d.2)

-- what is kept says what stands
keeps : ℕ → ℕ → Entry → Bool
unfolding kept
keeps hk s e = not (eqb e.kind 2) or eqb e.key hk or eqb e.stamp s

keeps-index : (hk s : ℕ) (e : Entry) → is_index e ≡ true → keeps hk s e ≡ true
unfolding keeps is_index
keeps-index hk s e i = rw (eqb-true e.kind 3 i)

keeps-post : (hk s : ℕ) (e : Entry) → keeps hk s e ≡ false → is_post e ≡ false
unfolding keeps is_post
keeps-post hk s e f = go (eqb e.kind 2) refl f
  where
    go : (b : Bool) → eqb e.kind 2 ≡ b → not b or eqb e.key hk or eqb e.stamp s ≡ false → eqb e.kind 1 ≡ false
    go true t z = rw (eqb-true e.kind 2 t)
    go false t z = absurd (true-false z)

pub content-kept : (rd : Reading) (g : ℕ → Option Entry) (k lo hi hk s : ℕ) (es : List Entry) → Shape (is_idx k) lo hi es
    → Content rd g k es lo hi → Content rd g k (kept hk s es) lo hi
unfolding kept keeps
content-kept rd g zero lo hi hk s es sh c =
    let c1 = content-says rd g zero lo hi (last_copies es) es (copies-says es) c in
    λ x p q. standing-only (keeps hk s) x (last_copies es) (copies-sorted es)
    (all_map (Span false lo hi) (λ e. keeps hk s e ≡ false → is_post e ≡ false) (λ e z. keeps-post hk s e) (last_copies es) (copies-all (Span false lo hi) es sh.1)) ∙ c1 x p q
content-kept rd g (suc k) lo hi hk s es sh c =
    let c1 = content-says rd g (suc k) lo hi (last_copies es) es (copies-says es) c in
    let same : only (keeps hk s) (last_copies es) ≡ last_copies es = only-every (keeps hk s) (last_copies es)
    (all_map (Span true lo hi) (λ e. keeps hk s e ≡ true) (λ e z. keeps-index hk s e z.0) (last_copies es) (copies-all (Span true lo hi) es sh.1)) in
    subst (λ l. Content rd g (suc k) l lo hi) (sym same) c1

pub content-low : (rd : Reading) (g : ℕ → Option Entry) (k lo hi : ℕ) (ls : List Entry) (d : Entry) (bs : List Entry)
    → Sorted (ls ++ (d ∷ bs)) → d.key < hi → Content rd g k (ls ++ (d ∷ bs)) lo hi → Content rd g k ls lo d.key
content-low rd g zero lo hi ls d bs s dh c = λ x p q.
    sym (ap standing (copy-low x ls (d ∷ bs)
    ((λ z. omega arith), all_map (λ e. d.key < e.key) (λ e. e.key ≡ x → ⊥) (λ e l z. omega arith) bs (sorted-high ls d bs s)))) ∙ c x p (omega arith)
content-low rd g (suc k) lo hi ls d bs s dh c = λ x p q.
    let e = c x p (omega arith) in
    let f = follow-low x ls (d ∷ bs) (q, all_map (λ z. d.key < z.key) (λ z. x < z.key) (λ z l. omega arith) bs (sorted-high ls d bs s)) in
    (e.0, sym f ∙ e.1, rw (upper-low x ls d bs hi q dh (sorted-high ls d bs s)) at e.2)

pub content-high : (rd : Reading) (g : ℕ → Option Entry) (k lo hi : ℕ) (ls : List Entry) (d : Entry) (bs : List Entry)
    → Sorted (ls ++ (d ∷ bs)) → lo ≤ d.key → Content rd g k (ls ++ (d ∷ bs)) lo hi → Content rd g k (d ∷ bs) d.key hi
content-high rd g zero lo hi ls d bs s ld c = λ x p q.
    sym (ap standing (copy-high x ls (d ∷ bs) (all_map (λ e. e.key < d.key) (λ e. e.key ≡ x → ⊥) (λ e l z. omega arith) ls (sorted-low ls d bs s)))) ∙ c x (omega arith) q
content-high rd g (suc k) lo hi ls d bs s ld c = λ x p q.
    let e = c x (omega arith) q in
    let f = follow-some x d bs p in
    let df = (follow-gap x (d ∷ bs) f.0 f.1).0 p in
    let low = sorted-low ls d bs s in
    let w = follow-high x ls (d ∷ bs) f.0 f.1 (all_map (λ z. z.key < d.key) (λ z. z.key < f.0.key) (λ z l. omega arith) ls low) in
    let fe : follow x (d ∷ bs) ≡ Some e.0 = f.1 ∙ sym w ∙ e.1 in
    (e.0, fe, rw (upper-high x ls (d ∷ bs) hi (all_map (λ z. z.key < d.key) (λ z. z.key ≤ x) (λ z l. omega arith) ls low)) at e.2)

-- a shape is sound
every-all : (p : Entry → Bool) (es : List Entry) → All (λ e. p e ≡ true) es → every p es ≡ true
unfolding every
every-all p [] a = refl
every-all p (e ∷ es) a = true-and a.0 (every-all p es a.1)

joins-span : (i : Bool) (lo hi : ℕ) (h e : Entry) → is_index h ≡ i → h.key ≡ lo → Span i lo hi e → joins h e ≡ true
unfolding joins
joins-span true lo hi h e ih hk s = rw ih (true-and s.0 (le-leb h.key e.key (let z = s.1 in omega arith)))
joins-span false lo hi h e ih hk s = rw ih (true-and s.3 (le-leb h.key e.key (let z = s.1 in omega arith)))

pub shape-sound : (i : Bool) (lo hi : ℕ) (es : List Entry) → Shape i lo hi es → sound_bucket es ≡ Some es
unfolding sound_bucket
shape-sound i lo hi [] s = absurd s.0
shape-sound i lo hi (h ∷ es) s =
    rw (every-all (joins h) (h ∷ es) (all_map (Span i lo hi) (λ e. joins h e ≡ true) (λ e z. joins-span i lo hi h e s.1.0.0 s.0 z) (h ∷ es) s.1))

-- content in another reading
pub content-frame : (rd rd' : Reading) (g g' : ℕ → Option Entry) (c k m top : ℕ) → Tree rd g' k c m top → m < top
    → ((b : ℕ) (es : List Entry) → (b ≡ c → ⊥) → rd b ≡ Some es → rd' b ≡ Some es)
    → (lo hi : ℕ) (es : List Entry) → Content rd g k es lo hi → Content rd' g k es lo hi
content-frame rd rd' g g' c zero m top tc mt same lo hi es cn = cn
content-frame rd rd' g g' c (suc k) m top tc mt same lo hi es cn = λ x p q.
    let e = cn x p q in
    let le = follow-le x es e.0 e.1 in
    let u = upper-gt x es hi q in
    (e.0, e.1, tree-frame rd rd' g g' c (suc k) m top tc mt same k e.0.value e.0.key (upper x es hi) (omega arith) (inr (inr (omega arith))) e.2)

pub content-fresh : (rd rd' : Reading) (g : ℕ → Option Entry) → ((b : ℕ) (es : List Entry) → rd b ≡ Some es → rd' b ≡ Some es)
    → (k lo hi : ℕ) (es : List Entry) → Content rd g k es lo hi → Content rd' g k es lo hi
content-fresh rd rd' g same zero lo hi es cn = cn
content-fresh rd rd' g same (suc k) lo hi es cn = λ x p q.
    let e = cn x p q in (e.0, e.1, tree-fresh rd rd' g same k e.0.value e.0.key (upper x es hi) e.2)
