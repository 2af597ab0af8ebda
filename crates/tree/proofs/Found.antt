-- The smallest standing bib above k, in a list of entries.
use mathlib.Core.Path.{◌∙◌, ◌≡◌, ap, refl, subst, sym}
use mathlib.Core.Logic.{◌⊎◌, inl, inr, ⊎_elim}
use mathlib.Core.Bool.{Bool, false, true}
use Rattle.std.specs.Prelude.{Option, None, Some}
use Prim.Native.Nat.{◌<◌, ◌≤◌, ℕ}
use native.Mathlib.Omega.{arith}
use mathlib.Core.List.{List, [], ◌∷◌}
use lib.Dec.{eqb, ltb}
use borrow.Author.Tests.{eq-eqb, eqb-true, lt-ltb, ltb-true}
use Rattle.rules.specs.declared.Entry.{Entry}
use Rattle.rules.specs.Next.{lasts, standing_above}
use Rattle.rules.specs.Plain.{if, is_none, keep_if, last_of, only, smaller, smallest}
use Rattle.rules.specs.Sector.{is_post}
use Rattle.rules.specs.Walk.{copy_of, standing}
use Rattle.laws.proofs.Tools.{and-true, none-some, true-and, le-or-lt, eq-or-ne}
use Rattle.laws.proofs.Lists.{All, all_map, only-all, only-back, only-true, copy-all, last-all}
use Rattle.laws.proofs.Copies.{copy-cons, cstep}
use Rattle.laws.proofs.Tells.{smaller-pick, smallest-all, wants}

-- a copy has the key
copy_key : (x : ℕ) (es : List Entry) (e : Entry) → copy_of x es ≡ Some e → e.key ≡ x
unfolding copy_of
copy_key x es e q = eqb-true e.key x (last-all (λ d. eqb d.key x ≡ true) (only (λ d. eqb d.key x) es) e (only-true (λ d. eqb d.key x) es) q)

-- the last copies are those that are kept by `lasts`
lasts-is : (es : List Entry) → All (λ e. copy_of e.key es ≡ Some e) (lasts es)
unfolding lasts is_none
lasts-is [] = tt
lasts-is (d ∷ es) =
    let tail = all_map (λ e. copy_of e.key es ≡ Some e) (λ e. copy_of e.key (d ∷ es) ≡ Some e)
    (λ e q. copy-cons e.key d es ∙ ap (cstep (eqb d.key e.key) d) q ∙ keep (eqb d.key e.key) e) (lasts es) (lasts-is es) in
    let go : (r : Option Entry) → copy_of d.key es ≡ r → All (λ e. copy_of e.key (d ∷ es) ≡ Some e) (keep_if (is_none r) d (lasts es))
    = λ r. elim r as (λ r. copy_of d.key es ≡ r → All (λ e. copy_of e.key (d ∷ es) ≡ Some e) (keep_if (is_none r) d (lasts es))) [
      | None ↦ λ q. (copy-cons d.key d es ∙ rw (eq-eqb d.key d.key refl, q), tail)
      | Some c ↦ λ q. tail
    ] in
    go (copy_of d.key es) refl
  where
    keep : (b : Bool) (e : Entry) → cstep b d (Some e) ≡ Some e
    keep true e = refl
    keep false e = refl

lasts-all : (P : Entry → Type 0) (y : ℕ) (es : List Entry) (e : Entry) → All P (lasts es) → copy_of y es ≡ Some e → P e
unfolding lasts is_none copy_of only last_of
lasts-all P y [] e a q = absurd (none-some q)
lasts-all P y (d ∷ es) e a q =
    let q1 : cstep (eqb d.key y) d (copy_of y es) ≡ Some e = sym (copy-cons y d es) ∙ q in
    let rest : All P (lasts es) = tail_of (is_none (copy_of d.key es)) a in
    let go : (r : Option Entry) → copy_of y es ≡ r → cstep (eqb d.key y) d r ≡ Some e → P e
    = λ r. elim r as (λ r. copy_of y es ≡ r → cstep (eqb d.key y) d r ≡ Some e → P e) [
      | None ↦ λ z w. last-case z (eqb d.key y) refl w
      | Some c ↦ λ z w. lasts-all P y es e rest (z ∙ same (eqb d.key y) c w)
    ] in
    go (copy_of y es) refl q1
  where
    tail_of : (b : Bool) → All P (keep_if b d (lasts es)) → All P (lasts es)
    tail_of true x = x.1
    tail_of false x = x

    same : (b : Bool) (c : Entry) → cstep b d (Some c) ≡ Some e → Some c ≡ Some e
    same true c w = w
    same false c w = w

    first : (r : Option Entry) → copy_of d.key es ≡ r → r ≡ None → All P (keep_if (is_none r) d (lasts es)) → P d
    first None x z b = b.0
    first (Some c) x z b = absurd (none-some (sym z))

    last-case : copy_of y es ≡ None → (b : Bool) → eqb d.key y ≡ b → cstep b d None ≡ Some e → P e
    last-case z true t w =
        let de : d ≡ e = cc in
        subst P de (first (copy_of d.key es) refl (ap (λ k. copy_of k es) (eqb-true d.key y t) ∙ z) a)
    last-case z false t w = absurd (none-some w)

-- the smallest of a list
smaller-some : (e : Entry) (r : Option Entry) → smaller e r ≡ None → ⊥
unfolding smaller
smaller-some e None q = none-some (sym q)
smaller-some e (Some c) q = ⊎_elim (λ k. none-some (sym q ∙ k.0)) (λ k. none-some (sym q ∙ k.0)) (smaller-pick e c)

smallest-none : (P : Entry → Type 0) (es : List Entry) → smallest es ≡ None → All P es
unfolding smallest
smallest-none P [] q = tt
smallest-none P (e ∷ es) q = absurd (smaller-some e (smallest es) q)

smallest-le : (es : List Entry) (d : Entry) → smallest es ≡ Some d → All (λ e. d.key ≤ e.key) es
unfolding smallest smaller
smallest-le [] d q = tt
smallest-le (e ∷ es) d q =
    let go : (r : Option Entry) → smallest es ≡ r → smaller e r ≡ Some d → All (λ z. d.key ≤ z.key) (e ∷ es)
    = λ r. elim r as (λ r. smallest es ≡ r → smaller e r ≡ Some d → All (λ z. d.key ≤ z.key) (e ∷ es)) [
      | None ↦ λ z w. (le-key (some-eq w), smallest-none (λ y. d.key ≤ y.key) es z)
      | Some c ↦ λ z w. ⊎_elim
          (λ (k : (smaller e (Some c) ≡ Some c) × (c.key ≤ e.key)).
          let cd : Some c ≡ Some d = sym k.0 ∙ w in let ck : c.key ≡ d.key = ap (λ y. y.key) (let i : c ≡ d = cc in i) in let k1 = k.1 in
          (omega arith, all_map (λ y. c.key ≤ y.key) (λ y. d.key ≤ y.key) (λ y l. omega arith) es (smallest-le es c z)))
          (λ (k : (smaller e (Some c) ≡ Some e) × (e.key < c.key)).
          let ed : Some e ≡ Some d = sym k.0 ∙ w in let ek : e.key ≡ d.key = ap (λ y. y.key) (let i : e ≡ d = cc in i) in let k1 = k.1 in
          (omega arith, all_map (λ y. c.key ≤ y.key) (λ y. d.key ≤ y.key) (λ y l. omega arith) es (smallest-le es c z)))
          (smaller-pick e c)
    ] in
    go (smallest es) refl q
  where
    some-eq : smaller e None ≡ Some d → e ≡ d
    some-eq w = cc

    le-key : e ≡ d → d.key ≤ e.key
    le-key i = let k : e.key ≡ d.key = ap (λ y. y.key) i in omega arith

-- no one that is wanted has the key y: nothing stands there
nobody : (k y : ℕ) (es : List Entry) → k < y → All (λ e. wants k e ≡ true → e.key ≡ y → ⊥) (lasts es) → standing (copy_of y es) ≡ None
unfolding standing
nobody k y es ky a = go (copy_of y es) refl
  where
    go2 : (c : Entry) → copy_of y es ≡ Some c → (b : Bool) → is_post c ≡ b → if b (Some c) None ≡ None
    go2 c q true t =
        let ck = copy_key y es c q in
        absurd (lasts-all (λ e. wants k e ≡ true → e.key ≡ y → ⊥) y es c a q (true-and t (lt-ltb k c.key (omega arith))) ck)
    go2 c q false t = refl

    go : (r : Option Entry) → copy_of y es ≡ r → standing r ≡ None
    go None q = refl
    go (Some c) q = go2 c q (is_post c) refl

standing-post : (e : Entry) → is_post e ≡ true → standing (Some e) ≡ Some e
unfolding standing
standing-post e t = rw t

-- what next finds in one bucket
abbrev pub Found : (ℕ → Option Entry) → ℕ → ℕ → ℕ → Option Entry → Type 0
Found g k low high r =
    ((r ≡ None) × ((y : ℕ) → low ≤ y → y < high → k < y → g y ≡ None))
    ⊎ ((e : Entry) × (r ≡ Some e) × (k < e.key) × (e.key < high) × (g e.key ≡ Some e) × ((y : ℕ) → low ≤ y → k < y → y < e.key → g y ≡ None))

pub data-next : (g : ℕ → Option Entry) (k low high : ℕ) (es : List Entry) → All (λ e. (low ≤ e.key) × (e.key < high)) es
    → ((y : ℕ) → low ≤ y → y < high → standing (copy_of y es) ≡ g y) → Found g k low high (standing_above k es)
unfolding standing_above
data-next g k low high es bound content = go (smallest (only (wants k) (lasts es))) refl
  where
    is_some : (e : Entry) → is_post e ≡ true → standing (Some e) ≡ Some e
    is_some e t = standing-post e t

    go : (r : Option Entry) → smallest (only (wants k) (lasts es)) ≡ r → Found g k low high r
    go None q = inl (
      refl,
      λ y l h ky.
          sym (content y l h) ∙ nobody k y es ky
          (all_map (λ e. wants k e ≡ true → ⊥) (λ e. wants k e ≡ true → e.key ≡ y → ⊥) (λ e f w z. f w) (lasts es)
          (only-back (λ e. ⊥) (wants k) (lasts es) (smallest-none (λ e. ⊥) (only (wants k) (lasts es)) q))),
    )
    go (Some e) q =
        let w = smallest-all (λ d. wants k d ≡ true) (only (wants k) (lasts es)) e (only-true (wants k) (lasts es)) q in
        let c = smallest-all (λ d. copy_of d.key es ≡ Some d) (only (wants k) (lasts es)) e (only-all (λ d. copy_of d.key es ≡ Some d) (wants k) (lasts es) (lasts-is es)) q in
        let wp = and-true (is_post e) (ltb k e.key) w in
        let ke = ltb-true k e.key wp.1 in
        let b = copy-all (λ d. (low ≤ d.key) × (d.key < high)) e.key es e bound c in
        inr (
          e,
          refl,
          ke,
          b.1,
          sym (content e.key b.0 b.1) ∙ ap standing c ∙ is_some e wp.0,
          λ y l ky ye.
              let b1 = b.1 in
              sym (content y l (omega arith)) ∙ nobody k y es ky
              (all_map (λ d. wants k d ≡ true → e.key ≤ d.key) (λ d. wants k d ≡ true → d.key ≡ y → ⊥) (λ d f v z. let m = f v in omega arith) (lasts es)
              (only-back (λ d. e.key ≤ d.key) (wants k) (lasts es) (smallest-le (only (wants k) (lasts es)) e q))),
        )

-- that settles it
pub found-one : (g : ℕ → Option Entry) (k high : ℕ) (r q : Option Entry) → Found g k 0 high r → Found g k 0 high q → r ≡ q
found-one g k high r q (inl a) (inl b) = a.0 ∙ sym b.0
found-one g k high r q (inl a) (inr b) = absurd (none-some (sym (a.1 b.0.key (omega arith) b.3 b.2) ∙ b.4))
found-one g k high r q (inr a) (inl b) = absurd (none-some (sym (b.1 a.0.key (omega arith) a.3 a.2) ∙ a.4))
found-one g k high r q (inr a) (inr b) =
    ⊎_elim
    (λ (le : a.0.key ≤ b.0.key). ⊎_elim
    (λ (e : a.0.key ≡ b.0.key). a.1 ∙ sym a.4 ∙ ap g e ∙ b.4 ∙ sym b.1)
    (λ (n : a.0.key ≡ b.0.key → ⊥). absurd (none-some (sym (b.5 a.0.key (omega arith) a.2 (omega arith)) ∙ a.4)))
    (eq-or-ne a.0.key b.0.key))
    (λ (gt : b.0.key < a.0.key). absurd (none-some (sym (a.5 b.0.key (omega arith) b.2 gt) ∙ b.4)))
    (le-or-lt a.0.key b.0.key)

-- and only the bibs above k matter
pub found-ext : (g g' : ℕ → Option Entry) (k low high : ℕ) (r : Option Entry) → ((x : ℕ) → k < x → x < high → g x ≡ g' x) → Found g k low high r
    → Found g' k low high r
found-ext g g' k low high r same (inl a) = inl (a.0, λ y l h ky. sym (same y ky h) ∙ a.1 y l h ky)
found-ext g g' k low high r same (inr a) =
    let up = a.3 in
    inr (a.0, a.1, a.2, a.3, sym (same a.0.key a.2 a.3) ∙ a.4, λ y l ky ye. sym (same y ky (omega arith)) ∙ a.5 y l ky ye)
