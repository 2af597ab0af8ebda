-- The least key above x among entries, its last copy: the bib that stands next, or the bib to ask above again.
use mathlib.Core.Path.{◌≡◌, refl, ap, sym, ◌∙◌}
use mathlib.Core.Logic.{◌⊎◌, inl, inr, ⊎_elim}
use mathlib.Core.Bool.{Bool, true, false}
use Rattle.std.specs.Prelude.{Option, None, Some}
use mathlib.Core.List.{List, [], ◌∷◌}
use Prim.Native.Nat.{ℕ, ◌≤◌, ◌<◌}
use native.Mathlib.Omega.{arith}
use lib.Dec.{leb, ltb, eqb}
use borrow.Author.Tests.{leb-true, leb-false, le-leb, lt-leb, eq-eqb, ne_eqb, lt-ltb, le-ltb, ltb-true}
use Rattle.rules.specs.declared.Entry.{Entry}
use Rattle.rules.specs.Next.{lasts, standing_above}
use Rattle.rules.specs.Plain.{if, ◌&◌, only, last_of, smaller, smallest, is_none, keep_if}
use Rattle.rules.specs.Sector.{is_post}
use Rattle.rules.specs.Walk.{copy_of}
use Rattle.laws.proofs.Tools.{le-or-lt, eq-or-ne, bool_cases, none-some, and-true}

abbrev pub least_above : ℕ → List Entry → Option Entry
least_above x l = smallest (only (λ e. ltb x e.key) l)

-- no key of the list lies above x and not above y
Gap : ℕ → ℕ → List Entry → Type 0
Gap x y [] = Unit {0}
Gap x y (d ∷ l) = ((d.key ≤ x) ⊎ (y < d.key)) × Gap x y l

-- which of two is the smaller
smaller-none : (d : Entry) (r : Option Entry) → smaller d r ≡ None → ⊥
unfolding smaller
smaller-none d None q = none-some (sym q)
smaller-none d (Some m) q = ⊎_elim (λ (b : leb m.key d.key ≡ true). none-some (sym (rw b at q))) (λ (b : leb m.key d.key ≡ false). none-some (sym (rw b at q))) (bool_cases (leb m.key d.key))

Smaller : Entry → Option Entry → Entry → Type 0
Smaller d None e = e ≡ d
Smaller d (Some m) e = ((m.key ≤ d.key) × (e ≡ m)) ⊎ ((d.key < m.key) × (e ≡ d))

smaller-is : (d : Entry) (r : Option Entry) (e : Entry) → smaller d r ≡ Some e → Smaller d r e
unfolding smaller Smaller
smaller-is d None e q = cc
smaller-is d (Some m) e q =
    ⊎_elim (λ (b : leb m.key d.key ≡ true). let is = rw b at q in inl (leb-true m.key d.key b, cc))
    (λ (b : leb m.key d.key ≡ false). let is = rw b at q in inr (leb-false m.key d.key b, cc)) (bool_cases (leb m.key d.key))

-- the smallest of those that pass a test passes it
small-passes : (p : Entry → Bool) (l : List Entry) (s : Entry) → smallest (only p l) ≡ Some s → p s ≡ true
unfolding only smallest Smaller
small-passes p [] s q = absurd (none-some q)
small-passes p (d ∷ l) s q =
    ⊎_elim (λ (b : p d ≡ true). rest (λ m e. small-passes p l m e) (smallest (only p l)) refl b (smaller-is d (smallest (only p l)) s (rw b at q))) (λ (b : p d ≡ false). small-passes p l s (rw b at q)) (bool_cases (p d))
  where
    rest : ((m : Entry) → smallest (only p l) ≡ Some m → p m ≡ true) → (r : Option Entry) → smallest (only p l) ≡ r → p d ≡ true → Smaller d r s → p s ≡ true
    rest ih None e b is = rw is b
    rest ih (Some m) e b is = ⊎_elim (λ (v : (m.key ≤ d.key) × (s ≡ m)). rw v.1 (ih m e)) (λ (v : (d.key < m.key) × (s ≡ d)). rw v.1 b) is

pub least-over : (x : ℕ) (l : List Entry) (e : Entry) → least_above x l ≡ Some e → x < e.key
least-over x l e q = ltb-true x e.key (small-passes (λ d. ltb x d.key) l e q)

-- below the least key there is none
gap-none : (x y : ℕ) (l : List Entry) → least_above x l ≡ None → Gap x y l
unfolding Gap only smallest
gap-none x y [] q = tt
gap-none x y (d ∷ l) q =
    ⊎_elim (λ (le : d.key ≤ x). (inl le, gap-none x y l (rw (le-ltb x d.key le) at q))) (λ (lt : x < d.key). absurd (smaller-none d (least_above x l) (rw (lt-ltb x d.key lt) at q)))
    (le-or-lt d.key x)

gap-some : (x y : ℕ) (l : List Entry) (e : Entry) → least_above x l ≡ Some e → y < e.key → Gap x y l
unfolding Gap only smallest Smaller
gap-some x y [] e q lt = absurd (none-some q)
gap-some x y (d ∷ l) e q lt =
    ⊎_elim (λ (le : d.key ≤ x). (inl le, gap-some x y l e (rw (le-ltb x d.key le) at q) lt))
    (λ (over : x < d.key). here (λ m r. gap-some x y l m r) (least_above x l) refl (smaller-is d (least_above x l) e (rw (lt-ltb x d.key over) at q)))
    (le-or-lt d.key x)
  where
    here : ((m : Entry) → least_above x l ≡ Some m → y < m.key → Gap x y l) → (r : Option Entry) → least_above x l ≡ r → Smaller d r e → ((d.key ≤ x) ⊎ (y < d.key)) × Gap x y l
    here ih None r is = let k : e.key ≡ d.key = ap (λ (z : Entry). z.key) is in (inr (omega arith), gap-none x y l r)
    here ih (Some m) r is =
        ⊎_elim (λ (v : (m.key ≤ d.key) × (e ≡ m)). let k : e.key ≡ m.key = ap (λ (z : Entry). z.key) v.1 in (inr (omega (arith, v.0)), ih m r (omega arith)))
        (λ (v : (d.key < m.key) × (e ≡ d)). let k : e.key ≡ d.key = ap (λ (z : Entry). z.key) v.1 in (inr (omega arith), ih m r (omega (arith, v.0)))) is

-- whether a key has a copy
gap-only : (x y : ℕ) (l : List Entry) → Gap x y l → x < y → only (λ e. eqb e.key y) l ≡ []
unfolding Gap only
gap-only x y [] g lt = refl
gap-only x y (d ∷ l) g lt = rw (ne_eqb d.key y (λ (q : d.key ≡ y). ⊎_elim (λ (a : d.key ≤ x). omega arith) (λ (b : y < d.key). omega arith) g.0), gap-only x y l g.1 lt)

gap-copy : (x y : ℕ) (l : List Entry) → Gap x y l → x < y → is_none (copy_of y l) ≡ true
unfolding copy_of last_of is_none
gap-copy x y l g lt = rw (gap-only x y l g lt)

last_some : (e : Entry) (l : List Entry) → is_none (last_of (e ∷ l)) ≡ false
unfolding last_of is_none
last_some e [] = refl
last_some e (d ∷ l) = last_some d l

last_more : (b : Bool) (d : Entry) (l : List Entry) → is_none (last_of l) ≡ false → is_none (last_of (keep_if b d l)) ≡ false
last_more true d l q = last_some d l
last_more false d l q = q

copy-there : (x : ℕ) (l : List Entry) (e : Entry) → least_above x l ≡ Some e → is_none (copy_of e.key l) ≡ false
unfolding copy_of only smallest Smaller
copy-there x [] e q = absurd (none-some q)
copy-there x (d ∷ l) e q =
    ⊎_elim (λ (le : d.key ≤ x). more e (copy-there x l e (rw (le-ltb x d.key le) at q)))
    (λ (over : x < d.key). here (λ m r. copy-there x l m r) (least_above x l) refl (smaller-is d (least_above x l) e (rw (lt-ltb x d.key over) at q)))
    (le-or-lt d.key x)
  where
    more : (c : Entry) → is_none (last_of (only (λ z. eqb z.key c.key) l)) ≡ false → is_none (last_of (keep_if (eqb d.key c.key) d (only (λ z. eqb z.key c.key) l))) ≡ false
    more c q = last_more (eqb d.key c.key) d (only (λ z. eqb z.key c.key) l) q

    own : e ≡ d → is_none (last_of (keep_if (eqb d.key e.key) d (only (λ z. eqb z.key e.key) l))) ≡ false
    own is = rw (eq-eqb d.key e.key (ap (λ (z : Entry). z.key) (sym is))) (last_some d (only (λ z. eqb z.key e.key) l))

    here : ((m : Entry) → least_above x l ≡ Some m → is_none (copy_of m.key l) ≡ false) → (r : Option Entry) → least_above x l ≡ r → Smaller d r e → is_none (last_of (keep_if (eqb d.key e.key) d (only (λ z. eqb z.key e.key) l))) ≡ false
    here ih None r is = own is
    here ih (Some m) r is = ⊎_elim (λ (v : (m.key ≤ d.key) × (e ≡ m)). rw v.1 (more m (ih m r))) (λ (v : (d.key < m.key) × (e ≡ d)). own v.1) is

-- the bib that stands next above z, one entry more in front
abbrev wanted : ℕ → Entry → Bool
wanted z e = is_post e & ltb z e.key

module _ (z : ℕ) (d : Entry) (l : List Entry) where
  stand-gone : is_none (copy_of d.key l) ≡ false → standing_above z (d ∷ l) ≡ standing_above z l
  unfolding standing_above lasts
  stand-gone b = rw b

  stand-out : wanted z d ≡ false → standing_above z (d ∷ l) ≡ standing_above z l
  unfolding standing_above lasts only
  stand-out w = go (is_none (copy_of d.key l))
    where
      go : (b : Bool) → smallest (only (wanted z) (keep_if b d (lasts l))) ≡ smallest (only (wanted z) (lasts l))
      go true = rw w
      go false = refl

  stand-in : is_none (copy_of d.key l) ≡ true → wanted z d ≡ true → standing_above z (d ∷ l) ≡ smaller d (standing_above z l)
  unfolding standing_above lasts only smallest
  stand-in b w = rw (b, w)

and-false : (a b : Bool) → b ≡ false → a & b ≡ false
and-false true b q = q
and-false false b q = refl

not-over : (z : ℕ) (d : Entry) → d.key ≤ z → wanted z d ≡ false
not-over z d le = and-false (is_post d) (ltb z d.key) (le-ltb z d.key le)

over_post : (z : ℕ) (d : Entry) (b : Bool) → z < d.key → is_post d ≡ b → wanted z d ≡ b
over_post z d true lt p = rw (p, lt-ltb z d.key lt)
over_post z d false lt p = rw p

-- the same bib stands next above x and above y
gap-test : (x y : ℕ) (d : Entry) → (d.key ≤ x) ⊎ (y < d.key) → x ≤ y → wanted x d ≡ wanted y d
gap-test x y d g le =
    ⊎_elim (λ (a : d.key ≤ x). not-over x d a ∙ sym (not-over y d (omega arith)))
    (λ (b : y < d.key). over_post x d (is_post d) (omega arith) refl ∙ sym (over_post y d (is_post d) b refl)) g

keep_same : (x y : ℕ) (d : Entry) (l : List Entry) (b : Bool) → wanted x d ≡ wanted y d → only (wanted x) l ≡ only (wanted y) l
    → only (wanted x) (keep_if b d l) ≡ only (wanted y) (keep_if b d l)
unfolding only
keep_same x y d l true test same = rw (test, same)
keep_same x y d l false test same = same

gap_same : (x y : ℕ) (l : List Entry) → Gap x y l → x ≤ y → only (wanted x) (lasts l) ≡ only (wanted y) (lasts l)
unfolding Gap lasts only
gap_same x y [] g le = refl
gap_same x y (d ∷ l) g le = keep_same x y d (lasts l) (is_none (copy_of d.key l)) (gap-test x y d g.0 le) (gap_same x y l g.1 le)

gap-stand : (x y : ℕ) (l : List Entry) → Gap x y l → x ≤ y → standing_above x l ≡ standing_above y l
unfolding standing_above
gap-stand x y l g le = ap smallest (gap_same x y l g le)

pub stand-none : (x : ℕ) (l : List Entry) → least_above x l ≡ None → standing_above x l ≡ None
unfolding only smallest standing_above lasts
stand-none x [] q = nothing x
  where
    nothing : (z : ℕ) → standing_above z [] ≡ None
    nothing z = refl
stand-none x (d ∷ l) q =
    ⊎_elim (λ (le : d.key ≤ x). stand-out x d l (not-over x d le) ∙ stand-none x l (rw (le-ltb x d.key le) at q))
    (λ (lt : x < d.key). absurd (smaller-none d (least_above x l) (rw (lt-ltb x d.key lt) at q)))
    (le-or-lt d.key x)

stand-over : (z : ℕ) (l : List Entry) (s : Entry) → standing_above z l ≡ Some s → z < s.key
unfolding standing_above
stand-over z l s q = ltb-true z s.key (and-true (is_post s) (ltb z s.key) (small-passes (wanted z) (lasts l) s q)).1

-- in front of those that stand above its own key
in-front : (d : Entry) (l : List Entry) (r : Option Entry) → standing_above d.key l ≡ r → smaller d r ≡ Some d
unfolding smaller
in-front d l None q = refl
in-front d l (Some s) q = rw (lt-leb s.key d.key (stand-over d.key l s q))

-- the least key above x stands if its last copy is a post; else none stands up to it
pub least-stands : (x : ℕ) (l : List Entry) (e : Entry) → least_above x l ≡ Some e → standing_above x l ≡ if (is_post e) (Some e) (standing_above e.key l)
unfolding only smallest smaller Smaller
least-stands x [] e q = absurd (none-some q)
least-stands x (d ∷ l) e q =
    ⊎_elim
    (λ (le : d.key ≤ x).
    let q' = rw (le-ltb x d.key le) at q in
    let past = stand-out e.key d l (not-over e.key d (omega (arith, least-over x l e q'))) in
    rw past (stand-out x d l (not-over x d le) ∙ least-stands x l e q'))
    (λ (over : x < d.key). here (λ m r. least-stands x l m r) over (least_above x l) refl (smaller-is d (least_above x l) e (rw (lt-ltb x d.key over) at q)))
    (le-or-lt d.key x)
  where
    -- it is the one in front
    own : x < d.key → Gap x d.key l → standing_above x (d ∷ l) ≡ if (is_post d) (Some d) (standing_above d.key (d ∷ l))
    own over g =
        let alike = gap-stand x d.key l g (omega arith) in
        ⊎_elim
        (λ (p : is_post d ≡ true).
        rw p (stand-in x d l (gap-copy x d.key l g over) (over_post x d true over p) ∙ ap (smaller d) alike ∙ in-front d l (standing_above d.key l) refl))
        (λ (p : is_post d ≡ false). rw p (stand-out x d l (over_post x d false over p) ∙ alike ∙ sym (stand-out d.key d l (not-over d.key d (omega arith)))))
        (bool_cases (is_post d))

    -- it is behind, and the one in front has a larger key
    behind : (m : Entry) → x < d.key → standing_above x l ≡ if (is_post m) (Some m) (standing_above m.key l) → m.key < d.key → standing_above x (d ∷ l) ≡ if (is_post m) (Some m) (standing_above m.key (d ∷ l))
    behind m over ih lt =
        ⊎_elim
        (λ (b : is_none (copy_of d.key l) ≡ true).
        ⊎_elim
        (λ (p : is_post d ≡ true).
        rw (stand-in x d l b (over_post x d true over p), stand-in m.key d l b (over_post m.key d true lt p), ih) (kept (is_post m)))
        (λ (p : is_post d ≡ false). rw (stand-out x d l (over_post x d false over p), stand-out m.key d l (over_post m.key d false lt p)) ih)
        (bool_cases (is_post d)))
        (λ (b : is_none (copy_of d.key l) ≡ false). rw (stand-gone x d l b, stand-gone m.key d l b) ih)
        (bool_cases (is_none (copy_of d.key l)))
      where
        kept : (post : Bool) → smaller d (if post (Some m) (standing_above m.key l)) ≡ if post (Some m) (smaller d (standing_above m.key l))
        kept true = rw (le-leb m.key d.key (omega arith))
        kept false = refl

    here : ((m : Entry) → least_above x l ≡ Some m → standing_above x l ≡ if (is_post m) (Some m) (standing_above m.key l)) → x < d.key → (r : Option Entry) → least_above x l ≡ r → Smaller d r e → standing_above x (d ∷ l) ≡ if (is_post e) (Some e) (standing_above e.key (d ∷ l))
    here ih over None r is = rw is (own over (gap-none x d.key l r))
    here ih over (Some m) r is =
        ⊎_elim
        (λ (v : (m.key ≤ d.key) × (e ≡ m)).
        rw v.1
        (⊎_elim
        (λ (same : m.key ≡ d.key).
        let b : is_none (copy_of d.key l) ≡ false = ap (λ (k : ℕ). is_none (copy_of k l)) (sym same) ∙ copy-there x l m r in
        rw (stand-gone x d l b, stand-gone m.key d l b) (ih m r))
        (λ (other : m.key ≡ d.key → ⊥). behind m over (ih m r) (omega (arith, v.0)))
        (eq-or-ne m.key d.key)))
        (λ (v : (d.key < m.key) × (e ≡ d)). rw v.1 (own over (gap-some x d.key l m r v.0)))
        is
