-- Entries of a bucket: what one more at the end changes in the last copy of a key and in the entry to follow.
use mathlib.Core.Path.{◌≡◌, refl, ap, ap₂, sym, ◌∙◌, subst}
use mathlib.Core.Logic.{⊎_elim}
use mathlib.Core.Bool.{Bool, true, false}
use Rattle.std.specs.Prelude.{Option, None, Some}
use Prim.Native.Nat.{ℕ, ◌≤◌, ◌<◌, min}
use native.Mathlib.Omega.{arith}
use mathlib.Core.List.{List, [], ◌∷◌, ◌++◌, append-nil}
use lib.Dec.{leb, ltb, eqb}
use borrow.Author.Tests.{leb-true, leb-false, lt-ltb, le-ltb, le-leb, lt-leb, eq-eqb, ne_eqb}
use Rattle.rules.specs.declared.Entry.{Entry}
use Rattle.rules.specs.Plain.{if, keep_if, only, last_of, larger, largest}
use Rattle.rules.specs.Walk.{follow, copy_of}
use Rattle.laws.proofs.Best.{Order, better, best, best-snoc}
use Rattle.laws.proofs.Tools.{none-some, le-or-lt, true-false}

keep_append : (b : Bool) (e : Entry) (xs ys : List Entry) → keep_if b e (xs ++ ys) ≡ keep_if b e xs ++ ys
keep_append true e xs ys = refl
keep_append false e xs ys = refl

pub only-append : (p : Entry → Bool) (xs ys : List Entry) → only p (xs ++ ys) ≡ only p xs ++ only p ys
unfolding only
only-append p [] ys = refl
only-append p (x ∷ xs) ys = ap (keep_if (p x) x) (only-append p xs ys) ∙ keep_append (p x) x (only p xs) (only p ys)

pub last_snoc : (xs : List Entry) (e : Entry) → last_of (xs ++ (e ∷ [])) ≡ Some e
unfolding last_of
last_snoc [] e = refl
last_snoc (x ∷ []) e = refl
last_snoc (x ∷ y ∷ xs) e = last_snoc (y ∷ xs) e

pub copy-snoc-same : (x : ℕ) (es : List Entry) (e : Entry) → e.key ≡ x → copy_of x (es ++ (e ∷ [])) ≡ Some e
unfolding copy_of only
copy-snoc-same x es e q =
    rw (only-append (λ d. eqb d.key x) es (e ∷ []), eq-eqb e.key x q) (last_snoc (only (λ d. eqb d.key x) es) e)

pub copy-snoc-other : (x : ℕ) (es : List Entry) (e : Entry) → (e.key ≡ x → ⊥) → copy_of x (es ++ (e ∷ [])) ≡ copy_of x es
unfolding copy_of only
copy-snoc-other x es e q =
    rw (only-append (λ d. eqb d.key x) es (e ∷ []), ne_eqb e.key x q) (ap last_of (append-nil (only (λ d. eqb d.key x) es)))

-- the larger key, of one key the later copy
abbrev upward : Entry → Entry → Bool
upward d p = leb d.key p.key

abbrev pub top : Option Entry → Entry → Entry
top = best upward

upward-order : Order upward
upward-order = record {
  taken = λ e d p ed dp. le-leb e.key p.key (omega (arith, leb-true e.key d.key ed, leb-true d.key p.key dp));
  left = λ e d p ed dp. lt-leb e.key p.key (omega (arith, leb-false e.key d.key ed, leb-false d.key p.key dp));
}

larger-better : (e : Entry) (r : Option Entry) → larger e r ≡ better upward e r
unfolding larger
larger-better e None = refl
larger-better e (Some d) = refl

largest-snoc : (es : List Entry) (p : Entry) → largest (es ++ (p ∷ [])) ≡ Some (top (largest es) p)
unfolding largest
largest-snoc = best-snoc upward upward-order largest refl (λ e es. larger-better e (largest es))

pub follow-snoc-in : (x : ℕ) (es : List Entry) (p : Entry) → p.key ≤ x → follow x (es ++ (p ∷ [])) ≡ Some (top (follow x es) p)
unfolding follow only
follow-snoc-in x es p le =
    rw (only-append (λ d. leb d.key x) es (p ∷ []), le-leb p.key x le) (largest-snoc (only (λ d. leb d.key x) es) p)

pub follow-snoc-out : (x : ℕ) (es : List Entry) (p : Entry) → x < p.key → follow x (es ++ (p ∷ [])) ≡ follow x es
unfolding follow only
follow-snoc-out x es p lt =
    rw (only-append (λ d. leb d.key x) es (p ∷ []), lt-leb p.key x lt) (ap largest (append-nil (only (λ d. leb d.key x) es)))

-- the smaller of hi and the smallest key above x
abbrev pub cut : Bool → ℕ → ℕ → ℕ
cut true k u = min k u
cut false k u = u

unfoldable pub upper : ℕ → List Entry → ℕ → ℕ
upper x [] hi = hi
upper x (e ∷ es) hi = cut (ltb x e.key) e.key (upper x es hi)

cut-le : (b : Bool) (k u : ℕ) → cut b k u ≤ u
cut-le true k u = omega arith
cut-le false k u = omega arith

pub upper-le : (x : ℕ) (es : List Entry) (hi : ℕ) → upper x es hi ≤ hi
unfolding upper
upper-le x [] hi = omega arith
upper-le x (e ∷ es) hi = omega (arith, cut-le (ltb x e.key) e.key (upper x es hi), upper-le x es hi)

pub upper-gt : (x : ℕ) (es : List Entry) (hi : ℕ) → x < hi → x < upper x es hi
unfolding upper
upper-gt x [] hi lt = lt
upper-gt x (e ∷ es) hi lt =
    ⊎_elim
    (λ le. rw (le-ltb x e.key le) (upper-gt x es hi lt))
    (λ gt. rw (lt-ltb x e.key gt) (let ih = upper-gt x es hi lt in omega arith))
    (le-or-lt e.key x)

pub upper-append : (x : ℕ) (es new : List Entry) (hi : ℕ) → upper x (es ++ new) hi ≡ upper x es (upper x new hi)
unfolding upper
upper-append x [] new hi = refl
upper-append x (e ∷ es) new hi = ap (cut (ltb x e.key) e.key) (upper-append x es new hi)

-- P holds of every entry
abbrev pub All : (Entry → Type 0) → List Entry → Type 0
All P [] = Unit {0}
All P (e ∷ es) = P e × All P es

pub all_map : (P Q : Entry → Type 0) → ((e : Entry) → P e → Q e) → (es : List Entry) → All P es → All Q es
all_map P Q f [] a = tt
all_map P Q f (e ∷ es) a = (f e a.0, all_map P Q f es a.1)

pub all_both : (P Q : Entry → Type 0) (es : List Entry) → All P es → All Q es → All (λ e. P e × Q e) es
all_both P Q [] a b = tt
all_both P Q (e ∷ es) a b = ((a.0, b.0), all_both P Q es a.1 b.1)

pub all_append : (P : Entry → Type 0) (xs ys : List Entry) → All P xs → All P ys → All P (xs ++ ys)
all_append P [] ys a b = b
all_append P (x ∷ xs) ys a b = (a.0, all_append P xs ys a.1 b)

pub all_left : (P : Entry → Type 0) (ls bs : List Entry) → All P (ls ++ bs) → All P ls
all_left P [] bs a = tt
all_left P (e ∷ ls) bs a = (a.0, all_left P ls bs a.1)

pub all_right : (P : Entry → Type 0) (ls bs : List Entry) → All P (ls ++ bs) → All P bs
all_right P [] bs a = a
all_right P (e ∷ ls) bs a = all_right P ls bs a.1

pub only-all : (P : Entry → Type 0) (q : Entry → Bool) (es : List Entry) → All P es → All P (only q es)
unfolding only
only-all P q [] a = tt
only-all P q (e ∷ es) a =
    elim (q e) as (λ b. All P (keep_if b e (only q es))) [ true ↦ (a.0, only-all P q es a.1) | false ↦ only-all P q es a.1 ]

pub only-true : (q : Entry → Bool) (es : List Entry) → All (λ e. q e ≡ true) (only q es)
unfolding only
only-true q [] = tt
only-true q (e ∷ es) =
    let go : (b : Bool) → q e ≡ b → All (λ d. q d ≡ true) (keep_if b e (only q es))
    = λ b. elim b as (λ b. q e ≡ b → All (λ d. q d ≡ true) (keep_if b e (only q es))) [ true ↦ λ t. (t, only-true q es) | false ↦ λ t. only-true q es ] in
    go (q e) refl

-- what holds of all entries but of those that fail the test too, holds of all
pub only-back : (P : Entry → Type 0) (q : Entry → Bool) (es : List Entry) → All P (only q es) → All (λ e. q e ≡ true → P e) es
unfolding only
only-back P q [] a = tt
only-back P q (e ∷ es) a =
    let go : (b : Bool) → q e ≡ b → All P (keep_if b e (only q es)) → (q e ≡ true → P e) × All (λ d. q d ≡ true → P d) es
    = λ b. elim b as (λ b. q e ≡ b → All P (keep_if b e (only q es)) → (q e ≡ true → P e) × All (λ d. q d ≡ true → P d) es) [
      | true ↦ λ t k. ((λ u. k.0), only-back P q es k.1)
      | false ↦ λ t k. ((λ u. absurd (true-false (sym u ∙ t))), only-back P q es k)
    ] in
    go (q e) refl a

larger-inv : (P : Entry → Type 0) (e : Entry) (r : Option Entry) (d : Entry) → P e → ((c : Entry) → r ≡ Some c → P c) → larger e r ≡ Some d → P d
unfolding larger
larger-inv P e None d pe pr q = let ed : e ≡ d = cc in subst P ed pe
larger-inv P e (Some c) d pe pr q =
    let go : (b : Bool) → if b (Some c) (Some e) ≡ Some d → P d
    = λ b. elim b as (λ b. if b (Some c) (Some e) ≡ Some d → P d) [
      | true ↦ λ t. (let cd : c ≡ d = cc in subst P cd (pr c refl))
      | false ↦ λ t. (let ed : e ≡ d = cc in subst P ed pe)
    ] in
    go (leb e.key c.key) q

largest-all : (P : Entry → Type 0) (es : List Entry) (d : Entry) → All P es → largest es ≡ Some d → P d
unfolding largest
largest-all P [] d a q = absurd (none-some q)
largest-all P (e ∷ es) d a q = larger-inv P e (largest es) d a.0 (λ c t. largest-all P es c a.1 t) q

pub larger-some : (e : Entry) (r : Option Entry) → larger e r ≡ None → ⊥
unfolding larger
larger-some e None q = none-some (sym q)
larger-some e (Some c) q =
    let go : (b : Bool) → if b (Some c) (Some e) ≡ None → ⊥
    = λ b. elim b as (λ b. if b (Some c) (Some e) ≡ None → ⊥) [ true ↦ λ t. none-some (sym t) | false ↦ λ t. none-some (sym t) ] in
    go (leb e.key c.key) q

largest-none : (P : Entry → Type 0) (es : List Entry) → largest es ≡ None → All P es
unfolding largest
largest-none P [] q = tt
largest-none P (e ∷ es) q = absurd (larger-some e (largest es) q)

larger-ge : (e : Entry) (r : Option Entry) (d : Entry) → larger e r ≡ Some d → (e.key ≤ d.key) × ((c : Entry) → r ≡ Some c → c.key ≤ d.key)
unfolding larger
larger-ge e None d q =
    let ed : e.key ≡ d.key = ap (λ z. z.key) (let z : e ≡ d = cc in z) in
    (omega arith, λ c t. absurd (none-some t))
larger-ge e (Some b) d q =
    ⊎_elim
    (λ le. let t : Some b ≡ Some d = rw (le-leb e.key b.key le) at q in
    let bd : b.key ≡ d.key = ap (λ z. z.key) (let z : b ≡ d = cc in z) in
    (omega arith, λ c u. let cb : b.key ≡ c.key = ap (λ z. z.key) (let z : b ≡ c = cc in z) in omega arith))
    (λ gt. let t : Some e ≡ Some d = rw (lt-leb e.key b.key gt) at q in
    let ed : e.key ≡ d.key = ap (λ z. z.key) (let z : e ≡ d = cc in z) in
    (omega arith, λ c u. let cb : b.key ≡ c.key = ap (λ z. z.key) (let z : b ≡ c = cc in z) in omega arith))
    (le-or-lt e.key b.key)

largest-ge : (es : List Entry) (d : Entry) → largest es ≡ Some d → All (λ e. e.key ≤ d.key) es
unfolding largest
largest-ge [] d q = tt
largest-ge (e ∷ es) d q =
    let g = larger-ge e (largest es) d q in
    let go : (r : Option Entry) → largest es ≡ r → All (λ c. c.key ≤ d.key) es
    = λ r. elim r as (λ r. largest es ≡ r → All (λ c. c.key ≤ d.key) es) [
      | None ↦ λ t. largest-none (λ c. c.key ≤ d.key) es t
      | Some c ↦ λ t. (let cd = g.1 c t in all_map (λ z. z.key ≤ c.key) (λ z. z.key ≤ d.key) (λ z k. omega arith) es (largest-ge es c t))
    ] in
    (g.0, go (largest es) refl)

-- what the entry followed is
pub follow-all : (P : Entry → Type 0) (x : ℕ) (es : List Entry) (d : Entry) → All P es → follow x es ≡ Some d → P d
unfolding follow
follow-all P x es d a q = largest-all P (only (λ e. leb e.key x) es) d (only-all P (λ e. leb e.key x) es a) q

pub follow-le : (x : ℕ) (es : List Entry) (d : Entry) → follow x es ≡ Some d → d.key ≤ x
unfolding follow
follow-le x es d q =
    leb-true d.key x (largest-all (λ e. leb e.key x ≡ true) (only (λ e. leb e.key x) es) d (only-true (λ e. leb e.key x) es) q)

-- and no key lies between its own and x
pub follow-gap : (x : ℕ) (es : List Entry) (d : Entry) → follow x es ≡ Some d → All (λ e. e.key ≤ x → e.key ≤ d.key) es
unfolding follow
follow-gap x es d q =
    all_map (λ e. leb e.key x ≡ true → e.key ≤ d.key) (λ e. e.key ≤ x → e.key ≤ d.key)
    (λ e f le. f (le-leb e.key x le)) es
    (only-back (λ e. e.key ≤ d.key) (λ e. leb e.key x) es (largest-ge (only (λ e. leb e.key x) es) d q))

upper-same : (x y : ℕ) (es : List Entry) (hi : ℕ) → All (λ e. ltb x e.key ≡ ltb y e.key) es → upper x es hi ≡ upper y es hi
unfolding upper
upper-same x y [] hi a = refl
upper-same x y (e ∷ es) hi a = ap₂ (λ b u. cut b e.key u) a.0 (upper-same x y es hi a.1)

pub upper-follow : (x : ℕ) (es : List Entry) (d : Entry) (hi : ℕ) → follow x es ≡ Some d → upper x es hi ≡ upper d.key es hi
upper-follow x es d hi q =
    let le = follow-le x es d q in
    upper-same x d.key es hi
    (all_map (λ e. e.key ≤ x → e.key ≤ d.key) (λ e. ltb x e.key ≡ ltb d.key e.key)
    (λ e f. ⊎_elim
    (λ h. let k = f h in le-ltb x e.key h ∙ sym (le-ltb d.key e.key k))
    (λ h. lt-ltb x e.key h ∙ sym (lt-ltb d.key e.key (omega arith)))
    (le-or-lt e.key x))
    es (follow-gap x es d q))

pub upper-all : (x : ℕ) (es : List Entry) (hi : ℕ) → All (λ e. x < e.key → upper x es hi ≤ e.key) es
unfolding upper
upper-all x [] hi = tt
upper-all x (e ∷ es) hi = (
  (λ lt. rw (lt-ltb x e.key lt) (omega arith)),
  all_map (λ d. x < d.key → upper x es hi ≤ d.key) (λ d. x < d.key → cut (ltb x e.key) e.key (upper x es hi) ≤ d.key)
      (λ d f lt. let k = f lt in let c = cut-le (ltb x e.key) e.key (upper x es hi) in omega arith) es (upper-all x es hi),
)

pub upper-min : (x : ℕ) (es : List Entry) (k hi : ℕ) → upper x es (min k hi) ≡ min k (upper x es hi)
unfolding upper
upper-min x [] k hi = refl
upper-min x (e ∷ es) k hi =
    let ih = upper-min x es k hi in
    ⊎_elim
    (λ le. rw (le-ltb x e.key le) ih)
    (λ gt. rw (lt-ltb x e.key gt) (omega arith))
    (le-or-lt e.key x)

pub last-all : (P : Entry → Type 0) (es : List Entry) (d : Entry) → All P es → last_of es ≡ Some d → P d
unfolding last_of
last-all P [] d a q = absurd (none-some q)
last-all P (e ∷ []) d a q = let ed : e ≡ d = cc in subst P ed a.0
last-all P (e ∷ c ∷ es) d a q = last-all P (c ∷ es) d a.1 q

pub copy-all : (P : Entry → Type 0) (x : ℕ) (es : List Entry) (d : Entry) → All P es → copy_of x es ≡ Some d → P d
unfolding copy_of
copy-all P x es d a q = last-all P (only (λ e. eqb e.key x) es) d (only-all P (λ e. eqb e.key x) es a) q
