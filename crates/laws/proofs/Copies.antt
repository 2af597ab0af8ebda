-- The last copies in key order: they say what the list says, and so do their two halves.
use mathlib.Core.Path.{◌∙◌, ◌≡◌, ap, refl, sym}
use mathlib.Core.Logic.{⊎_elim}
use mathlib.Core.Bool.{Bool, false, true}
use Rattle.std.specs.Prelude.{Option, None, Some}
use Prim.Native.Nat.{◌<◌, ℕ}
use native.Mathlib.Omega.{arith}
use mathlib.Core.List.{List, [], ◌∷◌}
use lib.Dec.{eqb, leb, ltb}
use borrow.Author.Tests.{eq-eqb, le-leb, le-ltb, lt-leb, lt-ltb, ne_eqb}
use Rattle.rules.specs.declared.Entry.{Entry}
use Rattle.rules.specs.Plain.{keep_if, larger, largest, last_of, only}
use Rattle.rules.specs.Rewrite.{insert, last_copies}
use Rattle.rules.specs.Walk.{copy_of, follow}
use Rattle.laws.proofs.Tools.{eq-or-ne, le-or-lt}
use Rattle.laws.proofs.Lists.{cut, upper}

-- one entry before a list
abbrev pub fstep : Bool → Entry → Option Entry → Option Entry
fstep true e r = larger e r
fstep false e r = r

pub follow-cons : (x : ℕ) (e : Entry) (es : List Entry) → follow x (e ∷ es) ≡ fstep (leb e.key x) e (follow x es)
unfolding follow only largest
follow-cons x e es =
    elim (leb e.key x) as (λ b. largest (keep_if b e (only (λ d. leb d.key x) es)) ≡ fstep b e (largest (only (λ d. leb d.key x) es)))
    [ true ↦ refl | false ↦ refl ]

abbrev pub cstep : Bool → Entry → Option Entry → Option Entry
cstep true e None = Some e
cstep true e (Some c) = Some c
cstep false e r = r

last_cons : (e : Entry) (l : List Entry) → last_of (e ∷ l) ≡ cstep true e (last_of l)
unfolding last_of
last_cons e [] = refl
last_cons e (d ∷ []) = refl
last_cons e (d ∷ c ∷ l) = last_cons d (c ∷ l) ∙ sym (ap (cstep true e) (last_cons d (c ∷ l)) ∙ absorb (last_of (c ∷ l)))
  where
    absorb : (r : Option Entry) → cstep true e (cstep true d r) ≡ cstep true d r
    absorb None = refl
    absorb (Some z) = refl

pub copy-cons : (x : ℕ) (e : Entry) (es : List Entry) → copy_of x (e ∷ es) ≡ cstep (eqb e.key x) e (copy_of x es)
unfolding copy_of only
copy-cons x e es =
    elim (eqb e.key x) as (λ b. last_of (keep_if b e (only (λ d. eqb d.key x) es)) ≡ cstep b e (last_of (only (λ d. eqb d.key x) es)))
    [ true ↦ last_cons e (only (λ d. eqb d.key x) es) | false ↦ refl ]

-- two lists that say the same
pub record Says (ls bs : List Entry) : Type 0 where
  pub follows : (x : ℕ) → follow x ls ≡ follow x bs
  pub copies : (x : ℕ) → copy_of x ls ≡ copy_of x bs
  pub uppers : (x hi : ℕ) → upper x ls hi ≡ upper x bs hi

says-refl : (ls : List Entry) → Says ls ls
says-refl ls = record { follows = λ x. refl; copies = λ x. refl; uppers = λ x hi. refl }

says-trans : {ls bs cs : List Entry} → Says ls bs → Says bs cs → Says ls cs
says-trans p q =
    record { follows = λ x. p.follows x ∙ q.follows x; copies = λ x. p.copies x ∙ q.copies x; uppers = λ x hi. p.uppers x hi ∙ q.uppers x hi }

says-cons : (e : Entry) {ls bs : List Entry} → Says ls bs → Says (e ∷ ls) (e ∷ bs)
unfolding upper
says-cons e {ls} {bs} p =
    record {
      follows = λ x. follow-cons x e ls ∙ ap (fstep (leb e.key x) e) (p.follows x) ∙ sym (follow-cons x e bs);
      copies = λ x. copy-cons x e ls ∙ ap (cstep (eqb e.key x) e) (p.copies x) ∙ sym (copy-cons x e bs);
      uppers = λ x hi. ap (cut (ltb x e.key) e.key) (p.uppers x hi);
    }

-- two entries of two keys change places
larger-swap : (e d : Entry) (r : Option Entry) → (e.key < d.key) → larger e (larger d r) ≡ larger d (larger e r)
unfolding larger
larger-swap e d None lt = simp (le-leb e.key d.key (omega arith), lt-leb d.key e.key lt)
larger-swap e d (Some c) lt =
    ⊎_elim
    (λ dc. simp (le-leb d.key c.key dc, le-leb e.key c.key (omega arith)))
    (λ cd. ⊎_elim
    (λ ec. simp (lt-leb d.key c.key cd, le-leb e.key c.key ec, le-leb e.key d.key (omega arith)))
    (λ ce. simp (lt-leb d.key c.key cd, lt-leb e.key c.key ce, le-leb e.key d.key (omega arith), lt-leb d.key e.key lt))
    (le-or-lt e.key c.key))
    (le-or-lt d.key c.key)

fstep-swap : (a b : Bool) (e d : Entry) (r : Option Entry) → (e.key < d.key) → fstep a e (fstep b d r) ≡ fstep b d (fstep a e r)
fstep-swap true true e d r lt = larger-swap e d r lt
fstep-swap true false e d r lt = refl
fstep-swap false true e d r lt = refl
fstep-swap false false e d r lt = refl

cstep-swap : (x : ℕ) (e d : Entry) (r : Option Entry) → (e.key < d.key)
    → cstep (eqb e.key x) e (cstep (eqb d.key x) d r) ≡ cstep (eqb d.key x) d (cstep (eqb e.key x) e r)
cstep-swap x e d r lt =
    ⊎_elim
    (λ q. rw (ne_eqb d.key x (λ z. omega arith)))
    (λ n. rw (ne_eqb e.key x n))
    (eq-or-ne e.key x)

cut-swap : (a b : Bool) (k l u : ℕ) → cut a k (cut b l u) ≡ cut b l (cut a k u)
cut-swap true true k l u = omega arith
cut-swap true false k l u = refl
cut-swap false true k l u = refl
cut-swap false false k l u = refl

says-swap : (e d : Entry) (es : List Entry) → e.key < d.key → Says (e ∷ d ∷ es) (d ∷ e ∷ es)
unfolding upper
says-swap e d es lt =
    record {
      follows = λ x. follow-cons x e (d ∷ es) ∙ ap (fstep (leb e.key x) e) (follow-cons x d es) ∙ fstep-swap (leb e.key x) (leb d.key x) e d (follow x es) lt
          ∙ sym (follow-cons x d (e ∷ es) ∙ ap (fstep (leb d.key x) d) (follow-cons x e es));
      copies = λ x. copy-cons x e (d ∷ es) ∙ ap (cstep (eqb e.key x) e) (copy-cons x d es) ∙ cstep-swap x e d (copy_of x es) lt
          ∙ sym (copy-cons x d (e ∷ es) ∙ ap (cstep (eqb d.key x) d) (copy-cons x e es));
      uppers = λ x hi. cut-swap (ltb x e.key) (ltb x d.key) e.key d.key (upper x es hi);
    }

says-sym : {ls bs : List Entry} → Says ls bs → Says bs ls
says-sym p = record { follows = λ x. sym (p.follows x); copies = λ x. sym (p.copies x); uppers = λ x hi. sym (p.uppers x hi) }

-- an earlier copy of a key says nothing
larger-absorb : (e d : Entry) (r : Option Entry) → e.key ≡ d.key → larger e (larger d r) ≡ larger d r
unfolding larger
larger-absorb e d None q = simp (le-leb e.key d.key (omega arith))
larger-absorb e d (Some c) q =
    ⊎_elim
    (λ dc. simp (le-leb d.key c.key dc, le-leb e.key c.key (omega arith)))
    (λ cd. simp (lt-leb d.key c.key cd, le-leb e.key d.key (omega arith)))
    (le-or-lt d.key c.key)

fstep-absorb : (b : Bool) (e d : Entry) (r : Option Entry) → e.key ≡ d.key → fstep b e (fstep b d r) ≡ fstep b d r
fstep-absorb true e d r q = larger-absorb e d r q
fstep-absorb false e d r q = refl

cstep-absorb : (b : Bool) (e d : Entry) (r : Option Entry) → cstep b e (cstep b d r) ≡ cstep b d r
cstep-absorb true e d None = refl
cstep-absorb true e d (Some c) = refl
cstep-absorb false e d r = refl

cut-absorb : (b : Bool) (k u : ℕ) → cut b k (cut b k u) ≡ cut b k u
cut-absorb true k u = omega arith
cut-absorb false k u = refl

says-absorb : (e d : Entry) (es : List Entry) → e.key ≡ d.key → Says (e ∷ d ∷ es) (d ∷ es)
unfolding upper
says-absorb e d es q =
    record {
      follows = λ x. follow-cons x e (d ∷ es) ∙ ap (fstep (leb e.key x) e) (follow-cons x d es)
          ∙ ap (λ k. fstep (leb k x) e (fstep (leb d.key x) d (follow x es))) q ∙ fstep-absorb (leb d.key x) e d (follow x es) q ∙ sym (follow-cons x d es);
      copies = λ x. copy-cons x e (d ∷ es) ∙ ap (cstep (eqb e.key x) e) (copy-cons x d es)
          ∙ ap (λ k. cstep (eqb k x) e (cstep (eqb d.key x) d (copy_of x es))) q ∙ cstep-absorb (eqb d.key x) e d (copy_of x es) ∙ sym (copy-cons x d es);
      uppers = λ x hi. ap (λ k. cut (ltb x k) k (cut (ltb x d.key) d.key (upper x es hi))) q ∙ cut-absorb (ltb x d.key) d.key (upper x es hi);
    }

insert-says : (e : Entry) (ds : List Entry) → Says (insert e ds) (e ∷ ds)
unfolding insert
insert-says e [] = says-refl (e ∷ [])
insert-says e (d ∷ ds) =
    ⊎_elim
    (λ de. ⊎_elim
    (λ q. rw (le-ltb e.key d.key de, eq-eqb e.key d.key q) (says-sym (says-absorb e d ds q)))
    (λ n. rw (le-ltb e.key d.key de, ne_eqb e.key d.key n)
    (says-trans (says-cons d (insert-says e ds)) (says-swap d e ds (omega arith))))
    (eq-or-ne e.key d.key))
    (λ ed. rw (lt-ltb e.key d.key ed) (says-refl (e ∷ d ∷ ds)))
    (le-or-lt d.key e.key)

pub copies-says : (es : List Entry) → Says (last_copies es) es
unfolding last_copies
copies-says [] = says-refl []
copies-says (e ∷ es) = says-trans (insert-says e (last_copies es)) (says-cons e (copies-says es))
