-- The best so far is the rules' choice among the entries so far.
use mathlib.Core.Path.{◌≡◌, refl, sym}
use mathlib.Core.Logic.{⊎_elim}
use mathlib.Core.Bool.{true, false}
use Rattle.std.specs.Prelude.{Option, None, Some}
use Prim.Native.Nat.{ℕ, ◌≤◌, ◌<◌}
use mathlib.Core.List.{List, [], ◌∷◌, ◌++◌}
use lib.Dec.{leb}
use borrow.Author.Tests.{le-leb, lt-leb, eq-eqb, ne_eqb}
use Rattle.rules.specs.declared.Entry.{Entry}
use Rattle.rules.specs.Plain.{if, only, last_of, largest}
use Rattle.rules.specs.Walk.{left, follow, copy_of}
use Rattle.laws.proofs.Tools.{le-or-lt, eq-or-ne}
use Rattle.laws.proofs.Lists.{only-append, last_snoc, copy-snoc-same, copy-snoc-other, top, follow-snoc-in, follow-snoc-out}
use Rattle.scan.specs.Scan.{over, below, same, choose, pick, pick_root}
use Rattle.scan.proofs.Runs.{nil, fold, fold-snoc}

over-top : (r : Option Entry) (e : Entry) → over r e ≡ Some (top r e)
unfolding over
over-top None e = refl
over-top (Some d) e = elim (leb d.key e.key) as (λ b. if b (Some e) (Some d) ≡ Some (if b e d)) [ true ↦ refl | false ↦ refl ]

pub left_in : (t : ℕ) (pre : List Entry) (e : Entry) → e.stamp ≤ t → left t (pre ++ (e ∷ [])) ≡ left t pre ++ (e ∷ [])
unfolding left only
left_in t pre e le = rw (only-append (λ d. leb d.stamp t) pre (e ∷ []), le-leb e.stamp t le)

pub left_out : (t : ℕ) (pre : List Entry) (e : Entry) → t < e.stamp → left t (pre ++ (e ∷ [])) ≡ left t pre
unfolding left only
left_out t pre e lt = rw (only-append (λ d. leb d.stamp t) pre (e ∷ []), lt-leb e.stamp t lt) (sym (nil (only (λ d. leb d.stamp t) pre)))

index-step : (x t : ℕ) (pre : List Entry) (e : Entry) → pick true x t (follow x (left t pre)) e ≡ follow x (left t (pre ++ (e ∷ [])))
unfolding pick choose below
index-step x t pre e =
    ⊎_elim
    (λ le. ⊎_elim
    (λ kx. rw (le-leb e.stamp t le, le-leb e.key x kx, left_in t pre e le, follow-snoc-in x (left t pre) e kx) (over-top (follow x (left t pre)) e))
    (λ xk. rw (le-leb e.stamp t le, lt-leb e.key x xk, left_in t pre e le, follow-snoc-out x (left t pre) e xk))
    (le-or-lt e.key x))
    (λ lt. rw (lt-leb e.stamp t lt, left_out t pre e lt))
    (le-or-lt e.stamp t)

data-step : (x t : ℕ) (pre : List Entry) (e : Entry) → pick false x t (copy_of x (left t pre)) e ≡ copy_of x (left t (pre ++ (e ∷ [])))
unfolding pick choose same
data-step x t pre e =
    ⊎_elim
    (λ le. ⊎_elim
    (λ kx. rw (le-leb e.stamp t le, eq-eqb e.key x kx, left_in t pre e le, copy-snoc-same x (left t pre) e kx))
    (λ xk. rw (le-leb e.stamp t le, ne_eqb e.key x xk, left_in t pre e le, copy-snoc-other x (left t pre) e xk))
    (eq-or-ne e.key x))
    (λ lt. rw (lt-leb e.stamp t lt, left_out t pre e lt))
    (le-or-lt e.stamp t)

root-step : (t : ℕ) (pre : List Entry) (e : Entry) → pick_root t (last_of (left t pre)) e ≡ last_of (left t (pre ++ (e ∷ [])))
unfolding pick_root
root-step t pre e =
    ⊎_elim
    (λ le. rw (le-leb e.stamp t le, left_in t pre e le, last_snoc (left t pre) e))
    (λ lt. rw (lt-leb e.stamp t lt, left_out t pre e lt))
    (le-or-lt e.stamp t)

-- the empty list has no choice
none-follow : (x t : ℕ) → None ≡ follow x (left t [])
unfolding follow left only largest
none-follow x t = refl

none-copy : (x t : ℕ) → None ≡ copy_of x (left t [])
unfolding copy_of left only last_of
none-copy x t = refl

none_last : (t : ℕ) → None ≡ last_of (left t [])
unfolding left only last_of
none_last t = refl

pub fold-index : (x t : ℕ) (es : List Entry) → fold (pick true x t) None es ≡ follow x (left t es)
fold-index x t es = rw (none-follow x t) (fold-snoc (pick true x t) (λ l. follow x (left t l)) (index-step x t) [] es)

pub fold-data : (x t : ℕ) (es : List Entry) → fold (pick false x t) None es ≡ copy_of x (left t es)
fold-data x t es = rw (none-copy x t) (fold-snoc (pick false x t) (λ l. copy_of x (left t l)) (data-step x t) [] es)

pub fold-root : (t : ℕ) (es : List Entry) → fold (pick_root t) None es ≡ last_of (left t es)
fold-root t es = rw (none_last t) (fold-snoc (pick_root t) (λ l. last_of (left t l)) (root-step t) [] es)
