-- The questions that next puts to one bucket are the rules' questions.
use mathlib.Core.Path.{◌≡◌, refl, ap, sym, ◌∙◌, subst}
use mathlib.Core.Logic.{◌⊎◌, inl, inr, ⊎_elim}
use mathlib.Core.Bool.{Bool, true, false, not}
use Rattle.std.specs.Prelude.{Option, None, Some}
use Prim.Native.Nat.{ℕ, ◌≤◌, ◌<◌}
use native.Mathlib.Omega.{arith}
use mathlib.Core.List.{List, [], ◌∷◌, ◌++◌, append_assoc}
use lib.Dec.{leb, ltb, eqb}
use borrow.Author.Tests.{leb-true, leb-false, le-leb, lt-leb, eq-eqb, ne_eqb, lt-ltb, le-ltb}
use Rattle.rules.specs.declared.Entry.{Entry}
use Rattle.rules.specs.declared.Sector.{Sector}
use Rattle.rules.specs.declared.Sector.TheVariants.{Blank, Held, Damaged}
use Rattle.rules.specs.Bucket.{onto}
use Rattle.rules.specs.Next.{lasts, standing_above}
use Rattle.rules.specs.Plain.{if, ◌&◌, only, last_of, smaller, smallest, is_none}
use Rattle.rules.specs.Sector.{is_index, is_post}
use Rattle.rules.specs.Walk.{left, copy_of}
use Rattle.laws.proofs.Tools.{le-or-lt, eq-or-ne, bool_cases, none-some}
use Rattle.laws.proofs.Best.{Order, better, best, best-snoc}
use Rattle.laws.proofs.Lists.{only-append}
use Rattle.scan.specs.Next.{under, above, above_at, pick_up, weigh, later, stands, unless, pick_next, stand_in}
use Rattle.scan.proofs.Runs.{nil, run_of, fold, fold-snoc}
use Rattle.scan.proofs.Picks.{left_in, left_out}

-- the smaller key, of one key the later copy
abbrev downward : Entry → Entry → Bool
downward d p = leb p.key d.key

abbrev low : Option Entry → Entry → Entry
low = best downward

downward-order : Order downward
downward-order = record {
  taken = λ e d p ed dp. le-leb p.key e.key (omega (arith, leb-true d.key e.key ed, leb-true p.key d.key dp));
  left = λ e d p ed dp. lt-leb p.key e.key (omega (arith, leb-false d.key e.key ed, leb-false p.key d.key dp));
}

smaller-better : (e : Entry) (r : Option Entry) → smaller e r ≡ better downward e r
unfolding smaller
smaller-better e None = refl
smaller-better e (Some d) = refl

smallest-snoc : (es : List Entry) (p : Entry) → smallest (es ++ (p ∷ [])) ≡ Some (low (smallest es) p)
unfolding smallest
smallest-snoc = best-snoc downward downward-order smallest refl (λ e es. smaller-better e (smallest es))

under_low : (r : Option Entry) (e : Entry) → under r e ≡ Some (low r e)
unfolding under
under_low None e = refl
under_low (Some d) e = elim (leb e.key d.key) as (λ b. if b (Some e) (Some d) ≡ Some (if b e d)) [ true ↦ refl | false ↦ refl ]

under-snoc : (pre : List Entry) (e : Entry) → under (smallest pre) e ≡ smallest (pre ++ (e ∷ []))
under-snoc pre e = under_low (smallest pre) e ∙ sym (smallest-snoc pre e)

none-smallest : None ≡ smallest []
unfolding smallest
none-smallest = refl

fold-under : (es : List Entry) → fold under None es ≡ smallest es
fold-under es = rw none-smallest (fold-snoc under (λ l. smallest l) under-snoc [] es)

-- the index keys above x
abbrev pub above_in : ℕ → ℕ → List Entry → Option Entry
above_in x t l = smallest (only (λ e. ltb x e.key) (left t l))

only-in : (p : Entry → Bool) (pre : List Entry) (e : Entry) → p e ≡ true → only p (pre ++ (e ∷ [])) ≡ only p pre ++ (e ∷ [])
unfolding only
only-in p pre e h = rw (only-append p pre (e ∷ []), h)

only_out : (p : Entry → Bool) (pre : List Entry) (e : Entry) → p e ≡ false → only p (pre ++ (e ∷ [])) ≡ only p pre
unfolding only
only_out p pre e h = rw (only-append p pre (e ∷ []), h) (sym (nil (only p pre)))

lt-or-le : (a b : ℕ) → (a < b) ⊎ (b ≤ a)
lt-or-le a b = ⊎_elim (λ h. inr h) (λ h. inl h) (le-or-lt b a)

pub up_step : (x t : ℕ) (pre : List Entry) (e : Entry)
    → if (leb e.stamp t) (if (ltb x e.key) (under (above_in x t pre) e) (above_in x t pre)) (above_in x t pre) ≡ above_in x t (pre ++ (e ∷ []))
up_step x t pre e =
    ⊎_elim
    (λ le. ⊎_elim
    (λ kx. rw (le-leb e.stamp t le, lt-ltb x e.key kx, left_in t pre e le, only-in (λ d. ltb x d.key) (left t pre) e (lt-ltb x e.key kx)) (under-snoc (only (λ d. ltb x d.key) (left t pre)) e))
    (λ xk. rw (le-leb e.stamp t le, le-ltb x e.key xk, left_in t pre e le, only_out (λ d. ltb x d.key) (left t pre) e (le-ltb x e.key xk)))
    (lt-or-le x e.key))
    (λ lt. rw (lt-leb e.stamp t lt, left_out t pre e lt))
    (le-or-lt e.stamp t)

pub fold_up : (x t : ℕ) (pre es : List Entry) → fold (pick_up x t) (above_in x t pre) es ≡ above_in x t (pre ++ only is_index es)
unfolding fold only pick_up above_at above
fold_up x t pre [] = ap (λ l. above_in x t l) (nil pre)
fold_up x t pre (e ∷ es) =
    ⊎_elim
    (λ (i : is_index e ≡ true). rw (i, up_step x t pre e) (fold_up x t (pre ++ (e ∷ [])) es ∙ ap (λ l. above_in x t l) (append_assoc pre (e ∷ []) (only is_index es))))
    (λ (i : is_index e ≡ false). rw i (fold_up x t pre es))
    (bool_cases (is_index e))

-- the bib that stands, over the entries of the bucket
unfoldable pub stand_fold : ℕ → ℕ → List Entry → Option Entry → Option Entry
stand_fold k t [] best = best
stand_fold k t (e ∷ es) best = stand_fold k t es (pick_next k t (not (is_none (copy_of e.key (left t es)))) best e)

abbrev wanted : ℕ → Entry → Bool
wanted k e = is_post e & ltb k e.key

-- one entry more in front
front : (k t : ℕ) (e : Entry) (es : List Entry) (best : Option Entry) (s o p q : Bool) → leb e.stamp t ≡ s → is_post e ≡ p → ltb k e.key ≡ q
    → is_none (copy_of e.key (left t es)) ≡ o
    → fold under (if s (if (not o) best (if p (if q (under best e) best) best)) best) (only (wanted k) (lasts (left t es)))
    ≡ fold under best (only (wanted k) (lasts (left t (e ∷ es))))
unfolding left only lasts fold
front k t e es best false o p q a b c d = rw a
front k t e es best true false p q a b c d = rw (a, d)
front k t e es best true true false q a b c d = rw (a, d, b)
front k t e es best true true true false a b c d = rw (a, d, b, c)
front k t e es best true true true true a b c d = rw (a, d, b, c)

empty : (k t : ℕ) (best : Option Entry) → best ≡ fold under best (only (wanted k) (lasts (left t [])))
unfolding left only lasts fold
empty k t best = refl

stand-fold : (k t : ℕ) (es : List Entry) (best : Option Entry) → stand_fold k t es best ≡ fold under best (only (wanted k) (lasts (left t es)))
unfolding stand_fold pick_next unless stands above
stand-fold k t [] best = empty k t best
stand-fold k t (e ∷ es) best =
    stand-fold k t es (pick_next k t (not (is_none (copy_of e.key (left t es)))) best e)
    ∙ front k t e es best (leb e.stamp t) (is_none (copy_of e.key (left t es))) (is_post e) (ltb k e.key) refl refl refl refl

pub stand-above : (k t : ℕ) (es : List Entry) → stand_fold k t es None ≡ standing_above k (left t es)
unfolding standing_above
stand-above k t es = stand-fold k t es None ∙ fold-under (only (wanted k) (lasts (left t es)))

-- how a run begins
pub blank-nil : (r : Option (List Entry)) (es : List Entry) → onto Blank r ≡ Some es → es ≡ []
unfolding onto
blank-nil None es h = absurd (none-some h)
blank-nil (Some []) es h = cc
blank-nil (Some (e ∷ r)) es h = absurd (none-some h)

pub held_cons : (e : Entry) (r : Option (List Entry)) (es : List Entry) → onto (Held e) r ≡ Some es → (xs : List Entry) × (es ≡ e ∷ xs) × (r ≡ Some xs)
unfolding onto
held_cons e None es h = absurd (none-some h)
held_cons e (Some xs) es h = (xs, cc, refl)

pub damaged-no : (r : Option (List Entry)) (es : List Entry) → onto Damaged r ≡ Some es → ⊥
unfolding onto
damaged-no r es h = none-some h

no_copy : (x t : ℕ) → false ≡ not (is_none (copy_of x (left t [])))
unfolding copy_of left only last_of is_none
no_copy x t = refl

last_some : (e : Entry) (es : List Entry) → is_none (last_of (e ∷ es)) ≡ false
unfolding last_of is_none
last_some e [] = refl
last_some e (d ∷ es) = last_some d es

later-front : (x t : ℕ) (e : Entry) (es : List Entry)
    → if (leb e.stamp t) (if (eqb e.key x) true (not (is_none (copy_of x (left t es))))) (not (is_none (copy_of x (left t es))))
    ≡ not (is_none (copy_of x (left t (e ∷ es))))
unfolding copy_of left only
later-front x t e es =
    ⊎_elim
    (λ le. ⊎_elim
    (λ kx. rw (le-leb e.stamp t le, eq-eqb e.key x kx, last_some e (only (λ d. eqb d.key x) (left t es))))
    (λ xk. rw (le-leb e.stamp t le, ne_eqb e.key x xk))
    (eq-or-ne e.key x))
    (λ lt. rw (lt-leb e.stamp t lt))
    (le-or-lt e.stamp t)

-- over sectors that are a run
pub weigh-run : (pick : Option Entry → Entry → Option Entry) (ss : List Sector) (es : List Entry) (best : Option Entry) → run_of ss ≡ Some es → weigh pick ss best ≡ fold pick best es
unfolding weigh run_of fold
weigh-run pick [] es best h = let z : [] ≡ es = cc in subst (λ l. best ≡ fold pick best l) z refl
weigh-run pick (Blank ∷ ss) es best h = rw (blank-nil (run_of ss) es h) refl
weigh-run pick (Held e ∷ ss) es best h =
    let w = held_cons e (run_of ss) es h in
    rw w.1 (weigh-run pick ss w.0 (pick best e) w.2)
weigh-run pick (Damaged ∷ ss) es best h = absurd (damaged-no (run_of ss) es h)

later-run : (x t : ℕ) (ss : List Sector) (es : List Entry) → run_of ss ≡ Some es → later x t ss ≡ not (is_none (copy_of x (left t es)))
unfolding later run_of
later-run x t [] es h = let z : [] ≡ es = cc in subst (λ l. false ≡ not (is_none (copy_of x (left t l)))) z (no_copy x t)
later-run x t (Blank ∷ ss) es h = rw (blank-nil (run_of ss) es h) (no_copy x t)
later-run x t (Held e ∷ ss) es h =
    let w = held_cons e (run_of ss) es h in
    rw (w.1, later-run x t ss w.0 w.2) (later-front x t e w.0)
later-run x t (Damaged ∷ ss) es h = absurd (damaged-no (run_of ss) es h)

pub stand-run : (k t : ℕ) (ss : List Sector) (es : List Entry) (best : Option Entry) → run_of ss ≡ Some es → stand_in k t ss best ≡ stand_fold k t es best
unfolding stand_in run_of stand_fold
stand-run k t [] es best h = let z : [] ≡ es = cc in subst (λ l. best ≡ stand_fold k t l best) z refl
stand-run k t (Blank ∷ ss) es best h = rw (blank-nil (run_of ss) es h) refl
stand-run k t (Held e ∷ ss) es best h =
    let w = held_cons e (run_of ss) es h in
    rw (w.1, later-run e.key t ss w.0 w.2) (stand-run k t ss w.0 (pick_next k t (not (is_none (copy_of e.key (left t w.0)))) best e) w.2)
stand-run k t (Damaged ∷ ss) es best h = absurd (damaged-no (run_of ss) es h)
