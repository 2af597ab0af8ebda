-- What stands after accepted entries is the plain reading of their list.
use Rattle.std.specs.Prelude.{Option, None, Some}
use mathlib.Core.Bool.{true, false, Bool}
use Prim.Native.Nat.{ℕ, ◌≤◌}
use mathlib.Core.Path.{refl, sym, ap, ap₂, ◌∙◌, ◌≡◌}
use mathlib.Core.List.{List, [], ◌∷◌, ◌++◌}
use lib.Dec.{eqb, leb}
use Rattle.rules.specs.declared.Entry.{Entry}
use Rattle.rules.specs.Sector.{is_post}
use Rattle.rules.specs.Walk.{left, copy_of, standing}
use Rattle.rules.specs.Plain.{keep_if, last_of, only, if}
use Rattle.laws.proofs.Copies.{copy-cons, cstep}
use Rattle.laws.proofs.Left.{left-upto}
use Rattle.laws.proofs.Lists.{All, only-append}
use Rattle.tree.proofs.Keeps.{more}
use Rattle.tree.proofs.Climb.{upd}
use Rattle.tree.proofs.Seasoned.{said}
use Rattle.promises.specs.Reading.{up_to, last_from, last_for, if_post, stands_as_of}
use Rattle.promises.proofs.Since.{after}

-- the plain words and the walk's say the same
pub up-to-left : (t : ℕ) (es : List Entry) → up_to t es ≡ left t es
unfolding up_to left only
up-to-left t [] = refl
up-to-left t (e ∷ es) =
    elim (leb e.stamp t) as (λ b. elim b [ true ↦ e ∷ up_to t es | false ↦ up_to t es ] ≡ keep_if b e (left t es))
    [ true ↦ ap (λ (l : List Entry). e ∷ l) (up-to-left t es) | false ↦ up-to-left t es ]

last_step : (bib : ℕ) (e : Entry) (r : Option Entry) → last_from bib e r ≡ cstep (eqb e.key bib) e r
unfolding last_from
last_step bib e None = elim (eqb e.key bib) as (λ b. elim b [ true ↦ Some e | false ↦ None ] ≡ cstep b e None) [ true ↦ refl | false ↦ refl ]
last_step bib e (Some d) = elim (eqb e.key bib) as (λ b. Some d ≡ cstep b e (Some d)) [ true ↦ refl | false ↦ refl ]

last-copy : (bib : ℕ) (es : List Entry) → last_for bib es ≡ copy_of bib es
unfolding last_for copy_of only last_of
last-copy bib [] = refl
last-copy bib (e ∷ es) = ap (last_from bib e) (last-copy bib es) ∙ last_step bib e (copy_of bib es) ∙ sym (copy-cons bib e es)

post-standing : (r : Option Entry) → if_post r ≡ standing r
unfolding if_post standing is_post
post-standing None = refl
post-standing (Some e) = elim (eqb e.kind 1) as (λ b. elim b [ true ↦ Some e | false ↦ None ] ≡ if b (Some e) None) [ true ↦ refl | false ↦ refl ]

pub stands_plain : (t bib : ℕ) (es : List Entry) → stands_as_of t bib es ≡ standing (copy_of bib (left t es))
unfolding stands_as_of
stands_plain t bib es = post-standing (last_for bib (up_to t es)) ∙ ap standing (last-copy bib (up_to t es) ∙ ap (copy_of bib) (up-to-left t es))

-- the last copy in a list decides; without one, what stood before
abbrev later : Option Entry → Option Entry → Option Entry
later None g = g
later (Some e) g = standing (Some e)

later-cons : (b : Bool) (e : Entry) (r g : Option Entry) → later r (if b (standing (Some e)) g) ≡ later (cstep b e r) g
later-cons true e None g = refl
later-cons true e (Some d) g = refl
later-cons false e r g = refl

after-later : (g : ℕ → ℕ → Option Entry) (es : List Entry) (t x : ℕ) → after g es t x ≡ later (copy_of x (left t es)) (g t x)
unfolding left only copy_of last_of
after-later g [] t x = refl
after-later g (e ∷ es) t x = after-later (more g e) es t x ∙ one (leb e.stamp t)
  where
    one : (b : Bool) → later (copy_of x (left t es)) (if b (upd (g t) e x) (g t x)) ≡ later (copy_of x (keep_if b e (left t es))) (g t x)
    one true = later-cons (eqb e.key x) e (copy_of x (left t es)) (g t x) ∙ ap (λ r. later r (g t x)) (sym (copy-cons x e (left t es)))
    one false = refl

-- behind one list another decides first
copy-behind : (x : ℕ) (rs es : List Entry) → standing (copy_of x (rs ++ es)) ≡ later (copy_of x es) (said rs x)
unfolding copy_of only last_of standing
copy-behind x rs es = ap standing (whole rs) ∙ first (copy_of x es) (copy_of x rs)
  where
    or : Option Entry → Option Entry → Option Entry
    or None o = o
    or (Some e) o = Some e

    step : (b : Bool) (d : Entry) (r o : Option Entry) → cstep b d (or r o) ≡ or r (cstep b d o)
    step true d None o = refl
    step true d (Some e) o = refl
    step false d r o = refl

    none_before : (r : Option Entry) → r ≡ or r None
    none_before None = refl
    none_before (Some e) = refl

    whole : (rs : List Entry) → copy_of x (rs ++ es) ≡ or (copy_of x es) (copy_of x rs)
    whole [] = none_before (copy_of x es)
    whole (d ∷ rs) =
        copy-cons x d (rs ++ es) ∙ ap (cstep (eqb d.key x) d) (whole rs) ∙ step (eqb d.key x) d (copy_of x es) (copy_of x rs)
        ∙ ap (or (copy_of x es)) (sym (copy-cons x d rs))

    first : (r o : Option Entry) → standing (or r o) ≡ later r (standing o)
    first None o = refl
    first (Some e) o = refl

-- the plain reading of records and of entries behind them
stands-behind : (t x : ℕ) (rs es : List Entry) → stands_as_of t x (rs ++ es) ≡ later (copy_of x (left t es)) (said (left t rs) x)
unfolding left
stands-behind t x rs es =
    stands_plain t x (rs ++ es) ∙ ap (λ (l : List Entry). said l x) (only-append (λ e. leb e.stamp t) rs es) ∙ copy-behind x (left t rs) (left t es)

-- on a card that began with records, none stamped after t
pub after-plain : (rs es : List Entry) (t x : ℕ) → All (λ e. e.stamp ≤ t) rs → after (λ s. said rs) es t x ≡ stands_as_of t x (rs ++ es)
after-plain rs es t x past =
    after-later (λ s. said rs) es t x ∙ ap (λ (l : List Entry). later (copy_of x (left t es)) (said l x)) (sym (left-upto t rs past)) ∙ sym (stands-behind t x rs es)

-- entries that agree up to t are read alike as of t
pub stands-agree : (t : ℕ) (rs es fs : List Entry) → up_to t es ≡ up_to t fs → (x : ℕ) → stands_as_of t x (rs ++ es) ≡ stands_as_of t x (rs ++ fs)
stands-agree t rs es fs agree x =
    stands-behind t x rs es ∙ ap (λ (l : List Entry). later (copy_of x l) (said (left t rs) x)) (sym (up-to-left t es) ∙ agree ∙ up-to-left t fs) ∙ sym (stands-behind t x rs fs)

-- and so are entries over what is said alike
pub stands-over : (t x : ℕ) (rs qs es : List Entry) → said (left t rs) x ≡ said (left t qs) x → stands_as_of t x (rs ++ es) ≡ stands_as_of t x (qs ++ es)
stands-over t x rs qs es same = stands-behind t x rs es ∙ ap (later (copy_of x (left t es))) same ∙ sym (stands-behind t x qs es)

-- and as of two stamps that leave the same entries
pub stands-still : (t u x : ℕ) (rs es : List Entry) → left t rs ≡ left u rs → left t es ≡ left u es → stands_as_of t x (rs ++ es) ≡ stands_as_of u x (rs ++ es)
stands-still t u x rs es p q =
    stands-behind t x rs es ∙ ap₂ (λ (r l : List Entry). later (copy_of x l) (said r x)) p q ∙ sym (stands-behind u x rs es)
