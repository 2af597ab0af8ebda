-- The way up by bucket numbers is the rule's climb along the path, and the count made beforehand foretells its hand and its fresh buckets.
use mathlib.Core.Path.{◌≡◌, refl, ap, sym, ◌∙◌, subst}
use mathlib.Core.Logic.{◌⊎◌, inl, inr, ⊎_elim}
use mathlib.Core.Bool.{true, false}
use Rattle.std.specs.Prelude.{Some}
use mathlib.Core.List.{List, [], ◌∷◌, ◌++◌, append_assoc}
use Prim.Native.Nat.{ℕ, ◌+◌, ◌≤◌, ◌<◌}
use native.Mathlib.Omega.{arith}
use lib.Dec.{leb}
use lib.ListN.{length}
use Rattle.rules.specs.declared.Entry.{Entry}
use Rattle.rules.specs.declared.Head.{Head}
use Rattle.rules.specs.Layout.{head_of}
use Rattle.rules.specs.Bucket.{bucket, blanks_of}
use Rattle.rules.specs.Walk.{Visit, walk}
use Rattle.rules.specs.Rewrite.{Rise, kept, key_of, limit_of}
use Rattle.rules.specs.Write.{place, place_if, climb, top_used}
use Rattle.laws.proofs.Tools.{le-or-lt, bool_cases}
use Rattle.laws.proofs.Fresh.{place_if-fresh}
use Rattle.laws.proofs.AsMet.{AsMet, as-met}
use Rattle.laws.proofs.Paths.{Along, walk-reads}
use Rattle.climb.specs.Levels.{entries_on, or_empty, visit_on, rise_on, kept_on, limit_on, Tally, tally, tally_at, tally_if, count_on, upward}
use Rattle.climb.proofs.Laying.{renew-parts}

up-append : (p : List Visit) (above : List ℕ) → upward p above ≡ upward p [] ++ above
unfolding upward
up-append [] above = refl
up-append (v ∷ p) above =
    up-append p (v.number ∷ above)
    ∙ sym (append_assoc (upward p []) (v.number ∷ []) above)
    ∙ ap (λ (l : List ℕ). l ++ above) (sym (up-append p (v.number ∷ [])))

rise-append : (h : Head) (s : ℕ) (xs ys : List ℕ) (r : Rise) → rise_on h s (xs ++ ys) r ≡ rise_on h s ys (rise_on h s xs r)
unfolding rise_on
rise-append h s [] ys r = refl
rise-append h s (b ∷ xs) ys r = rise-append h s xs ys (place_if h s (visit_on h r.card b) r.hand r)

count-append : (h : Head) (s : ℕ) (card xs ys : List ℕ) (t : Tally) → count_on h s card (xs ++ ys) t ≡ count_on h s card ys (count_on h s card xs t)
unfolding count_on
count-append h s card [] ys t = refl
count-append h s card (b ∷ xs) ys t = count-append h s card xs ys (tally_if h s card b t.hand t.fresh)

-- the level of v comes after those below it
rise-up : (h : Head) (s : ℕ) (v : Visit) (p : List Visit) (r b : Rise) → rise_on h s (upward p []) r ≡ b
    → rise_on h s (upward (v ∷ p) []) r ≡ place_if h s (visit_on h b.card v.number) b.hand b
unfolding upward rise_on
rise-up h s v p r b e =
    ap (λ (l : List ℕ). rise_on h s l r) (up-append p (v.number ∷ []))
    ∙ rise-append h s (upward p []) (v.number ∷ []) r
    ∙ ap (λ (x : Rise). place_if h s (visit_on h x.card v.number) x.hand x) e

count-up : (h : Head) (s : ℕ) (card : List ℕ) (v : Visit) (p : List Visit) (t b : Tally) → count_on h s card (upward p []) t ≡ b
    → count_on h s card (upward (v ∷ p) []) t ≡ tally_if h s card v.number b.hand b.fresh
unfolding upward count_on
count-up h s card v p t b e =
    ap (λ (l : List ℕ). count_on h s card l t) (up-append p (v.number ∷ []))
    ∙ count-append h s card (upward p []) (v.number ∷ []) t
    ∙ ap (λ (x : Tally). tally_if h s card v.number x.hand x.fresh) e

-- a level's hand and next fresh bucket, by the blanks and entries of its bucket alone
abbrev pub tally_of : Rise → Tally
tally_of r = tally r.hand r.fresh

module _ (h : Head) (s : ℕ) (card : List ℕ) (v : Visit) (r : Rise) (bl : blanks_of h r.card v.number ≡ blanks_of h card v.number)
    (en : v.entries ≡ entries_on h card v.number) where
  tally-place : (hd : List Entry) → r.hand ≡ hd → tally_of (place h s v r) ≡ tally_at h s card v.number hd r.fresh
  unfolding place tally_at kept_on limit_on
  tally-place hd q =
      ⊎_elim
      (λ (t : leb (length hd) (length (blanks_of h card v.number)) ≡ true). rw (q, bl, t))
      (λ (t : leb (length hd) (length (blanks_of h card v.number)) ≡ false).
      rw (q, bl, t, ← en, renew-parts h s (limit_of h v.entries) (kept (key_of v.entries) s (v.entries ++ hd)) (record { hand = hd; fresh = r.fresh; card = r.card })))
      (bool_cases (leb (length hd) (length (blanks_of h card v.number))))

  tally-if : (hd : List Entry) → r.hand ≡ hd → tally_of (place_if h s v hd r) ≡ tally_if h s card v.number hd r.fresh
  unfolding place_if tally_if
  tally-if [] q = ap (λ (l : List Entry). tally l r.fresh) q
  tally-if (e ∷ es) q = tally-place (e ∷ es) q

tally-more : (h : Head) (s : ℕ) (card : List ℕ) (b : ℕ) (hd : List Entry) (fresh : ℕ) → fresh ≤ (tally_if h s card b hd fresh).fresh
unfolding tally_if tally_at
tally-more h s card b [] fresh = omega arith
tally-more h s card b (e ∷ es) fresh =
    ⊎_elim (λ (t : leb (length (e ∷ es)) (length (blanks_of h card b)) ≡ true). rw t (omega arith))
    (λ (t : leb (length (e ∷ es)) (length (blanks_of h card b)) ≡ false). rw t (omega arith))
    (bool_cases (leb (length (e ∷ es)) (length (blanks_of h card b))))

-- along the walk to x on the card, from the hand es with the first fresh bucket
module _ (h : Head) (card : List ℕ) (hq : head_of card ≡ Some h) (t x s : ℕ) (es : List Entry) where
  abbrev begun : Rise
  begun = record { hand = es; fresh = top_used h card h.n + 1; card = card }

  visit-met : (now : List ℕ) (v : Visit) → AsMet h card now v → visit_on h now v.number ≡ v
  unfolding entries_on
  visit-met now v m = ap (λ (l : List Entry). record { number = v.number; entries = l }) (ap or_empty m.reads)

  shift : (us : List Visit) (v : Visit) (q : List Visit) → walk h card t x ≡ Some (us ++ (v ∷ q)) → walk h card t x ≡ Some ((us ++ (v ∷ [])) ++ q)
  shift us v q w = w ∙ ap Some (sym (append_assoc us (v ∷ []) q))

  pub rise-climb : (us q : List Visit) → walk h card t x ≡ Some (us ++ q) → (climb h s q begun).fresh ≤ h.n + 1
      → rise_on h s (upward q []) begun ≡ climb h s q begun
  unfolding climb upward rise_on
  rise-climb us [] w cap = refl
  rise-climb us (v ∷ q) w cap =
      let b = climb h s q begun in
      let mo = place_if-fresh h s v b.hand b in
      let lower : b.fresh ≤ h.n + 1 = omega arith in
      rise-up h s v q begun b (rise-climb (us ++ (v ∷ [])) q (shift us v q w) lower)
      ∙ ap (λ (y : Visit). place_if h s y b.hand b) (visit-met b.card v (as-met h card hq t x us v q w s es lower))

  -- the count agrees, or both have run out of buckets
  abbrev pub Foretells : List Visit → Type 0
  Foretells q =
      (count_on h s card (upward q []) (tally es (top_used h card h.n + 1)) ≡ tally_of (climb h s q begun))
      ⊎ ((h.n + 1 < (climb h s q begun).fresh) × (h.n + 1 < (count_on h s card (upward q []) (tally es (top_used h card h.n + 1))).fresh))

  -- the entries of a path's bucket, as the card holds them
  met-entries : (us : List Visit) (v : Visit) (q : List Visit) → walk h card t x ≡ Some (us ++ (v ∷ q)) → v.entries ≡ entries_on h card v.number
  unfolding entries_on
  met-entries us v q w = sym (ap or_empty (at_last us (walk-reads h card t x (us ++ (v ∷ q)) w)))
    where
      at_last : (us : List Visit) → Along (λ y. bucket h card y.number ≡ Some y.entries) (us ++ (v ∷ q)) → bucket h card v.number ≡ Some v.entries
      at_last [] a = a.0
      at_last (u ∷ us) a = at_last us a.1

  pub foretells : (us q : List Visit) → walk h card t x ≡ Some (us ++ q) → Foretells q
  unfolding climb upward count_on
  foretells us [] w = inl refl
  foretells us (v ∷ q) w =
      let b = climb h s q begun in
      let t0 = tally es (top_used h card h.n + 1) in
      let c = count_on h s card (upward q []) t0 in
      let up : count_on h s card (upward (v ∷ q) []) t0 ≡ tally_if h s card v.number c.hand c.fresh = count-up h s card v q t0 c refl in
      let mo = place_if-fresh h s v b.hand b in
      let more = tally-more h s card v.number c.hand c.fresh in
      let out : h.n + 1 < b.fresh → h.n + 1 < c.fresh → Foretells (v ∷ q) = λ p k.
      inr (omega arith, subst (λ (y : Tally). h.n + 1 < y.fresh) (sym up) (omega arith)) in
      ⊎_elim
      (λ (e : c ≡ tally_of b).
      ⊎_elim
      (λ (le : b.fresh ≤ h.n + 1).
      let m = as-met h card hq t x us v q w s es le in
      inl (up ∙ ap (λ (y : Tally). tally_if h s card v.number y.hand y.fresh) e ∙ sym (tally-if h s card v b m.blanks (met-entries us v q w) b.hand refl)))
      (λ (gt : h.n + 1 < b.fresh). out gt (subst (λ (y : Tally). h.n + 1 < y.fresh) (sym e) gt))
      (le-or-lt b.fresh (h.n + 1)))
      (λ (p : (h.n + 1 < b.fresh) × (h.n + 1 < c.fresh)). out p.0 p.1)
      (foretells (us ++ (v ∷ [])) q (shift us v q w))
