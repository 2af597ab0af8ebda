-- New pairs at the end of an index bucket lead to the new buckets, and to the old ones for other keys.
use mathlib.Core.Path.{◌∙◌, ◌≡◌, ap, refl, sym}
use mathlib.Core.Logic.{◌⊎◌, inl, inr, ⊎_elim}
use Rattle.std.specs.Prelude.{Option, Some}
use Prim.Native.Nat.{◌<◌, ◌≤◌, min, ℕ}
use native.Mathlib.Omega.{arith}
use mathlib.Core.List.{List, [], ◌++◌, ◌∷◌}
use borrow.Author.Tests.{le-leb, le-ltb, lt-leb, lt-ltb}
use Rattle.rules.specs.declared.Entry.{Entry}
use Rattle.rules.specs.Walk.{follow}
use Rattle.laws.proofs.Tools.{eq-or-ne, le-or-lt}
use Rattle.laws.proofs.Lists.{follow-all, follow-gap, follow-le, follow-snoc-in, follow-snoc-out, upper, upper-all, upper-append, upper-follow, upper-min}
use Rattle.tree.proofs.Tree.{Kids, Reading, Tree, tree-ext}

-- where x is sent by es
abbrev pub Sent : ℕ → List Entry → ℕ → Entry → ℕ → Type 0
Sent x es hi e u = (follow x es ≡ Some e) × (upper x es hi ≡ u)

module _ (x : ℕ) (es : List Entry) (hi : ℕ) (d : Entry) (u : ℕ) (s : Sent x es hi d u) (p : Entry) where
  upper-snoc-in : p.key ≤ x → upper x (es ++ (p ∷ [])) hi ≡ u
  unfolding upper
  upper-snoc-in le = upper-append x es (p ∷ []) hi ∙ rw (le-ltb x p.key le) s.1

  sent-take : p.key ≤ x → d.key ≤ p.key → Sent x (es ++ (p ∷ [])) hi p u
  sent-take le dp = (follow-snoc-in x es p le ∙ rw (s.0, le-leb d.key p.key dp), upper-snoc-in le)

  sent-keep : p.key ≤ x → p.key < d.key → Sent x (es ++ (p ∷ [])) hi d u
  sent-keep le pd = (follow-snoc-in x es p le ∙ rw (s.0, lt-leb d.key p.key pd), upper-snoc-in le)

  sent-cut : x < p.key → Sent x (es ++ (p ∷ [])) hi d (min p.key u)
  unfolding upper
  sent-cut lt = (
    follow-snoc-out x es p lt ∙ s.0,
    upper-append x es (p ∷ []) hi ∙ rw (lt-ltb x p.key lt) (upper-min x es p.key hi ∙ ap (min p.key) s.1),
  )

-- a tree moved to where x is sent
moved : (rd : Reading) (g : ℕ → Option Entry) (h x : ℕ) (es : List Entry) (hi : ℕ) (e : Entry) (u : ℕ)
    → Sent x es hi e u → Tree rd g h e.value e.key u → (e : Entry) × (follow x es ≡ Some e) × Tree rd g h e.value e.key (upper x es hi)
moved rd g h x es hi e u s tr = (e, s.0, rw s.1 tr)

-- one pair in place of the child d of x0
module _ (rd : Reading) (g g' : ℕ → Option Entry) (h lo hi : ℕ) (es : List Entry) (kids : Kids rd g h es lo hi)
    (x0 : ℕ) (d : Entry) (sd : follow x0 es ≡ Some d)
    (same : (x : ℕ) → (x < d.key) ⊎ (upper x0 es hi ≤ x) → g x ≡ g' x) where
  -- where x is not sent to d's place, it is sent out of d's range
  pub away : (x : ℕ) (lx : lo ≤ x) (xh : x < hi) → ((kids x lx xh).0.key ≡ d.key → ⊥)
      → ((x < d.key) × (upper x es hi ≤ d.key)) ⊎ ((d.key < (kids x lx xh).0.key) × (upper x0 es hi ≤ (kids x lx xh).0.key))
  away x lx xh ne =
      let c = kids x lx xh in
      let gx = follow-all (λ e. e.key ≤ x → e.key ≤ c.0.key) x0 es d (follow-gap x es c.0 c.1) sd in
      let g0 = follow-all (λ e. e.key ≤ x0 → e.key ≤ d.key) x es c.0 (follow-gap x0 es d sd) c.1 in
      ⊎_elim
      (λ dx. let k = gx dx in inr (
        omega arith,
        follow-all (λ e. x0 < e.key → upper x0 es hi ≤ e.key) x es c.0 (upper-all x0 es hi) c.1
            (⊎_elim (λ bad. let k2 = g0 bad in absurd (omega arith)) (λ ok. ok) (le-or-lt c.0.key x0)),
      ))
      (λ xd. inl (xd, follow-all (λ e. x < e.key → upper x es hi ≤ e.key) x0 es d (upper-all x es hi) sd xd))
      (le-or-lt d.key x)

  pub away-tree : (x : ℕ) (lx : lo ≤ x) (xh : x < hi) → ((kids x lx xh).0.key ≡ d.key → ⊥)
      → Tree rd g' h (kids x lx xh).0.value (kids x lx xh).0.key (upper x es hi)
  away-tree x lx xh ne =
      let c = kids x lx xh in
      tree-ext rd g g' h c.0.value c.0.key (upper x es hi)
      (λ y k l. same y (⊎_elim (λ a. inl (let b = a.1 in omega arith)) (λ a. inr (let b = a.1 in omega arith)) (away x lx xh ne)))
      c.2

  pub same-upper : (x : ℕ) (lx : lo ≤ x) (xh : x < hi) → (kids x lx xh).0.key ≡ d.key → upper x es hi ≡ upper x0 es hi
  same-upper x lx xh eq =
      upper-follow x es (kids x lx xh).0 hi (kids x lx xh).1 ∙ ap (λ k. upper k es hi) eq ∙ sym (upper-follow x0 es d hi sd)

  pub kids-one : (p : Entry) → p.key ≡ d.key → Tree rd g' h p.value p.key (upper x0 es hi) → Kids rd g' h (es ++ (p ∷ [])) lo hi
  kids-one p pk tp x lx xh =
      let c = kids x lx xh in
      let le = follow-le x es c.0 c.1 in
      ⊎_elim
      (λ eq. moved rd g' h x (es ++ (p ∷ [])) hi p (upper x0 es hi)
      (sent-take x es hi c.0 (upper x0 es hi) (c.1, same-upper x lx xh eq) p (omega arith) (omega arith)) tp)
      (λ ne. ⊎_elim
      (λ a. let b = a.1 in moved rd g' h x (es ++ (p ∷ [])) hi c.0 (min p.key (upper x es hi))
      (sent-cut x es hi c.0 (upper x es hi) (c.1, refl) p (omega arith))
      (let m : min p.key (upper x es hi) ≡ upper x es hi = omega arith in rw m (away-tree x lx xh ne)))
      (λ a. let b = a.0 in moved rd g' h x (es ++ (p ∷ [])) hi c.0 (upper x es hi)
      (sent-keep x es hi c.0 (upper x es hi) (c.1, refl) p (omega arith) (omega arith)) (away-tree x lx xh ne))
      (away x lx xh ne))
      (eq-or-ne c.0.key d.key)

  -- two pairs, the first with the child's key and the second with a key in its range
  pub kids-two : (p q : Entry) → p.key ≡ d.key → d.key < q.key → q.key < upper x0 es hi
      → Tree rd g' h p.value p.key q.key → Tree rd g' h q.value q.key (upper x0 es hi)
      → Kids rd g' h (es ++ (p ∷ []) ++ (q ∷ [])) lo hi
  kids-two p q pk dq qu tp tq x lx xh =
      let c = kids x lx xh in
      let le = follow-le x es c.0 c.1 in
      let es1 = es ++ (p ∷ []) in
      ⊎_elim
      (λ eq.
      let s1 = sent-take x es hi c.0 (upper x0 es hi) (c.1, same-upper x lx xh eq) p (omega arith) (omega arith) in
      ⊎_elim
      (λ qx. moved rd g' h x (es1 ++ (q ∷ [])) hi q (upper x0 es hi) (sent-take x es1 hi p (upper x0 es hi) s1 q qx (omega arith)) tq)
      (λ xq. moved rd g' h x (es1 ++ (q ∷ [])) hi p (min q.key (upper x0 es hi)) (sent-cut x es1 hi p (upper x0 es hi) s1 q xq)
      (let m : min q.key (upper x0 es hi) ≡ q.key = omega arith in rw m tp))
      (le-or-lt q.key x))
      (λ ne. ⊎_elim
      (λ a. let b = a.1 in let b0 = a.0 in
      let s1 = sent-cut x es hi c.0 (upper x es hi) (c.1, refl) p (omega arith) in
      moved rd g' h x (es1 ++ (q ∷ [])) hi c.0 (min q.key (min p.key (upper x es hi)))
      (sent-cut x es1 hi c.0 (min p.key (upper x es hi)) s1 q (omega arith))
      (let m : min q.key (min p.key (upper x es hi)) ≡ upper x es hi = omega arith in rw m (away-tree x lx xh ne)))
      (λ a. let b = a.0 in let b1 = a.1 in
      let s1 = sent-keep x es hi c.0 (upper x es hi) (c.1, refl) p (omega arith) (omega arith) in
      moved rd g' h x (es1 ++ (q ∷ [])) hi c.0 (upper x es hi)
      (sent-keep x es1 hi c.0 (upper x es hi) s1 q (omega arith) (omega arith)) (away-tree x lx xh ne))
      (away x lx xh ne))
      (eq-or-ne c.0.key d.key)
