-- Next, walk by walk: the smallest bib above k that stands, or the end.
use mathlib.Core.Path.{◌≡◌, refl}
use mathlib.Core.Logic.{inl, inr, ⊎_elim}
use mathlib.Core.Bool.{false}
use Rattle.std.specs.Prelude.{Option, None, Some}
use Prim.Native.Nat.{◌+◌, ◌<◌, ◌≤◌, suc, zero, ℕ}
use native.Mathlib.Omega.{arith}
use mathlib.Core.List.{List}
use Rattle.rules.specs.declared.Entry.{Entry}
use Rattle.rules.specs.declared.Answer.{Answer}
use Rattle.rules.specs.Next.{hop, hop_or, hop_to, hopping, index_on, next_from, standing_above, key_above}
use Rattle.rules.specs.Plain.{smallest}
use Rattle.rules.specs.Walk.{Visit, data_of, left}
use Rattle.laws.proofs.Tools.{le-or-lt}
use Rattle.laws.proofs.Lists.{all_map}
use Rattle.laws.proofs.Tells.{given}
use Rattle.tree.proofs.Tree.{Span}
use Rattle.tree.proofs.Ends.{Ends, above}
use Rattle.tree.proofs.Found.{data-next, Found}

-- a is the answer for the smallest bib above k that stands by g, or the end
abbrev pub NextIs : (ℕ → Option Entry) → ℕ → Answer → Type 0
NextIs g k a = (r : Option Entry) × (a ≡ given r) × Found g k 0 4294967296 r

module _ (g : ℕ → Option Entry) (k t : ℕ) (wk : ℕ → Option (List Visit))
    (walks : (x : ℕ) → x < 4294967296 → (p : List Visit) × (wk x ≡ Some p) × Ends g t x 0 4294967296 p) where
  -- one walk of a next: its answer, or the next key to walk to
  one-hop : (x : ℕ) → k ≤ x → x < 4294967296 → ((y : ℕ) → k < y → y < x → g y ≡ None) → (on : ℕ → Answer)
      → ((high : ℕ) → x < high → high < 4294967296 → ((y : ℕ) → k < y → y < high → g y ≡ None) → NextIs g k (on high))
      → NextIs g k (hopping (hop k t x (wk x)) on)
  unfolding hop hop_or hop_to hopping key_above
  one-hop x kx lt inv on later =
      let w = walks x lt in
      let p = w.0 in
      let en = w.2 in
      let rg = en.range in
      let fd = data-next g k en.low en.high (left t (data_of p))
      (all_map (Span false en.low en.high) (λ e. (en.low ≤ e.key) × (e.key < en.high)) (λ e z. (z.1, z.2)) (left t (data_of p)) en.shape.1) en.content in
      rw w.1
      (⊎_elim
      (λ (n : (standing_above k (left t (data_of p)) ≡ None) × ((y : ℕ) → en.low ≤ y → y < en.high → k < y → g y ≡ None)).
      let upto-high : (y : ℕ) → k < y → y < en.high → g y ≡ None
      = λ y ky yh. ⊎_elim (λ (le : x ≤ y). n.1 y (omega arith) yh ky) (λ (gt : y < x). inv y ky gt) (le-or-lt x y) in
      rw n.0
      (⊎_elim
      (λ (m : (smallest (above x (left t (index_on p))) ≡ None) × (en.high ≡ 4294967296)).
      let hh = m.1 in rw m.0 (None, refl, inl (refl, λ y l yl ky. upto-high y ky (omega arith))))
      (λ (m : (e : Entry) × (smallest (above x (left t (index_on p))) ≡ Some e) × (e.key ≡ en.high) × (en.high < 4294967296)).
      rw (m.1, m.2) (later en.high (omega arith) m.3 upto-high))
      en.least))
      (λ (s : (e : Entry) × (standing_above k (left t (data_of p)) ≡ Some e) × (k < e.key) × (e.key < en.high) × (g e.key ≡ Some e) × ((y : ℕ) → en.low ≤ y → k < y → y < e.key → g y ≡ None)).
      let high = s.3 in
      rw s.1 (
        Some s.0,
        refl,
        inr (
          s.0,
          refl,
          s.2,
          omega arith,
          s.4,
          λ y l ky ye. ⊎_elim (λ (le : x ≤ y). s.5 y (omega arith) ky ye) (λ (gt : y < x). inv y ky gt) (le-or-lt x y),
        ),
      ))
      fd)

  pub next-loop : (f x : ℕ) → k ≤ x → x < 4294967296 → 4294967296 ≤ x + f → ((y : ℕ) → k < y → y < x → g y ≡ None) → NextIs g k (next_from wk k t f x)
  unfolding next_from
  next-loop zero x kx lt fuel inv = absurd (omega arith)
  next-loop (suc f) x kx lt fuel inv = one-hop x kx lt inv (next_from wk k t f) (λ high up low none_below. next-loop f high (omega arith) low (omega arith) none_below)
