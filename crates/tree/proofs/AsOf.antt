-- What is added with a later stamp is not seen as of an earlier one.
use mathlib.Core.Path.{◌≡◌, ap, refl, subst, sym}
use Rattle.std.specs.Prelude.{Option, None, Some}
use Prim.Native.Nat.{◌<◌, suc, zero, ℕ, ◌≤◌}
use native.Mathlib.Omega.{arith}
use mathlib.Core.List.{List, [], ◌++◌, ◌∷◌}
use lib.Dec.{leb}
use Rattle.rules.specs.declared.Entry.{Entry}
use Rattle.rules.specs.Plain.{keep_if, only}
use Rattle.rules.specs.Walk.{Turn, Visit, arrived, broken, down, go, go_in, left, met, path, turn}
use Rattle.laws.proofs.Tools.{none-some}
use Rattle.laws.proofs.Paths.{met-inv}
use Rattle.laws.proofs.Left.{left-past}
use Rattle.laws.proofs.Lists.{All, all_map}

-- every entry is stamped s or later
abbrev pub Late : ℕ → List Entry → Type 0
Late s es = All (λ e. s ≤ e.stamp) es

left-none : (t s : ℕ) (es : List Entry) → t < s → Late s es → left t es ≡ []
left-none t s es lt late = left-past t es (all_map (λ e. s ≤ e.stamp) (λ e. t < e.stamp) (λ e l. omega arith) es late)

pub left-late : (t s : ℕ) (es new : List Entry) → t < s → Late s new → left t (es ++ new) ≡ left t es
unfolding left only
left-late t s [] new lt late = left-none t s new lt late
left-late t s (e ∷ es) new lt late = ap (keep_if (leb e.stamp t) e) (left-late t s es new lt late)

turn-late : (t s x k : ℕ) (h : Entry) (es new : List Entry) → t < s → Late s new → turn t x k (h ∷ (es ++ new)) ≡ turn t x k (h ∷ es)
unfolding turn
turn-late t s x k h es new lt late = rw (left-late t s (h ∷ es) new lt late)

-- every bucket that can be read stays so, and gets entries stamped s or later at its end
abbrev pub Grows : ℕ → (ℕ → Option (List Entry)) → (ℕ → Option (List Entry)) → Type 0
Grows s rd rd' = (b : ℕ) (es : List Entry) → rd b ≡ Some es → (new : List Entry) × (rd' b ≡ Some (es ++ new)) × Late s new

abbrev pub Alike : ℕ → List Visit → List Visit → Type 0
Alike t [] [] = Unit {0}
Alike t [] (w ∷ q) = ⊥
Alike t (v ∷ p) [] = ⊥
Alike t (v ∷ p) (w ∷ q) = (v.number ≡ w.number) × (left t v.entries ≡ left t w.entries) × Alike t p q

-- a path of the first readings is one of the second
abbrev pub Again : ℕ → Option (List Visit) → List Visit → Type 0
Again t r p = (q : List Visit) × (r ≡ Some q) × Alike t p q

go-late : (t : ℕ) (v w : Visit) (u : Turn) (on on' : ℕ → ℕ → Option (List Visit)) (p : List Visit)
    → v.number ≡ w.number → left t v.entries ≡ left t w.entries
    → ((b k : ℕ) (q : List Visit) → on b k ≡ Some q → Again t (on' b k) q)
    → go v u on ≡ Some p → Again t (go w u on') p
unfolding go met
go-late t v w broken on on' p en el ih e = absurd (none-some e)
go-late t v w arrived on on' p en el ih e =
    let pq : v ∷ [] ≡ p = cc in
    (w ∷ [], refl, subst (λ z. Alike t z (w ∷ [])) pq (en, el, tt))
go-late t v w (down d) on on' p en el ih e =
    let a = met-inv v (on d.value d.key) p e in
    let b = ih d.value d.key a.0 a.1 in
    (w ∷ b.0, ap (met w) b.1, subst (λ z. Alike t z (w ∷ b.0)) (sym a.2) (en, el, b.2))

in-late : (t s x b k : ℕ) (rd' : Option (List Entry)) (r : Option (List Entry)) (on on' : ℕ → ℕ → Option (List Visit)) (p : List Visit)
    → t < s → ((es : List Entry) → r ≡ Some es → (new : List Entry) × (rd' ≡ Some (es ++ new)) × Late s new)
    → ((b k : ℕ) (q : List Visit) → on b k ≡ Some q → Again t (on' b k) q)
    → go_in t x b k r on ≡ Some p → Again t (go_in t x b k rd' on') p
unfolding go_in turn go
in-late t s x b k rd' None on on' p lt gr ih e = absurd (none-some e)
in-late t s x b k rd' (Some []) on on' p lt gr ih e = absurd (none-some e)
in-late t s x b k rd' (Some (h ∷ es)) on on' p lt gr ih e =
    let g = gr (h ∷ es) refl in
    let l = sym (left-late t s (h ∷ es) g.0 lt g.2) in
    rw (g.1, turn-late t s x k h es g.0 lt g.2)
    (go-late t (record { number = b; entries = h ∷ es }) (record { number = b; entries = h ∷ (es ++ g.0) }) (turn t x k (h ∷ es)) on on' p refl l ih e)

pub path-late : (t s x : ℕ) (rd rd' : ℕ → Option (List Entry)) → t < s → Grows s rd rd'
    → (f b k : ℕ) (p : List Visit) → path rd t x f b k ≡ Some p → Again t (path rd' t x f b k) p
unfolding path
path-late t s x rd rd' lt gr zero b k p e = absurd (none-some e)
path-late t s x rd rd' lt gr (suc f) b k p e =
    in-late t s x b k (rd' b) (rd b) (path rd t x f) (path rd' t x f) p lt (gr b) (path-late t s x rd rd' lt gr f) e
