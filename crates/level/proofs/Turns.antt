-- A turn of the count of written sectors, the pairs of two new buckets, and the limit that the first sector chooses.
use mathlib.Core.Path.{◌≡◌, refl, ap}
use mathlib.Core.List.{List, [], ◌∷◌}
use Prim.Native.Nat.{ℕ, zero, suc, ◌+◌, ◌-◌, ◌*◌, ◌/◌, ◌≤◌, ◌<◌}
use native.Mathlib.Omega.{arith}
use borrow.Author.Tests.{eq-eqb, ne_eqb, le-ltb}
use lib.Dec.{eqb}
use lib.ListN.{length, take, drop, get_or}
use lib.Seq.{get_or-take}
use Rattle.rules.specs.declared.Entry.{Entry}
use Rattle.rules.specs.declared.Head.{Head}
use Rattle.rules.specs.Sector.{sector_at, fields, is_index}
use Rattle.rules.specs.Rewrite.{key_of, pair, limit_of}
use Rattle.hand.specs.Hand.{entries_at}
use Rattle.level.specs.Level.{used_of, pairs_of}

-- one more written sector is counted
pub used_turn : (part : List ℕ) (m R i : ℕ) → used_of i part i (m - i) ≡ R → i < m → (get_or part (16 * i) 0 ≡ 0 → ⊥) → used_of (i + 1) part (i + 1) (m - (i + 1)) ≡ R
used_turn part m R i h lt z = let e : m - i ≡ suc (m - (i + 1)) = omega arith in rw (← h, e, ne_eqb _ _ z)

-- the larger half of a list begins with the same key
key-half : (es : List Entry) → key_of (take (length es - length es / 2) es) ≡ key_of es
unfolding key_of
key-half [] = refl
key-half (e ∷ es) =
    let k : suc (length es) - suc (length es) / 2 ≡ suc (suc (length es) - suc (length es) / 2 - 1) = omega arith in
    ap (λ (n : ℕ). key_of (take n (e ∷ es))) k

-- where there are as many as the limit, two new buckets: the pair of the low one first, then that of the one behind the cut
pub two-pairs : (s td fresh n : ℕ) (es : List Entry) (p q : Entry) → td ≤ length es → n ≡ length es - length es / 2 → p ≡ pair s fresh es
    → q ≡ pair s (fresh + 1) (drop n es) → p ∷ q ∷ [] ≡ pairs_of s td fresh es
unfolding pairs_of pair
two-pairs s td fresh n es p q le c e f = rw (le-ltb (length es) td le, e, f, c, key-half es)

-- the kind of the first sector chooses the limit
first_kind : (part : List ℕ) → is_index (fields (sector_at part 0)) ≡ eqb (get_or part 0 0) 3
unfolding is_index fields sector_at
first_kind part = let z : 0 < 16 = omega arith in rw get_or-take

pub limit-index : (h : Head) (part : List ℕ) (used : ℕ) → 1 ≤ used → get_or part 0 0 ≡ 3 → h.ti ≡ limit_of h (entries_at part 0 used)
unfolding limit_of
limit-index h part zero one q = absurd (omega arith)
limit-index h part (suc u) one q = rw (first_kind part, eq-eqb (get_or part 0 0) 3 q)

pub limit-data : (h : Head) (part : List ℕ) (used : ℕ) → 1 ≤ used → (get_or part 0 0 ≡ 3 → ⊥) → h.td ≡ limit_of h (entries_at part 0 used)
unfolding limit_of
limit-data h part zero one q = absurd (omega arith)
limit-data h part (suc u) one q = rw (first_kind part, ne_eqb (get_or part 0 0) 3 q)
