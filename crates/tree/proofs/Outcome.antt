-- What one level of a write leaves: a bucket with the hand in it, or one or two new buckets in its place.
use mathlib.Core.Path.{◌∙◌, ◌≡◌, refl, sym}
use mathlib.Core.Logic.{◌⊎◌, inl, inr, ⊎_elim}
use mathlib.Core.Bool.{Bool, false, not, true}
use Rattle.std.specs.Prelude.{Option, Some}
use Prim.Native.Nat.{◌<◌, ◌≤◌, ℕ}
use native.Mathlib.Omega.{arith}
use mathlib.Core.List.{List, [], ◌∷◌}
use lib.Dec.{eqb}
use borrow.Author.Tests.{eq-eqb, le-ltb, lt-ltb}
use Rattle.rules.specs.declared.Entry.{Entry}
use Rattle.rules.specs.declared.Head.{Head}
use Rattle.rules.specs.Bucket.{bucket}
use Rattle.rules.specs.Plain.{◌or◌, only}
use Rattle.rules.specs.Rewrite.{Rise, insert, kept, key_of, last_copies}
use Rattle.rules.specs.Sector.{is_data, is_index}
use Rattle.rules.specs.Walk.{copy_of}
use Rattle.laws.proofs.Tools.{bool_cases, eq-or-ne, le-or-lt, true-false}
use Rattle.laws.proofs.Lists.{All, all_map, only-back, copy-all}
use Rattle.laws.proofs.Entries.{Fine}
use Rattle.laws.proofs.Copies.{copies-says}
use Rattle.laws.proofs.Halves.{copies-all, kept-all}
use Rattle.tree.proofs.AsOf.{Grows}
use Rattle.tree.proofs.Tree.{HeadIs, Reading, Shape, Span, Tree}
use Rattle.tree.proofs.Ready.{Ready}

-- the header stays
head-insert : (lo : ℕ) (e : Entry) (ds : List Entry) → e.key ≡ lo → All (λ d. lo ≤ d.key) ds → HeadIs lo (insert e ds)
unfolding insert
head-insert lo e [] k a = k
head-insert lo e (d ∷ ds) k a =
    let z = a.0 in
    ⊎_elim
    (λ de. rw (le-ltb e.key d.key de, eq-eqb e.key d.key (omega arith)) (omega arith))
    (λ ed. rw (lt-ltb e.key d.key ed) k)
    (le-or-lt d.key e.key)

or-true : (a b : Bool) → a or true or b ≡ true
or-true true b = refl
or-true false b = refl

head-only : (lo s : ℕ) (es : List Entry) → HeadIs lo es → HeadIs lo (only (λ e. not (eqb e.kind 2) or eqb e.key lo or eqb e.stamp s) es)
unfolding only
head-only lo s [] k = absurd k
head-only lo s (e ∷ es) k = rw (eq-eqb e.key lo k, or-true (not (eqb e.kind 2)) (eqb e.stamp s)) k

head-kept : (lo s : ℕ) (es : List Entry) → HeadIs lo es → All (λ d. lo ≤ d.key) es → HeadIs lo (kept lo s es)
unfolding kept last_copies
head-kept lo s [] k a = absurd k
head-kept lo s (e ∷ es) k a = head-only lo s (insert e (last_copies es)) (head-insert lo e (last_copies es) k (copies-all (λ d. lo ≤ d.key) es a.1))

pub shape-kept : (i : Bool) (lo hi s : ℕ) (es : List Entry) → Shape i lo hi es → Shape i lo hi (kept lo s es)
shape-kept i lo hi s es sh =
    (head-kept lo s es sh.0 (all_map (Span i lo hi) (λ d. lo ≤ d.key) (λ d z. z.1) es sh.1), kept-all (Span i lo hi) lo s es sh.1)

pub key_of-head : (lo : ℕ) (es : List Entry) → HeadIs lo es → key_of es ≡ lo
unfolding key_of
key_of-head lo [] k = absurd k
key_of-head lo (e ∷ es) k = k

-- a post or strike stamped s can be read
abbrev pub Unmarked : ℕ → List Entry → Type 0
Unmarked s cs = All (λ e. is_data e ≡ true → e.stamp ≡ s → ⊥) cs

abbrev pub Mark : ℕ → Reading → Type 0
Mark s rd = (c : ℕ) × (cs : List Entry) × (rd c ≡ Some cs) × (Unmarked s cs → ⊥)

pub unmarked? : (s : ℕ) (cs : List Entry) → Unmarked s cs ⊎ (Unmarked s cs → ⊥)
unmarked? s [] = inl tt
unmarked? s (e ∷ cs) =
    ⊎_elim
    (λ (d : is_data e ≡ true). ⊎_elim
    (λ (q : e.stamp ≡ s). inr (λ a. a.0 d q))
    (λ (n : e.stamp ≡ s → ⊥). ⊎_elim (λ a. inl ((λ i. n), a)) (λ z. inr (λ a. z a.1)) (unmarked? s cs))
    (eq-or-ne e.stamp s))
    (λ (d : is_data e ≡ false). ⊎_elim (λ a. inl ((λ i. absurd (true-false (sym i ∙ d))), a)) (λ z. inr (λ a. z a.1)) (unmarked? s cs))
    (bool_cases (is_data e))

or-true2 : (a b : Bool) → a or b or true ≡ true
or-true2 true b = refl
or-true2 false true = refl
or-true2 false false = refl

-- the entry just added is kept
pub kept-marked : (hk s : ℕ) (es : List Entry) (p : Entry) → copy_of p.key es ≡ Some p → p.stamp ≡ s → is_data p ≡ true → Unmarked s (kept hk s es)
    → ⊥
unfolding kept
kept-marked hk s es p q ps pd u =
    let b = only-back (λ e. is_data e ≡ true → e.stamp ≡ s → ⊥) (λ e. not (eqb e.kind 2) or eqb e.key hk or eqb e.stamp s) (last_copies es) u in
    let c = all_map (λ e. not (eqb e.kind 2) or eqb e.key hk or eqb e.stamp s ≡ true → is_data e ≡ true → e.stamp ≡ s → ⊥) (λ e. is_data e ≡ true → e.stamp ≡ s → ⊥)
    (λ e f i z. f (rw (eq-eqb e.stamp s z) (or-true2 (not (eqb e.kind 2)) (eqb e.key hk))) i z) (last_copies es) b in
    copy-all (λ e. is_data e ≡ true → e.stamp ≡ s → ⊥) p.key (last_copies es) p c ((copies-says es).copies p.key ∙ q) pd ps

-- what a level leaves: the bucket stands, with one bucket changed; or one or two new ones stand for it
pub record Closed (h : Head) (card card' : List ℕ) (g g' : ℕ → Option Entry) (k b lo hi s f : ℕ) : Type 0 where
  pub ready : Ready h card' f
  pub grows : Grows s (bucket h card) (bucket h card')
  pub mark : Mark s (bucket h card')
  pub spot : ℕ
  pub height : ℕ
  pub low : ℕ
  pub high : ℕ
  pub spot-tree : Tree (bucket h card) g height spot low high
  pub within : (height ≤ k) × (lo ≤ low) × (low < hi) × (low < high)
  pub same : (c : ℕ) (cs : List Entry) → (c ≡ spot → ⊥) → bucket h card c ≡ Some cs → bucket h card' c ≡ Some cs
  pub tree : Tree (bucket h card') g' k b lo hi

pub record Open (h : Head) (card card' : List ℕ) (s f : ℕ) : Type 0 where
  pub ready : Ready h card' f
  pub mark : Mark s (bucket h card')
  pub same : (c : ℕ) (cs : List Entry) → bucket h card c ≡ Some cs → bucket h card' c ≡ Some cs

abbrev pub IsPair : ℕ → ℕ → ℕ → Entry → Type 0
IsPair n s k p = (p.key ≡ k) × (is_index p ≡ true) × Fine n p × (p.stamp ≡ s)

pub record One (h : Head) (card card' : List ℕ) (g' : ℕ → Option Entry) (k lo hi s f : ℕ) (p : Entry) : Type 0 where
  pub opened : Open h card card' s f
  pub pair1 : IsPair h.n s lo p
  pub tree1 : Tree (bucket h card') g' k p.value lo hi

pub record Two (h : Head) (card card' : List ℕ) (g' : ℕ → Option Entry) (k lo hi s f : ℕ) (p q : Entry) : Type 0 where
  pub opened : Open h card card' s f
  pub pair1 : IsPair h.n s lo p
  pub mid : (lo < q.key) × (q.key < hi)
  pub pair2 : IsPair h.n s q.key q
  pub tree1 : Tree (bucket h card') g' k p.value lo q.key
  pub tree2 : Tree (bucket h card') g' k q.value q.key hi

abbrev pub Outcome : (h : Head) (card : List ℕ) (g g' : ℕ → Option Entry) (k b lo hi s : ℕ) → Rise → Type 0
Outcome h card g g' k b lo hi s r =
    ((r.hand ≡ []) × Closed h card r.card g g' k b lo hi s r.fresh)
    ⊎ (((p : Entry) × (r.hand ≡ p ∷ []) × One h card r.card g' k lo hi s r.fresh p)
    ⊎ ((p : Entry) × (q : Entry) × (r.hand ≡ p ∷ q ∷ []) × Two h card r.card g' k lo hi s r.fresh p q))
