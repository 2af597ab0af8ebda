-- The levels as the rule builds them are those that the code lays down, and the buckets they take depend on the number of records alone.
use mathlib.Core.Path.{◌≡◌, refl, ap, sym, subst, ◌∙◌}
use mathlib.Core.Logic.{⊎_elim}
use mathlib.Core.Bool.{Bool}
use mathlib.Core.List.{List, [], ◌∷◌}
use Prim.Native.Nat.{ℕ, zero, suc, ◌+◌, ◌≤◌, ◌<◌}
use native.Mathlib.Omega.{arith}
use borrow.Author.Tests.{lt-ltb, le-ltb}
use lib.Dec.{ltb}
use lib.ListN.{length}
use Rattle.rules.specs.declared.Entry.{Entry}
use Rattle.rules.specs.declared.Head.{Head}
use Rattle.rules.specs.Plain.{if}
use Rattle.rules.specs.Layout.{base}
use Rattle.rules.specs.Rewrite.{Rise}
use Rattle.laws.proofs.Tools.{le-or-lt}
use Rattle.rules.specs.Season.{quota, parts, pairs_from, storey_of, storey, until_one, tower}
use Rattle.season.specs.Storeys.{over, laid, raised, tiers, heap}
use Rattle.season.proofs.Counts.{heap-more}
use Rattle.season.proofs.Rooms.{level-room}
use Rattle.season.proofs.Rows.{Open, PairsOn, parts-many, filled-laid, filled-open, filled-pairs, raised-laid}

pairs-many : (s b : ℕ) (ps : List (List Entry)) → length (pairs_from s b ps) ≡ length ps
unfolding pairs_from
pairs-many s b [] = refl
pairs-many s b (p ∷ ps) = ap suc (pairs-many s (b + 1) ps)

until-is : (ps : List Entry) (r : Rise) (on : Rise → Rise) → until_one ps r on ≡ if (ltb 1 (length ps)) (on r) r
unfolding until_one
until-is [] r on = refl
until-is (p ∷ []) r on = refl
until-is (p ∷ d ∷ ps) r on = rw (lt-ltb 1 (suc (suc (length ps))) (omega arith)) refl

module _ (h : Head) (s : ℕ) (one : 1 ≤ quota h) where
  pub storey-fresh : (r : Rise) → (storey h s r).fresh ≡ r.fresh + over (quota h) (length r.hand)
  unfolding storey storey_of
  storey-fresh r = ap (λ (n : ℕ). r.fresh + n) (parts-many (quota h) (length r.hand) r.hand one (omega arith))

  pub storey-many : (r : Rise) → length (storey h s r).hand ≡ over (quota h) (length r.hand)
  unfolding storey storey_of
  storey-many r =
      pairs-many s r.fresh (parts (quota h) (length r.hand) r.hand)
      ∙ parts-many (quota h) (length r.hand) r.hand one (omega arith)

  -- one turn of the tower
  turn_one : (f : ℕ) (r : Rise) → over (quota h) (length r.hand) ≤ 1 → tower h s (suc f) r ≡ storey h s r
  unfolding tower
  turn_one f r le =
      let n = storey-many r in
      until-is (storey h s r).hand (storey h s r) (tower h s f)
      ∙ ap (λ (b : Bool). if b (tower h s f (storey h s r)) (storey h s r)) (le-ltb 1 (length (storey h s r).hand) (omega arith))

  turn_more : (f : ℕ) (r : Rise) → 1 < over (quota h) (length r.hand) → tower h s (suc f) r ≡ tower h s f (storey h s r)
  unfolding tower
  turn_more f r lt =
      let n = storey-many r in
      until-is (storey h s r).hand (storey h s r) (tower h s f)
      ∙ ap (λ (b : Bool). if b (tower h s f (storey h s r)) (storey h s r)) (lt-ltb 1 (length (storey h s r).hand) (omega arith))

  pub tower-fresh : (f : ℕ) (r : Rise) → (tower h s f r).fresh ≡ heap (quota h) f r.fresh (length r.hand)
  unfolding tower
  tower-fresh zero r = refl
  tower-fresh (suc f) r =
      let c = length r.hand in
      ⊎_elim
      (λ (le : over (quota h) c ≤ 1). rw (le-ltb 1 (over (quota h) c) le) (ap (λ (x : Rise). x.fresh) (turn_one f r le) ∙ storey-fresh r))
      (λ (lt : 1 < over (quota h) c).
      rw (lt-ltb 1 (over (quota h) c) lt)
      (ap (λ (x : Rise). x.fresh) (turn_more f r lt) ∙ tower-fresh f (storey h s r)
      ∙ ap (λ (n : ℕ). heap (quota h) f n (length (storey h s r).hand)) (storey-fresh r)
      ∙ ap (heap (quota h) f (r.fresh + over (quota h) c)) (storey-many r)))
      (le-or-lt (over (quota h) c) 1)

-- a level whose c buckets from b on are the card's last, its pairs in hand
pub record Level (h : Head) (s b c : ℕ) (r : Rise) : Type 0 where
  pub opens : Open h r.card r.fresh
  pub least : 1 ≤ b
  pub next : r.fresh ≡ b + c
  pub many : length r.hand ≡ c
  pub pairs : PairsOn h s r.card b r.hand

module _ (h : Head) (s : ℕ) (one : 1 ≤ quota h) (most : quota h ≤ h.m) where
  module _ (r : Rise) (o : Open h r.card r.fresh) (fit : r.fresh + over (quota h) (length r.hand) ≤ h.n + 1) where
    fit_parts : r.fresh + length (parts (quota h) (length r.hand) r.hand) ≤ h.n + 1
    fit_parts = let n = parts-many (quota h) (length r.hand) r.hand one (omega arith) in omega arith

    pub storey-laid : (storey h s r).card ≡ laid h.m (quota h) (base h r.fresh) 0 r.card r.hand
    unfolding storey storey_of
    storey-laid = filled-laid h (quota h) one most (length r.hand) r.hand r.fresh r.card o (omega arith) fit_parts

    storey-open : Open h (storey h s r).card (storey h s r).fresh
    unfolding storey storey_of
    storey-open = filled-open h (parts (quota h) (length r.hand) r.hand) r.fresh r.card o fit_parts

    storey-pairs : PairsOn h s (storey h s r).card r.fresh (storey h s r).hand
    unfolding storey storey_of
    storey-pairs = filled-pairs h (quota h) one most s (length r.hand) r.hand r.fresh r.card o (omega arith) fit_parts

    pub storey-level : Level h s r.fresh (over (quota h) (length r.hand)) (storey h s r)
    storey-level =
        record {
          opens = storey-open;
          least = o.least;
          next = storey-fresh h s one r;
          many = storey-many h s one r;
          pairs = storey-pairs;
        }

  -- an index level is read back from the one below
  module _ (b c : ℕ) (r : Rise) (l : Level h s b c r) (fit : b + c + over (quota h) c ≤ h.n + 1) where
    abbrev fits-hand : r.fresh + over (quota h) (length r.hand) ≤ h.n + 1
    fits-hand = rw (l.next, l.many) fit

    pub storey-raised : (storey h s r).card ≡ raised h s (quota h) b (base h (b + c)) 0 c r.card
    storey-raised =
        let room = level-room h r.card (quota h) (b + c) c l.opens.shape one most (omega (arith, l.least)) fit in
        let e : b + 0 ≡ b = omega arith in
        let n = l.many in
        let far : base h (b + 0 + length r.hand) ≤ base h (b + c) = rw (e, l.many) (omega arith) in
        storey-laid r l.opens fits-hand
        ∙ ap (λ (x : ℕ). laid h.m (quota h) (base h x) 0 r.card r.hand) l.next
        ∙ sym (raised-laid h (quota h) one most s b (base h (b + c)) 0 c r.hand r.card (sym l.many) l.least far
        (λ k lt. room.lies k (omega arith)) (rw e l.pairs))

    pub next_level : Level h s (b + c) (over (quota h) c) (storey h s r)
    next_level =
        subst (λ (x : ℕ). Level h s x (over (quota h) c) (storey h s r)) l.next
        (subst (λ (x : ℕ). Level h s r.fresh (over (quota h) x) (storey h s r)) l.many (storey-level r l.opens fits-hand))

  pub tower-tiers : (f b c : ℕ) (r : Rise) → Level h s b c r → heap (quota h) f (b + c) c ≤ h.n + 1 → (tower h s f r).card ≡ tiers h s (quota h) f b c r.card
  unfolding tower
  tower-tiers zero b c r l fit = refl
  tower-tiers (suc f) b c r l fit =
      ⊎_elim
      (λ (le : over (quota h) c ≤ 1).
      let t = le-ltb 1 (over (quota h) c) le in
      let g = rw t at fit in
      rw t (ap (λ (x : Rise). x.card) (turn_one h s one f r (rw l.many le)) ∙ storey-raised b c r l g))
      (λ (lt : 1 < over (quota h) c).
      let t = lt-ltb 1 (over (quota h) c) lt in
      let g = rw t at fit in
      let m = heap-more (quota h) f (b + c + over (quota h) c) (over (quota h) c) in
      rw t
      (ap (λ (x : Rise). x.card) (turn_more h s one f r (rw l.many lt))
      ∙ tower-tiers f (b + c) (over (quota h) c) (storey h s r) (next_level b c r l (omega arith)) g
      ∙ ap (tiers h s (quota h) f (b + c) (over (quota h) c)) (storey-raised b c r l (omega arith))))
      (le-or-lt (over (quota h) c) 1)
