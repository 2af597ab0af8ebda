-- One walk of next, and what its end says of the answer; the root is found once for all walks.
use mathlib.Core.Path.{◌≡◌, refl, ap, sym, ◌∙◌}
use Rattle.std.specs.Prelude.{None, Some, Result, Ok, Err}
use Rattle.rules.specs.declared.refusal.Damage.{Damage}
use mathlib.Core.List.{List}
use Prim.Native.Nat.{ℕ, suc, ◌-◌, ◌≤◌, ◌<◌}
use native.Mathlib.Omega.{arith}
use borrow.Author.Tests.{lt-ltb, le-ltb}
use Rattle.rules.specs.declared.Entry.{Entry}
use Rattle.rules.specs.declared.Head.{Head}
use Rattle.rules.specs.declared.Answer.{Answer}
use Rattle.rules.specs.Answers.{refused}
use Rattle.rules.specs.Layout.{head_of, beginning}
use Rattle.rules.specs.Next.{next_in, next}
use Rattle.scan.specs.declared.Leg.{Leg}
use Rattle.scan.specs.declared.Leg.TheVariants.{Over}
use Rattle.scan.specs.Scan.{sectors, root_in, search_log}
use Rattle.scan.specs.Next.{leg_scan, leg_from, leg, after, rounds, next_scan_in, next_scan}
use Rattle.scan.proofs.Nexts.{next-scan}
use Rattle.scan.proofs.Parts.{over-above}

-- l is the walk to x, with f walks left
pub round-turn : (h : Head) (card : List ℕ) (k t x f : ℕ) (l : Result Leg Damage) (w : Answer) → l ≡ leg h card k t x → 1 ≤ f → rounds h card k t f x ≡ w
    → after l (rounds h card k t (f - 1)) ≡ w
unfolding rounds
round-turn h card k t x f l w walked more inv =
    let one : f ≡ suc (f - 1) = omega arith in rw walked (ap (λ (g : ℕ). rounds h card k t g x) (sym one) ∙ inv)

-- the keys rise
pub round-rises : (h : Head) (card : List ℕ) (k t x : ℕ) (l : Result Leg Damage) (e : Entry) → l ≡ leg h card k t x → l ≡ Ok (Over (Some e)) → x < e.key
round-rises h card k t x l e walked q = over-above h card k t x e (sym walked ∙ q)

-- the walk from the root that was found
pub leg-root : (h : Head) (card : List ℕ) (k t x : ℕ) (root : Entry) (l : Result Leg Damage) → root_in (search_log t (sectors h.n card 1 h.n)) ≡ Ok root
    → l ≡ leg_scan h card k x t h.n None root.value 0 → l ≡ leg h card k t x
unfolding leg leg_from
leg-root h card k t x root l found walked = rw found walked

pub next-broken : (card : List ℕ) (k t : ℕ) → head_of card ≡ None → refused 1 ≡ next card k t
unfolding next next_in
next-broken card k t q = rw q

pub next-early : (card : List ℕ) (k t : ℕ) (h : Head) → head_of card ≡ Some h → t < beginning card → refused 13 ≡ next card k t
unfolding next next_in
next-early card k t h q lt = rw (q, lt-ltb t (beginning card) lt)

module _ (card : List ℕ) (k t : ℕ) (h : Head) (q : head_of card ≡ Some h) (le : beginning card ≤ t) where
  pub next-rounds : rounds h card k t 4294967296 k ≡ next card k t
  unfolding next_scan next_scan_in
  next-rounds = rw (q, le-ltb t (beginning card) le) at (next-scan card k t)

  pub next-lost : (d : Damage) → root_in (search_log t (sectors h.n card 1 h.n)) ≡ Err d → refused 4 ≡ next card k t
  unfolding leg leg_from after
  next-lost d found =
      rw found at (round-turn h card k t k 4294967296 (leg h card k t k) (next card k t) refl (omega arith) next-rounds)
