-- The numbers that a write is refused with: one of 1 to 6, or 14, so that an answer of 0 is acceptance, and every answer is a byte.
use mathlib.Core.Path.{◌≡◌}
use mathlib.Core.Bool.{Bool, true, false}
use Rattle.std.specs.Prelude.{Option, None, Some}
use mathlib.Core.List.{List}
use Prim.Native.Nat.{ℕ, ◌<◌}
use native.Mathlib.Omega.{arith}
use Rattle.rules.specs.declared.Entry.{Entry}
use Rattle.rules.specs.declared.Head.{Head}
use Rattle.rules.specs.Answers.{refused}
use Rattle.rules.specs.Layout.{head_of}
use Rattle.rules.specs.Walk.{Visit, walk}
use Rattle.rules.specs.Write.{Plan, refuse, accept, refuse_if, plan_answer, plan_on, plan_at, plan_for, plan, finish, checked, latest}

-- what is so of the number of a plan that refuses
abbrev pub Refuses : (ℕ → Type 0) → Plan → Type 0
Refuses P (refuse c) = P c
Refuses P (accept new) = Unit {0}

pub if-refuses : (P : ℕ → Type 0) (b : Bool) (c : ℕ) (p : Plan) → P c → Refuses P p → Refuses P (refuse_if b c p)
unfolding refuse_if
if-refuses P true c p n q = n
if-refuses P false c p n q = q

pub at-refuses : (P : ℕ → Type 0) → P 4 → P 5 → P 6 → (h : Head) (card : List ℕ) (e : Entry) (w : Option (List Visit)) → Refuses P (plan_at h card e w)
unfolding plan_at plan_on finish checked
at-refuses P four five six h card e None = four
at-refuses P four five six h card e (Some p) = if-refuses P _ 5 _ five (if-refuses P _ 6 (accept _) six tt)

for-refuses : (P : ℕ → Type 0) → ((c : ℕ) → 0 < c → c < 15 → P c) → (card : List ℕ) (e : Entry) (o : Option Head) → Refuses P (plan_for card e o)
unfolding plan_for
for-refuses P f card e None = f 1 (omega arith) (omega arith)
for-refuses P f card e (Some h) =
    if-refuses P _ 2 _ (f 2 (omega arith) (omega arith)) (if-refuses P _ 14 _ (f 14 (omega arith) (omega arith)) (if-refuses P _ 3 _ (f 3 (omega arith) (omega arith))
    (at-refuses P (f 4 (omega arith) (omega arith)) (f 5 (omega arith) (omega arith)) (f 6 (omega arith) (omega arith)) h card e (walk h card latest e.key))))

plan-refuses : (P : ℕ → Type 0) → ((c : ℕ) → 0 < c → c < 15 → P c) → (card : List ℕ) (e : Entry) → Refuses P (plan card e)
unfolding plan
plan-refuses P f card e = for-refuses P f card e (head_of card)

abbrev pub Numbered : Plan → Type 0
Numbered p = Refuses (λ c. c ≡ 0 → ⊥) p

pub plan-numbered : (card : List ℕ) (e : Entry) → Numbered (plan card e)
plan-numbered card e = plan-refuses (λ c. c ≡ 0 → ⊥) (λ c lo hi z. omega arith) card e

small-code : (p : Plan) → Refuses (λ c. c < 256) p → (plan_answer p).code < 256
unfolding plan_answer refused
small-code (refuse c) q = q
small-code (accept new) q = omega arith

pub plan-small : (card : List ℕ) (e : Entry) → (plan_answer (plan card e)).code < 256
plan-small card e = small-code (plan card e) (plan-refuses (λ c. c < 256) (λ c lo hi. omega arith) card e)
