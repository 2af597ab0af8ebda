-- `batch::answer_all`: the first request, and those behind it.
use mathlib.Core.Path.{◌≡◌, refl, ap, ap₂, sym, ◌∙◌}
use mathlib.Core.List.{List, [], ◌∷◌, ◌++◌}
use Prim.Native.Nat.{ℕ, ◌-◌, ◌*◌, ◌<◌}
use native.Mathlib.Nat.{sub-zero}
use native.Mathlib.Omega.{arith}
use lib.ListN.{length, set, take, length-set}
use Rattle.rules.specs.declared.Entry.{Entry}
use Rattle.std.specs.Prelude.{Some}
use Rattle.rules.specs.Layout.{head_of}
use Rattle.batch.specs.Carry.{Knew, code_of}
use Rattle.rules.specs.Sector.{sector_at, fields}
use Rattle.rules.specs.Write.{plan_answer, plan_card}
use Rattle.rules.specs.Batch.{request, requests_in, card_of, answers_to}
use Rattle.laws.proofs.Bytes.{get-bytes, bytes-sector, Bytes}
use Rattle.bucket.proofs.Room.{shape_of}
use Rattle.batch.proofs.Carries.{card-turn, answers-turn, answered, all-answered, none-asked, first-took}
use Rattle.batch.proofs.answer_all.Goals as goal
use Rattle.batch.proofs.answer_all.Goals.{Else-count-eq0, After-begin-first}

pub returns-then-count-eq0-clause-card_after : goal.returns-then-count-eq0-clause-card_after
unfolding card_of requests_in
returns-then-count-eq0-clause-card_after c = rw c.if-count-eq0.true refl

pub returns-then-count-eq0-clause-answers_after : goal.returns-then-count-eq0-clause-answers_after
unfolding answers_to requests_in
returns-then-count-eq0-clause-answers_after c = rw c.if-count-eq0.true (none-asked c.args.answers.now c.if-count-eq0.true)

pub begin-first-requires : goal.begin-first-requires
begin-first-requires c = (c.requires.0, omega (arith, c.requires.1, c.if-count-eq0.false))

-- what is lent are bytes
lent : (e : Else-count-eq0) → Bytes e.args.card.now × Bytes e.args.requests.now
lent e = (get-bytes e.args.card.now (λ i. omega (arith, e.type_inv.card i)), get-bytes e.args.requests.now (λ i. omega (arith, e.type_inv.requests i)))

-- what the first request leaves
module _ (q : After-begin-first) (by : Bytes q.args.card.now × Bytes q.args.requests.now) where
  abbrev s : List ℕ
  s = sector_at q.args.requests.now 0

  first-of : (at : ℕ) → at ≡ (fields s).stamp
      → (head_of q.begin-first.new.card ≡ Some q.args.head) × Knew q.args.head q.begin-first.new.card q.begin-first.result at
      × (code_of q.begin-first.result ≡ (plan_answer (request q.args.card.now s)).code) × (q.begin-first.new.card ≡ plan_card q.args.card.now (request q.args.card.now s))
  first-of at is =
      first-took q.args.head q.args.card.now q.requires.0 by.0 s (bytes-sector q.args.requests.now 0 by.1) q.begin-first.new.card q.begin-first.result at is q.begin-first.ensures

-- what the first request and the others give is what all give
module _ (requests card answers : List ℕ) (lt : 0 < length answers) (rest : List ℕ) (code : ℕ) (new : List ℕ)
    (code_is : code ≡ (plan_answer (request card (sector_at requests 0))).code) (new-is : new ≡ plan_card card (request card (sector_at requests 0))) where
  all-cards : card_of new (requests_in requests 1 (length answers - 1)) ≡ card_of card (requests_in requests 0 (length answers))
  all-cards =
      ap (λ (c : List ℕ). card_of c (requests_in requests 1 (length answers - 1))) new-is ∙ sym (card-turn requests 0 (length answers) lt card)
      ∙ ap (λ (n : ℕ). card_of card (requests_in requests 0 n)) (sub-zero (length answers))

  all-answers : rest ≡ answers_to new (requests_in requests 1 (length answers - 1)) → take 1 (set answers 0 code) ++ rest ≡ answers_to card (requests_in requests 0 (length answers))
  all-answers is =
      answered answers 0 code rest (answers_to card (requests_in requests 0 (length answers))) lt
      (ap₂ (λ (n : ℕ) (l : List ℕ). n ∷ l) code_is (is ∙ ap (λ (c : List ℕ). answers_to c (requests_in requests 1 (length answers - 1))) new-is) ∙ sym (answers-turn requests 0 (length answers) lt card)
      ∙ ap (λ (n : ℕ). answers_to card (requests_in requests 0 n)) (sub-zero (length answers)))

pub returns-then-alone-clause-card_after : goal.returns-then-alone-clause-card_after
unfolding card_of requests_in
returns-then-alone-clause-card_after c =
    let a = c.args in
    let f = first-of (goal.at.returns-then-alone-clause-card_after c).After-begin-first (lent (goal.at.returns-then-alone-clause-card_after c).Else-count-eq0) _ refl in
    let lt : 0 < length a.answers.now = omega (arith, c.if-alone.true) in
    let none : length a.answers.now - 1 ≡ 0 = omega (arith, c.if-alone.true) in
    ap (λ (n : ℕ). card_of c.begin-first.new.card (requests_in a.requests.now 1 n)) (sym none) ∙ all-cards a.requests.now a.card.now a.answers.now lt [] _ c.begin-first.new.card f.2 f.3

pub returns-then-alone-clause-answers_after : goal.returns-then-alone-clause-answers_after
unfolding answers_to requests_in
returns-then-alone-clause-answers_after c =
    let a = c.args in
    let f = first-of (goal.at.returns-then-alone-clause-answers_after c).After-begin-first (lent (goal.at.returns-then-alone-clause-answers_after c).Else-count-eq0) _ refl in
    let lt : 0 < length a.answers.now = omega (arith, c.if-alone.true) in
    let none : length a.answers.now - 1 ≡ 0 = omega (arith, c.if-alone.true) in
    all-answered (set a.answers.now 0 c.code_of.result) 1 _ (simp length-set (omega (arith, c.if-alone.true)))
    (all-answers a.requests.now a.card.now a.answers.now lt [] c.code_of.result c.begin-first.new.card (c.code_of.ensures ∙ f.2) f.3 (rw none refl))

pub invariant_of-known_after : goal.invariant_of-known_after
invariant_of-known_after c = record { shape = shape_of c.begin-first.new.card c.args.head (first-of (goal.at.invariant_of-known_after c).After-begin-first (lent (goal.at.invariant_of-known_after c).Else-count-eq0) _ refl).0 }

pub known_after-known-requires : goal.known_after-known-requires
known_after-known-requires c =
    (first-of (goal.at.known_after-known-requires c).After-begin-first (lent (goal.at.known_after-known-requires c).Else-count-eq0) c.fields_at-at.result.stamp (ap (λ (e : Entry). e.stamp) c.fields_at-at.ensures)).1

pub load-requires : goal.load-requires
load-requires c =
    let t = length-set c.args.answers.now 0 c.code_of.result in (
      (first-of (goal.at.load-requires c).After-begin-first (lent (goal.at.load-requires c).Else-count-eq0) _ refl).0,
      c.known_after-known.ensures,
      c.requires.1 ∙ sym (ap (λ (n : ℕ). 16 * n) t),
      rw t (omega (arith, c.if-count-eq0.false)),
    )

pub returns-clause-card_after : goal.returns-clause-card_after
returns-clause-card_after c =
    let a = c.args in
    let f = first-of (goal.at.returns-clause-card_after c).After-begin-first (lent (goal.at.returns-clause-card_after c).Else-count-eq0) _ refl in
    let lt : 0 < length a.answers.now = omega (arith, c.if-count-eq0.false) in
    rw (length-set a.answers.now 0 c.code_of.result) at c.load.ensures.card_after ∙ all-cards a.requests.now a.card.now a.answers.now lt [] _ c.begin-first.new.card f.2 f.3

pub returns-clause-answers_after : goal.returns-clause-answers_after
returns-clause-answers_after c =
    let a = c.args in
    let f = first-of (goal.at.returns-clause-answers_after c).After-begin-first (lent (goal.at.returns-clause-answers_after c).Else-count-eq0) _ refl in
    let lt : 0 < length a.answers.now = omega (arith, c.if-count-eq0.false) in
    rw (length-set a.answers.now 0 c.code_of.result) at c.load.ensures.answers_after
    ∙ all-answers a.requests.now a.card.now a.answers.now lt _ c.code_of.result c.begin-first.new.card (c.code_of.ensures ∙ f.2) f.3 refl
