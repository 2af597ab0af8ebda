-- A request's turn: refused, it leaves card and numbers; accepted, it leaves those of the new card.
use mathlib.Core.Path.{◌≡◌, refl, ap, sym, ◌∙◌}
use mathlib.Core.Logic.{⊎_elim}
use mathlib.Core.Bool.{true, false}
use Rattle.std.specs.Prelude.{None, Some, Result, Ok, Err}
use Rattle.std.specs.Result.{result_unwrap_or}
use mathlib.Core.List.{List, [], ◌∷◌, ◌++◌, append-nil}
use Prim.Native.Nat.{ℕ, zero, suc, ◌+◌, ◌-◌, ◌*◌, ◌/◌, ◌%◌, ◌≤◌, ◌<◌}
use native.Mathlib.Omega.{arith}
use lib.Dec.{eqb}
use lib.ListN.{length, take, set, replicate}
use lib.Seq.{take_all, take-suc-set, append_snoc}
use borrow.Author.Tests.{eqb-true}
use Rattle.rules.specs.declared.Entry.{Entry}
use Rattle.rules.specs.declared.Head.{Head}
use Rattle.rules.specs.declared.refusal.Refusal.{Refusal}
use Rattle.rules.specs.Answers.{refused}
use Rattle.rules.specs.Layout.{head_of}
use Rattle.rules.specs.Sector.{sector_at, fields}
use Rattle.rules.specs.Write.{Plan, accept, plan_answer, plan_card, plan}
use Rattle.rules.specs.Batch.{well_asked, request, requests_in, card_of, answers_to, paired, batch}
use Rattle.laws.proofs.Tools.{and-true, bool_cases}
use Rattle.laws.proofs.Bytes.{Bytes}
use Rattle.laws.proofs.Entries.{Asks}
use Rattle.laws.proofs.Carries.{stamp-after, head-after}
use Rattle.laws.proofs.Plans.{no-accept}
use Rattle.laws.proofs.Requests.{well-asks, no-card, ill-asked, asked}
use Rattle.write.specs.declared.Entered.{Entered}
use Rattle.write.specs.Plans.{Did}
use Rattle.batch.specs.declared.Known.{Known}
use Rattle.batch.specs.Carry.{Knows, Knew, Took, code_of}

-- an entry that was laid down, or refused from the walk on, by its plan
module _ (h : Head) (card : List ℕ) (hq : head_of card ≡ Some h) (by : Bytes card) (e : Entry) (asks : Asks e) (r : Entered) (after : List ℕ)
    (d : Did (Ok r) h card after (plan card e)) where
  pub laid : Took (Ok (record { stamp = e.stamp; used = r.used; root = r.root })) h card after (plan card e)
  laid = (
    d.0,
    head-after h card hq by e asks after d.0,
    record { stamp = sym (stamp-after h card hq by e asks after d.0); used = d.1; root = d.2 },
  )

-- by another name of the plan
pub took-same : (r : Result Known Refusal) (h : Head) (card after : List ℕ) (p q : Plan) → p ≡ q → Took r h card after q → Took r h card after p
took-same (Ok known) h card after p q e t = (e ∙ t.0, t.1, t.2)
took-same (Err r) h card after p q e t = (e ∙ t.0, t.1)

-- what a request that was answered so leaves
module _ (h : Head) (card after : List ℕ) (p : Plan) (hq : head_of card ≡ Some h) where
  pub took-code : (r : Result Known Refusal) → Took r h card after p → code_of r ≡ (plan_answer p).code
  unfolding plan_answer refused
  took-code (Ok known) t = sym (ap (λ (y : Plan). (plan_answer y).code) t.0)
  took-code (Err r) t = sym (ap (λ (y : Plan). (plan_answer y).code) t.0)

  pub took-bytes : (r : Result Known Refusal) → Took r h card after p → after ≡ plan_card card p
  unfolding plan_card
  took-bytes (Ok known) t = sym (ap (plan_card card) t.0)
  took-bytes (Err r) t = t.1 ∙ sym (ap (plan_card card) t.0)

  pub took-head : (r : Result Known Refusal) → Took r h card after p → head_of after ≡ Some h
  took-head (Ok known) t = t.1
  took-head (Err r) t = ap head_of t.1 ∙ hq

  pub took-knows : (r : Result Known Refusal) (k : Known) → Knows h card k → Took r h card after p → Knows h after (result_unwrap_or r k)
  took-knows (Ok known) k kn t = t.2
  took-knows (Err r) k kn t = rw t.1 kn

-- one turn of the loop, as it has the numbers
module _ (requests : List ℕ) (i count : ℕ) (less : i < count) where
  more : requests_in requests i (count - i) ≡ sector_at requests i ∷ requests_in requests (i + 1) (count - (i + 1))
  unfolding requests_in
  more = let z : count - i ≡ suc (count - (i + 1)) = omega arith in let y : suc i ≡ i + 1 = omega arith in rw (z, y)

  pub card-turn : (card : List ℕ) → card_of card (requests_in requests i (count - i)) ≡ card_of (plan_card card (request card (sector_at requests i))) (requests_in requests (i + 1) (count - (i + 1)))
  unfolding card_of
  card-turn card = ap (card_of card) more

  pub answers-turn : (card : List ℕ) → answers_to card (requests_in requests i (count - i))
      ≡ (plan_answer (request card (sector_at requests i))).code ∷ answers_to (plan_card card (request card (sector_at requests i))) (requests_in requests (i + 1) (count - (i + 1)))
  unfolding answers_to
  answers-turn card = ap (answers_to card) more

-- an answer in its place, in front of those to come
pub answered : (l : List ℕ) (i v : ℕ) (rest whole : List ℕ) → i < length l → take i l ++ (v ∷ rest) ≡ whole → take (i + 1) (set l i v) ++ rest ≡ whole
answered l i v rest whole lt q =
    let z : i + 1 ≡ suc i = omega arith in
    rw z (ap (λ (x : List ℕ). x ++ rest) (take-suc-set l i v lt) ∙ append_snoc (take i l) v rest ∙ q)

-- and when none is to come
pub all-answered : (l : List ℕ) (i : ℕ) (whole : List ℕ) → length l ≤ i → take i l ++ [] ≡ whole → l ≡ whole
all-answered l i whole le q = sym (append-nil (take i l) ∙ take_all i l le) ∙ q

-- at its end no request is left
pub none_left : (requests : List ℕ) (i count : ℕ) → i ≡ count → requests_in requests i (count - i) ≡ []
unfolding requests_in
none_left requests i count q = let z : count - i ≡ 0 = omega arith in rw z

-- on what is no card the requests change nothing, and each is answered with 1
pub card-none : (card requests : List ℕ) (i c : ℕ) → head_of card ≡ None → card_of card (requests_in requests i c) ≡ card
unfolding card_of requests_in plan_card
card-none card requests i zero q = refl
card-none card requests i (suc c) q =
    ap (λ (p : Plan). card_of (plan_card card p) (requests_in requests (suc i) c)) (no-card card (sector_at requests i) q) ∙ card-none card requests (suc i) c q

pub answers-none : (card requests : List ℕ) (i c : ℕ) → head_of card ≡ None → answers_to card (requests_in requests i c) ≡ replicate c 1
unfolding answers_to requests_in plan_card plan_answer refused
answers-none card requests i zero q = refl
answers-none card requests i (suc c) q =
    ap (λ (p : Plan). (plan_answer p).code ∷ answers_to (plan_card card p) (requests_in requests (suc i) c)) (no-card card (sector_at requests i) q)
    ∙ ap (λ (l : List ℕ). 1 ∷ l) (answers-none card requests (suc i) c q)

-- one that is accepted was asked well
accepted-well : (card r : List ℕ) (h : Head) → head_of card ≡ Some h → (new : List ℕ) → request card r ≡ accept new → well_asked r ≡ true
accepted-well card r h hq new q =
    ⊎_elim (λ (w : well_asked r ≡ true). w) (λ (w : well_asked r ≡ false). absurd (no-accept 11 new (sym (ill-asked card r h hq w) ∙ q))) (bool_cases (well_asked r))

-- after the first request
module _ (h : Head) (card : List ℕ) (hq : head_of card ≡ Some h) (by : Bytes card) (s : List ℕ) (bs : Bytes s) (after : List ℕ) where
  pub first-took : (r : Result Entered Refusal) (at : ℕ) → at ≡ (fields s).stamp → Did r h card after (request card s)
      → (head_of after ≡ Some h) × Knew h after r at × (code_of r ≡ (plan_answer (request card s)).code) × (after ≡ plan_card card (request card s))
  unfolding plan_answer plan_card refused
  first-took (Err r) at is d = (
    ap head_of d.1 ∙ hq,
    tt,
    sym (ap (λ (y : Plan). (plan_answer y).code) d.0),
    d.1 ∙ sym (ap (plan_card card) d.0),
  )
  first-took (Ok entered) at is d =
      let w = accepted-well card s h hq after d.0 in
      let asks = well-asks s bs w in
      let p = sym (asked card s h hq w) ∙ d.0 in (
        head-after h card hq by (fields s) asks after p,
        record { stamp = is ∙ sym (stamp-after h card hq by (fields s) asks after p); used = d.1; root = d.2 },
        sym (ap (λ (y : Plan). (plan_answer y).code) d.0),
        sym (ap (plan_card card) d.0),
      )

-- no request, and one
pub none-asked : (l : List ℕ) → length l ≡ 0 → l ≡ []
none-asked [] q = refl
none-asked (x ∷ l) q = absurd (omega arith)

-- the batch, by the two lengths
module _ (card requests answers : List ℕ) where
  pub unpaired : paired requests answers ≡ false → batch card requests answers ≡ record { code = 12; card = card; answers = answers }
  unfolding batch
  unpaired q = rw q

  module _ (q : paired requests answers ≡ true) where
    abbrev rs : List (List ℕ)
    rs = requests_in requests 0 (length answers)

    pub one_by_one : batch card requests answers ≡ record { code = 0; card = card_of card rs; answers = answers_to card rs }
    unfolding batch
    one_by_one = rw q

    pub whole : length requests ≡ 16 * length answers
    unfolding paired
    whole =
        let t = and-true (eqb (length requests % 16) 0) (eqb (length requests / 16) (length answers)) q in
        omega (arith, eqb-true (length requests % 16) 0 t.0, eqb-true (length requests / 16) (length answers) t.1)
