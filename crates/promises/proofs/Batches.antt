-- A batch is its calls one by one, may be cut in two, and is not stopped by a refusal.
use mathlib.Core.Path.{refl, sym, ap, ap₂, ◌∙◌, ◌≡◌}
use mathlib.Core.Bool.{Bool, true, false}
use Prim.Native.Nat.{ℕ, zero, suc, ◌+◌, ◌*◌, ◌/◌, ◌%◌, ◌≤◌}
use mathlib.Core.List.{List, [], ◌∷◌, ◌++◌}
use lib.ListN.{length, length-append}
use lib.Seq.{take_at}
use borrow.Author.Tests.{eq-eqb}
use native.Mathlib.Omega.{arith}
use Rattle.rules.specs.declared.Entry.{Entry}
use Rattle.rules.specs.Plain.{if}
use Rattle.rules.specs.Sector.{sector_at, encode, post_entry, strike_entry}
use Rattle.rules.specs.Write.{Plan, plan, plan_answer, plan_card, post, strike}
use Rattle.rules.specs.Calls.{Call, format_call, post_call, strike_call, look_call, next_call, Done, called, planned}
use Rattle.rules.specs.Batch.{Batch, request, requests_in, card_of, answers_to, paired, batch}
use Rattle.laws.proofs.Codec.{length-encode}
use Rattle.laws.proofs.Entries.{post-asks, strike-asks}
use Rattle.laws.proofs.Requests.{request-encode}
use Rattle.laws.proofs.Sectors.{sector-front, sector-behind}
use Rattle.laws.proofs.Tools.{true-and}
use Rattle.promises.specs.Calls.{Asks, EachSized, one_by_one, numbers}
use Rattle.promises.specs.Promises.{BatchIsOneByOne, BatchCutInTwo, RefusedDoesNotStop, BatchIsSettled}
use Rattle.promises.proofs.Settled.{plan-same}

-- as many requests as places
even : (requests answers : List ℕ) → length requests ≡ 16 * length answers → paired requests answers ≡ true
unfolding paired
even requests answers q =
    true-and (eq-eqb (length requests % 16) 0 (omega arith)) (eq-eqb (length requests / 16) (length answers) (omega arith))

abbrev of : List ℕ → List ℕ → Batch
of card answers = record { code = 0; card = card; answers = answers }

abbrev first : List ℕ → ℕ
first [] = 0
first (x ∷ xs) = x

abbrev asked : List ℕ → List ℕ → List (List ℕ)
asked requests answers = requests_in requests 0 (length answers)

batch-is : (card requests answers : List ℕ) → length requests ≡ 16 * length answers
    → batch card requests answers ≡ record { code = 0; card = card_of card (asked requests answers); answers = answers_to card (asked requests answers) }
unfolding batch
batch-is card requests answers q = rw (even requests answers q)

-- the requests of bytes laid end to end
requests-front : (xs ys : List ℕ) (i c : ℕ) → 16 * (i + c) ≤ length xs → requests_in (xs ++ ys) i c ≡ requests_in xs i c
unfolding requests_in
requests-front xs ys i zero le = refl
requests-front xs ys i (suc c) le = ap₂ (λ r rs. r ∷ rs) (sector-front xs ys i (omega arith)) (requests-front xs ys (suc i) c (omega arith))

requests-behind : (xs ys : List ℕ) (n : ℕ) → length xs ≡ 16 * n → (i j c : ℕ) → j ≡ n + i → requests_in (xs ++ ys) j c ≡ requests_in ys i c
unfolding requests_in
requests-behind xs ys n q i j zero z = refl
requests-behind xs ys n q i j (suc c) z =
    ap₂ (λ r rs. r ∷ rs) (ap (sector_at (xs ++ ys)) z ∙ sector-behind xs ys n i q) (requests-behind xs ys n q (suc i) (suc j) c (omega arith))

requests-cut : (bytes : List ℕ) (i c d : ℕ) → requests_in bytes i (c + d) ≡ requests_in bytes i c ++ requests_in bytes (i + c) d
unfolding requests_in
requests-cut bytes i zero d = ap₂ (requests_in bytes) (let z : i ≡ i + 0 = omega arith in z) (let z : 0 + d ≡ d = omega arith in z)
requests-cut bytes i (suc c) d =
    ap (requests_in bytes i) (let z : suc c + d ≡ suc (c + d) = omega arith in z)
    ∙ ap (λ rs. sector_at bytes i ∷ rs) (requests-cut bytes (suc i) c d ∙ ap (λ j. requests_in bytes (suc i) c ++ requests_in bytes j d) (let z : suc i + c ≡ i + suc c = omega arith in z))

-- one after the other
card-more : (card : List ℕ) (rs ss : List (List ℕ)) → card_of card (rs ++ ss) ≡ card_of (card_of card rs) ss
unfolding card_of
card-more card [] ss = refl
card-more card (r ∷ rs) ss = card-more (plan_card card (request card r)) rs ss

answers-more : (card : List ℕ) (rs ss : List (List ℕ)) → answers_to card (rs ++ ss) ≡ answers_to card rs ++ answers_to (card_of card rs) ss
unfolding answers_to card_of
answers-more card [] ss = refl
answers-more card (r ∷ rs) ss = ap (λ l. (plan_answer (request card r)).code ∷ l) (answers-more (plan_card card (request card r)) rs ss)

pub batch-cut-in-two : BatchCutInTwo
batch-cut-in-two card requests answers more places q p =
    let rs = asked requests answers in
    let ss = asked more places in
    let one = batch-is card requests answers q in
    let la = length-append answers places in
    let lr = length-append requests more in
    let parts : asked (requests ++ more) (answers ++ places) ≡ rs ++ ss
    = ap (requests_in (requests ++ more) 0) la ∙ requests-cut (requests ++ more) 0 (length answers) (length places)
    ∙ ap₂ (λ a b. a ++ b) (requests-front requests more 0 (length answers) (omega arith)) (requests-behind requests more (length answers) q 0 (0 + length answers) (length places) (omega arith)) in
    let two : batch (batch card requests answers).card more places ≡ record { code = 0; card = card_of (card_of card rs) ss; answers = answers_to (card_of card rs) ss }
    = ap (λ (b : Batch). batch b.card more places) one ∙ batch-is (card_of card rs) more places p in
    batch-is card (requests ++ more) (answers ++ places) (omega arith)
    ∙ ap (λ (l : List (List ℕ)). of (card_of card l) (answers_to card l)) parts
    ∙ ap₂ of (card-more card rs ss) (answers-more card rs ss)
    ∙ sym (ap₂ (λ (a b : Batch). of b.card (a.answers ++ b.answers)) one two)

-- a refusal leaves the card
pub refused-does-not-stop : RefusedDoesNotStop
unfolding card_of answers_to requests_in
refused-does-not-stop card r q place number is ne more places p =
    let one = batch-is card r (place ∷ []) q in
    let code : (plan_answer (request card (sector_at r 0))).code ≡ number = ap first (sym (ap (λ (b : Batch). b.answers) one) ∙ is) in
    let same : (batch card r (place ∷ [])).card ≡ card
    = ap (λ (b : Batch). b.card) one ∙ plan-same card (request card (sector_at r 0)) (λ z. ne (sym code ∙ z)) in
    batch-cut-in-two card r (place ∷ []) more places q p
    ∙ ap₂ (λ (c a : List ℕ). of (batch c more places).card (a ++ (batch c more places).answers)) same is

-- the bytes of an entry in front of others
requests-first : (e : Entry) (rest : List ℕ) (n : ℕ) → requests_in (encode e ++ rest) 0 (suc n) ≡ encode e ∷ requests_in rest 0 n
unfolding requests_in sector_at
requests-first e rest n = ap₂ (λ r rs. r ∷ rs) (take_at (encode e) rest 16 (length-encode e)) (requests-behind (encode e) rest 1 (length-encode e) 0 1 n (omega arith))

-- what requests give, beside what calls give
pub record Same (card : List ℕ) (ks : List Call) (requests : List ℕ) : Type 0 where
  pub many : length requests ≡ 16 * length ks
  pub card-is : card_of card (requests_in requests 0 (length ks)) ≡ one_by_one card ks
  pub answers-are : answers_to card (requests_in requests 0 (length ks)) ≡ numbers card ks

-- of an entry that its call writes, and those behind it
same-on : (card : List ℕ) (k : Call) (ks : List Call) (e : Entry) (requests rest : List ℕ) → called card k ≡ planned card (plan card e)
    → request card (encode e) ≡ plan card e → requests ≡ encode e ++ rest → Same (called card k).card ks rest → Same card (k ∷ ks) requests
unfolding card_of answers_to one_by_one numbers planned
same-on card k ks e requests rest is asks q s =
    let left = length-append (encode e) rest in
    let sixteen = length-encode e in
    let all : requests_in requests 0 (suc (length ks)) ≡ encode e ∷ requests_in rest 0 (length ks)
    = ap (λ b. requests_in b 0 (suc (length ks))) q ∙ requests-first e rest (length ks) in
    let card-by : plan_card card (request card (encode e)) ≡ (called card k).card = ap (plan_card card) asks ∙ sym (ap (λ (d : Done). d.card) is) in
    let code_by : (plan_answer (request card (encode e))).code ≡ (called card k).answer.code
    = ap (λ (p : Plan). (plan_answer p).code) asks ∙ sym (ap (λ (d : Done). d.answer.code) is) in
    record {
      many = ap length q ∙ left ∙ (let m = s.many in let z : length (encode e) + length rest ≡ 16 * suc (length ks) = omega arith in z);
      card-is = ap (card_of card) all ∙ ap (λ c. card_of c (requests_in rest 0 (length ks))) card-by ∙ s.card-is;
      answers-are = ap (answers_to card) all ∙ ap₂ (λ n c. n ∷ answers_to c (requests_in rest 0 (length ks))) code_by card-by ∙ ap (λ l. (called card k).answer.code ∷ l) s.answers-are;
    }

asks-same : (card : List ℕ) (ks : List Call) → EachSized ks → (requests : List ℕ) → Asks ks requests → Same card ks requests
unfolding card_of answers_to one_by_one numbers requests_in called post strike
asks-same card [] z requests a = record { many = ap length a; card-is = refl; answers-are = refl }
asks-same card (format_call n m td ti ∷ ks) z requests a = absurd a
asks-same card (post_call bib at status time ∷ ks) z requests a =
    let e = post_entry bib at status time in
    let k = post_call bib at status time in
    same-on card k ks e requests a.0 refl (request-encode card e (post-asks bib at status time z.0.0 z.0.1 z.0.2)) a.1 (asks-same (called card k).card ks z.1 a.0 a.2)
asks-same card (strike_call bib at ∷ ks) z requests a =
    let e = strike_entry bib at in
    let k = strike_call bib at in
    same-on card k ks e requests a.0 refl (request-encode card e (strike-asks bib at z.0.0 z.0.1)) a.1 (asks-same (called card k).card ks z.1 a.0 a.2)
asks-same card (look_call bib t ∷ ks) z requests a = absurd a
asks-same card (next_call bib t ∷ ks) z requests a = absurd a

pub batch-is-one-by-one : BatchIsOneByOne
batch-is-one-by-one card ks z requests a answers l =
    let s = asks-same card ks z requests a in
    let m = s.many in
    batch-is card requests answers (omega arith) ∙ ap (λ (n : ℕ). of (card_of card (requests_in requests 0 n)) (answers_to card (requests_in requests 0 n))) l ∙ ap₂ of s.card-is s.answers-are

pub batch-is-settled : BatchIsSettled
unfolding batch
batch-is-settled card requests answers one two a b = (
  (λ i. record { code = (a.0 ∙ sym b.0) i; card = (a.1 ∙ sym b.1) i; answers = (a.2 ∙ sym b.2) i }),
  go (paired requests answers) a,
)
  where
    rs : List (List ℕ)
    rs = asked requests answers

    said : Bool → Batch
    said c = if c (record { code = 0; card = card_of card rs; answers = answers_to card rs }) (record { code = 12; card = card; answers = answers })

    go : (c : Bool) → (one.code ≡ (said c).code) × (one.card ≡ (said c).card) × (one.answers ≡ (said c).answers)
        → (one.code ≡ 0 → ⊥) → (one.code ≡ 12) × (one.card ≡ card) × (one.answers ≡ answers)
    go true f n = absurd (n f.0)
    go false f n = f
