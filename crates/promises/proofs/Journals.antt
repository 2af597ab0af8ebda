-- A journal holds what it accepted, in order, tells it plainly, and overwrites nothing.
use mathlib.Core.Path.{◌≡◌, refl, sym, ap, subst, ◌∙◌}
use mathlib.Core.Logic.{◌⊎◌, inl, inr, ⊎_elim}
use mathlib.Core.Bool.{Bool, true, false, not}
use Rattle.std.specs.Prelude.{Option, None, Some}
use mathlib.Core.List.{List, [], ◌∷◌, ◌++◌, append-nil, append_assoc}
use Prim.Native.Nat.{ℕ, zero, suc, ◌+◌, ◌*◌, ◌-◌, ◌/◌, ◌%◌, ◌≤◌, ◌<◌}
use native.Mathlib.Omega.{arith}
use lib.Dec.{leb, ltb, eqb}
use lib.ListN.{length, replicate, length-replicate}
use borrow.Author.Tests.{ne_eqb, lt-ltb, lt-leb, eqb-false, leb-false}
use Rattle.rules.specs.declared.Entry.{Entry}
use Rattle.rules.specs.declared.Answer.{Answer}
use Rattle.rules.specs.declared.Sector.TheVariants.{Blank, Held}
use Rattle.rules.specs.Answers.{refused, sheet, ended}
use Rattle.rules.specs.Bucket.{run, blanks}
use Rattle.rules.specs.Calls.{Ask, post_ask, strike_ask, look_ask, next_ask, call_of, noted, planned, answered}
use Rattle.rules.specs.Journal.{rising, journal, stamp_in, stands_in, journal_blanks, journal_on, journal_for, journal_plan, journal_post, journal_strike, journal_look_in, journal_look, next_of, journal_next_in, journal_next}
use Rattle.rules.specs.Next.{standing_above}
use Rattle.rules.specs.Plain.{◌&◌, zeros, is_none, last_of}
use Rattle.rules.specs.Rewrite.{fill}
use Rattle.rules.specs.Sector.{sector_at, put, encode, decode, is_post, is_data, post_entry, strike_entry, status_fits}
use Rattle.rules.specs.Walk.{left}
use Rattle.rules.specs.Write.{Plan, refuse, accept, refuse_if, plan_card, plan_answer, latest}
use Rattle.laws.proofs.Blanks.{up_from, blanks-from}
use Rattle.laws.proofs.Blocks.{Each, blanks-each, fill-run}
use Rattle.laws.proofs.Codec.{length-encode, held-zeros}
use Rattle.laws.proofs.Entries.{Asks, asks-kind, asks-small, asks-fine, post-asks, strike-asks, bare-fits}
use Rattle.laws.proofs.Journals.{InOrder, journal-order, order-journal, not-journal, journal-room}
use Rattle.laws.proofs.Plans.{from_one}
use Rattle.laws.proofs.Lists.{All, all_append, only-all}
use Rattle.laws.proofs.Run.{onto-inv}
use Rattle.laws.proofs.Sectors.{length-put, sector-length}
use Rattle.laws.proofs.Tools.{bool_cases, true-and, and-true, none-some, le-or-lt}
use Rattle.laws.proofs.Used.{run-blank}
use Rattle.laws.proofs.Zeros.{zero-sector, zeros-sixteen}
use Rattle.tree.proofs.Found.{Found, data-next}
use Rattle.laws.proofs.Tells.{given}
use Rattle.promises.specs.Calls.{Sized, if_zero, Above, blank_slice, AsksSized, journal_after, noted_by, accepted_in}
use Rattle.promises.specs.Reading.{stands_as_of, last_stamp}
use Rattle.promises.specs.Promises.{Smallest, SomeBlank, NoBlank, JournalHoldsTheAccepted, JournalTellsTheTruth, JournalTakesUntilFull, SixMeansFull, JournalOverwritesNothing, JournalIsSettled, JournalReadsNothing}
use Rattle.promises.proofs.Overwritten.{Left, left-promise}
use Rattle.promises.proofs.Reading.{stands_plain}
use Rattle.promises.proofs.Settled.{Bare, bare-zero, bare-refused, plan-bare, sheet-bare, bare-if, ended-bare, plan-same}
use Rattle.promises.proofs.Truth.{sheet-reads, given-smallest}

-- the last stamp, as the rule has it
last-of : (e : Entry) (es : List Entry) → stamp_in (last_of (e ∷ es)) ≡ last_stamp e.stamp es
unfolding stamp_in last_of last_stamp
last-of e [] = refl
last-of e (d ∷ es) = last-of d es

pub last-in : (es : List Entry) → stamp_in (last_of es) ≡ last_stamp 0 es
unfolding stamp_in last_of last_stamp
last-in [] = refl
last-in (e ∷ es) = last-of e es

-- the tests of a post or strike in their order, and then the plan p
unfoldable pub ruled : List Entry → Entry → Plan → Plan
ruled es e p = refuse_if (eqb e.key 0) 2 (refuse_if (not (status_fits e.status e.value)) 14 (refuse_if (leb e.stamp (last_stamp 0 es)) 3 (refuse_if (not (is_post e) & is_none (stands_in latest e.key es)) 5 p)))

pub journal-ruled : (slice : List ℕ) (es : List Entry) (e : Entry) → journal slice ≡ Some es → journal_plan slice e ≡ ruled es e (journal_on slice e (journal_blanks slice))
unfolding journal_plan journal_for ruled
journal-ruled slice es e q = rw (q, last-in es)

-- either a test refuses, whatever the plan, or the plan decides
pub ruled-cases : (es : List Entry) (e : Entry)
    → ((x : ℕ) × (x ≡ 0 → ⊥) × (x ≡ 6 → ⊥) × ((p : Plan) → ruled es e p ≡ refuse x)) ⊎ ((1 ≤ e.key) × (last_stamp 0 es < e.stamp) × ((p : Plan) → ruled es e p ≡ p) × (status_fits e.status e.value ≡ true))
unfolding ruled refuse_if
ruled-cases es e =
    go (eqb e.key 0) (status_fits e.status e.value) (leb e.stamp (last_stamp 0 es)) (not (is_post e) & is_none (stands_in latest e.key es)) refl refl refl
  where
    go : (a f b c : Bool) → eqb e.key 0 ≡ a → status_fits e.status e.value ≡ f → leb e.stamp (last_stamp 0 es) ≡ b
        → ((x : ℕ) × (x ≡ 0 → ⊥) × (x ≡ 6 → ⊥) × ((p : Plan) → refuse_if a 2 (refuse_if (not f) 14 (refuse_if b 3 (refuse_if c 5 p))) ≡ refuse x))
        ⊎ ((1 ≤ e.key) × (last_stamp 0 es < e.stamp) × ((p : Plan) → refuse_if a 2 (refuse_if (not f) 14 (refuse_if b 3 (refuse_if c 5 p))) ≡ p) × (status_fits e.status e.value ≡ true))
    go true f b c u y v = inl (2, (λ z. omega arith), (λ z. omega arith), λ p. refl)
    go false false b c u y v = inl (14, (λ z. omega arith), (λ z. omega arith), λ p. refl)
    go false true true c u y v = inl (3, (λ z. omega arith), (λ z. omega arith), λ p. refl)
    go false true false true u y v = inl (5, (λ z. omega arith), (λ z. omega arith), λ p. refl)
    go false true false false u y v = inr (from_one e.key (eqb-false e.key 0 u), leb-false e.stamp (last_stamp 0 es) v, (λ p. refl), y)

-- an entry behind the others
rising-more : (s : ℕ) (es : List Entry) (e : Entry) → rising s es ≡ true → is_data e ≡ true → last_stamp s es < e.stamp → rising s (es ++ (e ∷ [])) ≡ true
unfolding rising last_stamp
rising-more s [] e r d lt = true-and d (true-and (lt-ltb s e.stamp lt) refl)
rising-more s (x ∷ es) e r d lt =
    let p = and-true (is_data x) (ltb s x.stamp & rising x.stamp es) r in
    let q = and-true (ltb s x.stamp) (rising x.stamp es) p.1 in
    true-and p.0 (true-and q.0 (rising-more x.stamp es e q.1 d lt))

-- the first blank lies behind them
first-blank : (slice : List ℕ) (es : List Entry) → InOrder slice es → length es < length slice / 16
    → (zeros (sector_at slice (length es)) ≡ true) × ((e : Entry) → (fill slice (blanks slice 0 (length slice / 16)) (e ∷ []) ≡ put slice (length es) (encode e)) × (1 ≤ length (blanks slice 0 (length slice / 16))))
unfolding fill
first-blank slice es w lt =
    let c = length slice / 16 in
    let n : 0 + length es ≡ length es = omega arith in
    let more : c - length es ≡ suc (c - length es - 1) = omega arith in
    let are : blanks slice 0 c ≡ length es ∷ up_from (suc (length es)) (c - length es - 1)
    = blanks-from 0 slice 0 c es w.1 ∙ ap (λ k. up_from k (c - length es)) n ∙ ap (up_from (length es)) more in
    let each = blanks-each (λ j. zeros (sector_at slice j) ≡ true) slice 0 c (λ j a b z. z) in
    ((subst (Each (λ j. zeros (sector_at slice j) ≡ true)) are each).0, λ e. (ap (λ is. fill slice is (e ∷ [])) are, rw are (omega arith)))

pub order-more : (slice : List ℕ) (es : List Entry) (e : Entry) → InOrder slice es → Asks e → 1 ≤ e.key → last_stamp 0 es < e.stamp → status_fits e.status e.value ≡ true → length es < length slice / 16
    → InOrder (put slice (length es) (encode e)) (es ++ (e ∷ []))
order-more slice es e w a key up fits lt =
    let c = length slice / 16 in
    let z = w.0 in
    let first = (first-blank slice es w lt).1 e in
    let long : length (put slice (length es) (encode e)) ≡ length slice = length-put slice (length es) (encode e) (length-encode e) (omega arith) in
    let whole = fill-run 0 slice 0 c es (e ∷ []) (asks-fine 0 e a key (omega arith) fits, tt) (omega arith) first.1 w.1 in
    let is : run 0 (put slice (length es) (encode e)) 0 c ≡ Some (es ++ (e ∷ [])) = ap (λ s. run 0 s 0 c) (sym first.0) ∙ whole in
    (ap (λ n. n % 16) long ∙ w.0, ap (λ n. run 0 (put slice (length es) (encode e)) 0 (n / 16)) long ∙ is, rising-more 0 es e w.2 (asks-kind e a).1 up)

-- so a call leaves a journal of what was accepted
plan-order : (slice : List ℕ) (es : List Entry) (e : Entry) → InOrder slice es → Asks e → InOrder (plan_card slice (journal_plan slice e)) (es ++ if_zero (plan_answer (journal_plan slice e)).code e)
unfolding plan_card plan_answer refused if_zero
plan-order slice es e w a =
    let is = journal-ruled slice es e (order-journal slice es w) in
    let refuses : (x : ℕ) → (x ≡ 0 → ⊥) → journal_plan slice e ≡ refuse x → InOrder (plan_card slice (journal_plan slice e)) (es ++ if_zero (plan_answer (journal_plan slice e)).code e)
    = λ x n q. subst (λ p. InOrder (plan_card slice p) (es ++ if_zero (plan_answer p).code e)) (sym q) (none_more x n) in
    ⊎_elim
    (λ (x : (x : ℕ) × (x ≡ 0 → ⊥) × (x ≡ 6 → ⊥) × ((p : Plan) → ruled es e p ≡ refuse x)). refuses x.0 x.1 (is ∙ x.3 (journal_on slice e (journal_blanks slice))))
    (λ (x : (1 ≤ e.key) × (last_stamp 0 es < e.stamp) × ((p : Plan) → ruled es e p ≡ p) × (status_fits e.status e.value ≡ true)).
    ⊎_elim
    (λ (f : (length es ≡ length slice / 16) × (journal_on slice e (journal_blanks slice) ≡ refuse 6)).
    refuses 6 (λ z. omega arith) (is ∙ x.2 (journal_on slice e (journal_blanks slice)) ∙ f.1))
    (λ (r : (length es < length slice / 16) × (journal_on slice e (journal_blanks slice) ≡ accept (put slice (length es) (encode e)))).
    subst (λ p. InOrder (plan_card slice p) (es ++ if_zero (plan_answer p).code e)) (sym (is ∙ x.2 (journal_on slice e (journal_blanks slice)) ∙ r.1)) (order-more slice es e w a x.0 x.1 x.3 r.0))
    (journal-room slice es e w))
    (ruled-cases es e)
  where
    none_more : (x : ℕ) → (x ≡ 0 → ⊥) → InOrder slice (es ++ if_zero x e)
    none_more zero n = absurd (n refl)
    none_more (suc x) n = subst (InOrder slice) (sym (append-nil es)) w

-- any calls, one after the other
abbrev Small : List Entry → Type 0
Small es = All (λ e. (0 ≤ e.key) × (e.key < 4294967296)) es

if-small : (c : ℕ) (e : Entry) → Asks e → Small (if_zero c e)
unfolding if_zero
if-small zero e a = ((omega arith, asks-small e a), tt)
if-small (suc c) e a = tt

ask-order : (slice : List ℕ) (es : List Entry) → InOrder slice es → (q : Ask) → Sized (call_of q) → InOrder (noted slice q).card (es ++ noted_by slice q) × Small (noted_by slice q)
unfolding noted noted_by planned answered journal_post journal_strike
ask-order slice es w (post_ask bib at status time) z =
    let a = post-asks bib at status time z.0 z.1 z.2 in
    (plan-order slice es (post_entry bib at status time) w a, if-small (plan_answer (journal_plan slice (post_entry bib at status time))).code (post_entry bib at status time) a)
ask-order slice es w (strike_ask bib at) z =
    let a = strike-asks bib at z.0 z.1 in
    (plan-order slice es (strike_entry bib at) w a, if-small (plan_answer (journal_plan slice (strike_entry bib at))).code (strike_entry bib at) a)
ask-order slice es w (look_ask bib t) z = (subst (InOrder slice) (sym (append-nil es)) w, tt)
ask-order slice es w (next_ask bib t) z = (subst (InOrder slice) (sym (append-nil es)) w, tt)

asks-order : (asks : List Ask) → AsksSized asks → (slice : List ℕ) (es : List Entry) → InOrder slice es
    → InOrder (journal_after slice asks) (es ++ accepted_in slice asks) × Small (accepted_in slice asks)
unfolding journal_after accepted_in
asks-order [] z slice es w = (subst (InOrder slice) (sym (append-nil es)) w, tt)
asks-order (q ∷ asks) z slice es w =
    let one = ask-order slice es w q z.0 in
    let on = asks-order asks z.1 (noted slice q).card (es ++ noted_by slice q) one.0 in (
      subst (InOrder (journal_after (noted slice q).card asks)) (append_assoc es (noted_by slice q) (accepted_in (noted slice q).card asks)) on.0,
      all_append (λ e. (0 ≤ e.key) × (e.key < 4294967296)) (noted_by slice q) (accepted_in (noted slice q).card asks) one.1 on.1,
    )

blank-zero : (n : ℕ) → zeros (replicate n 0) ≡ true
unfolding zeros
blank-zero zero = refl
blank-zero (suc n) = blank-zero n

pub blank-order : (sectors : ℕ) → InOrder (blank_slice sectors) []
unfolding blank_slice rising
blank-order sectors =
    let long = length-replicate {A = ℕ} (16 * sectors) 0 in
    (omega arith, run-blank 0 (replicate (16 * sectors) 0) 0 (length (replicate {A = ℕ} (16 * sectors) 0) / 16) (λ j a b. zero-sector (replicate (16 * sectors) 0) j (blank-zero (16 * sectors))), refl)

-- what next finds in the entries
pub next-given : (o : Option Entry) → next_of o ≡ given o
unfolding next_of
next-given None = refl
next-given (Some e) = refl

pub found_in : (t k : ℕ) (es : List Entry) → All (λ e. (0 ≤ e.key) × (e.key < 4294967296)) es → Found (λ b. stands_as_of t b es) k 0 4294967296 (standing_above k (left t es))
unfolding left
found_in t k es small =
    data-next (λ b. stands_as_of t b es) k 0 4294967296 (left t es) (only-all (λ e. (0 ≤ e.key) × (e.key < 4294967296)) (λ e. leb e.stamp t) es small) (λ y lo hi. sym (stands_plain t y es))

module _ (sectors : ℕ) (asks : List Ask) (z : AsksSized asks) where
  abbrev slice : List ℕ
  slice = journal_after (blank_slice sectors) asks

  abbrev entries : List Entry
  entries = accepted_in (blank_slice sectors) asks

  holds : journal slice ≡ Some entries
  holds = order-journal slice entries (asks-order asks z (blank_slice sectors) [] (blank-order sectors)).0

  tells : (bib t : ℕ) → (1 ≤ bib → journal_look slice bib t ≡ sheet bib 0 (stands_as_of t bib entries)) × Smallest (λ b. stands_as_of t b entries) bib (journal_next slice bib t)
  unfolding journal_look journal_look_in journal_next journal_next_in stands_in
  tells bib t = (
    λ lo. rw (holds, ne_eqb bib 0 (λ n. omega arith), stands_plain t bib entries),
    subst (Smallest (λ b. stands_as_of t b entries) bib) (sym (rw holds (next-given (standing_above bib (left t entries)))))
        (given-smallest (λ b. stands_as_of t b entries) bib (standing_above bib (left t entries)) (found_in t bib entries (asks-order asks z (blank_slice sectors) [] (blank-order sectors)).1)),
  )

pub journal-holds-the-accepted : JournalHoldsTheAccepted
journal-holds-the-accepted sectors asks z = holds sectors asks z

pub journal-tells-the-truth : JournalTellsTheTruth
journal-tells-the-truth sectors asks z bib t = tells sectors asks z bib t

-- a run as long as the slice has no blank
full-run : (slice : List ℕ) (i c : ℕ) (es : List Entry) → run 0 slice i c ≡ Some es → length es ≡ c → (j : ℕ) → i ≤ j → j < i + c → zeros (sector_at slice j) ≡ false
unfolding run
full-run slice i zero es q l j a b = absurd (omega arith)
full-run slice i (suc c) es q l j a b =
    ⊎_elim
    (λ (v : (decode 0 (sector_at slice i) ≡ Blank) × (es ≡ []) × (run 0 slice (suc i) c ≡ Some [])). let none = ap length v.1 in absurd (omega arith))
    (λ (v : (x : Entry) × (xs : List Entry) × (decode 0 (sector_at slice i) ≡ Held x) × (es ≡ x ∷ xs) × (run 0 slice (suc i) c ≡ Some xs)).
    let more = ap length v.3 in
    ⊎_elim
    (λ (le : j ≤ i). let here : i ≡ j = omega arith in ap (λ k. zeros (sector_at slice k)) (sym here) ∙ held-zeros 0 (sector_at slice i) v.0 v.2)
    (λ (lt : i < j). full-run slice (suc i) c v.1 v.4 (omega arith) j (omega arith) (omega arith))
    (le-or-lt j i))
    (onto-inv (decode 0 (sector_at slice i)) (run 0 slice (suc i) c) es q)

no-blank : (slice : List ℕ) (es : List Entry) → InOrder slice es → length es ≡ length slice / 16 → NoBlank slice
no-blank slice es w full i lies = full-run slice 0 (length slice / 16) es w.1 full i (omega arith) (omega arith)

some-blank : (slice : List ℕ) (es : List Entry) → InOrder slice es → length es < length slice / 16 → SomeBlank slice
some-blank slice es w lt = (length es, omega arith, (first-blank slice es w lt).0)

-- where no test refuses, a blank sector decides
abbrev PlanIfBlank : List ℕ → Plan → Type 0
PlanIfBlank slice p = (SomeBlank slice × ((plan_answer p).code ≡ 0)) ⊎ (NoBlank slice × ((plan_answer p).code ≡ 6))

on-blank : (slice : List ℕ) (es : List Entry) (e : Entry) → InOrder slice es → PlanIfBlank slice (journal_on slice e (journal_blanks slice))
unfolding plan_answer refused
on-blank slice es e w =
    ⊎_elim
    (λ (f : (length es ≡ length slice / 16) × (journal_on slice e (journal_blanks slice) ≡ refuse 6)). inr (no-blank slice es w f.0, rw f.1))
    (λ (r : (length es < length slice / 16) × (journal_on slice e (journal_blanks slice) ≡ accept (put slice (length es) (encode e)))). inl (some-blank slice es w r.0, rw r.1))
    (journal-room slice es e w)

above-last : (at s : ℕ) (es : List Entry) → s < at → Above at es → last_stamp s es < at
unfolding last_stamp
above-last at s [] lt up = lt
above-last at s (e ∷ es) lt up = above-last at e.stamp es up.0 up.1

-- a post, and a strike by what stands
module _ (slice : List ℕ) (es : List Entry) (q : journal slice ≡ Some es) (bib at : ℕ) (lo : 1 ≤ bib) (one : 1 ≤ at) (up : Above at es) where
  abbrev on : Entry → Plan
  on e = journal_on slice e (journal_blanks slice)

  post-on : (status time : ℕ) → status_fits status time ≡ true → journal_post slice bib at status time ≡ on (post_entry bib at status time)
  unfolding journal_post ruled refuse_if is_post
  post-on status time fits =
      let e = post_entry bib at status time in
      journal-ruled slice es e q ∙ rw (ne_eqb bib 0 (λ n. omega arith), fits, lt-leb at (last_stamp 0 es) (above-last at 0 es (omega arith) up))

  strike-on : journal_strike slice bib at ≡ refuse_if (is_none (stands_as_of latest bib es)) 5 (on (strike_entry bib at))
  unfolding journal_strike ruled refuse_if is_post stands_in
  strike-on =
      let e = strike_entry bib at in
      journal-ruled slice es e q ∙ rw (ne_eqb bib 0 (λ n. omega arith), bare-fits, lt-leb at (last_stamp 0 es) (above-last at 0 es (omega arith) up), stands_plain latest bib es)

  struck : (o : Option Entry) (p r : Plan) → PlanIfBlank slice p → r ≡ refuse_if (is_none o) 5 p
      → ((o ≡ None) × ((plan_answer r).code ≡ 5)) ⊎ ((o ≡ None → ⊥) × PlanIfBlank slice r)
  unfolding is_none refuse_if plan_answer refused
  struck None p r t is = inl (refl, ap (λ x. (plan_answer x).code) is)
  struck (Some d) p r t is = inr ((λ n. none-some (sym n)), subst (PlanIfBlank slice) (sym is) t)

pub journal-takes-until-full : JournalTakesUntilFull
unfolding noted planned
journal-takes-until-full slice es q bib at status time lo one fits up =
    let w = journal-order slice es q in (
      subst (PlanIfBlank slice) (sym (post-on slice es q bib at lo one up status time fits)) (on-blank slice es (post_entry bib at status time) w),
      struck slice es q bib at lo one up (stands_as_of latest bib es) (on slice es q bib at lo one up (strike_entry bib at)) (journal_strike slice bib at)
          (on-blank slice es (strike_entry bib at) w) (strike-on slice es q bib at lo one up),
    )

-- what is so of a plan by what the slice holds
plan-by : (P : Plan → Type 0) (slice : List ℕ) (e : Entry) → P (refuse 1)
    → ((es : List Entry) → InOrder slice es → P (ruled es e (journal_on slice e (journal_blanks slice)))) → P (journal_plan slice e)
plan-by P slice e broken sound = go (journal slice) refl
  where
    go : (o : Option (List Entry)) → journal slice ≡ o → P (journal_plan slice e)
    go None q = subst P (sym (not-journal slice e q)) broken
    go (Some es) q = subst P (sym (journal-ruled slice es e q)) (sound es (journal-order slice es q))

-- 6 is the last test
plan-six : (slice : List ℕ) (e : Entry) → (plan_answer (journal_plan slice e)).code ≡ 6 → NoBlank slice
unfolding plan_answer refused
plan-six slice e = plan-by (λ p. (plan_answer p).code ≡ 6 → NoBlank slice) slice e (λ z. absurd (omega arith))
    (λ es w.
    let last = journal_on slice e (journal_blanks slice) in
    ⊎_elim
    (λ (x : (x : ℕ) × (x ≡ 0 → ⊥) × (x ≡ 6 → ⊥) × ((p : Plan) → ruled es e p ≡ refuse x)). λ six. absurd (x.2 (sym (ap (λ p. (plan_answer p).code) (x.3 last)) ∙ six)))
    (λ (x : (1 ≤ e.key) × (last_stamp 0 es < e.stamp) × ((p : Plan) → ruled es e p ≡ p) × (status_fits e.status e.value ≡ true)). λ six.
    ⊎_elim
    (λ (t : SomeBlank slice × ((plan_answer last).code ≡ 0)). let here = t.1 in let there : (plan_answer last).code ≡ 6 = sym (ap (λ p. (plan_answer p).code) (x.2 last)) ∙ six in absurd (omega (arith, here, there)))
    (λ (t : NoBlank slice × ((plan_answer last).code ≡ 6)). t.0)
    (on-blank slice es e w))
    (ruled-cases es e))

-- the numbers of look and next
sheet-code : (bib : ℕ) (o : Option Entry) → (sheet bib 0 o).code ≡ 0
unfolding sheet
sheet-code bib None = refl
sheet-code bib (Some e) = refl

look-six : (bib t : ℕ) (o : Option (List Entry)) → (journal_look_in bib t o).code ≡ 6 → ⊥
unfolding journal_look_in refused
look-six bib t None z = omega arith
look-six bib t (Some es) z =
    ⊎_elim
    (λ (b : eqb bib 0 ≡ true). let two : 2 ≡ 6 = rw b at z in omega arith)
    (λ (b : eqb bib 0 ≡ false). let none : (sheet bib 0 (stands_in t bib es)).code ≡ 6 = rw b at z in omega (arith, none, sheet-code bib (stands_in t bib es)))
    (bool_cases (eqb bib 0))

next-six : (k t : ℕ) (o : Option (List Entry)) → (journal_next_in k t o).code ≡ 6 → ⊥
unfolding journal_next_in refused next_of ended
next-six k t None z = omega arith
next-six k t (Some es) z = go (standing_above k (left t es)) z
  where
    go : (o : Option Entry) → (next_of o).code ≡ 6 → ⊥
    go None z = omega arith
    go (Some e) z = omega arith

pub six-means-full : SixMeansFull
unfolding noted planned answered journal_post journal_strike journal_look journal_next
six-means-full slice (post_ask bib at status time) z = plan-six slice (post_entry bib at status time) z
six-means-full slice (strike_ask bib at) z = plan-six slice (strike_entry bib at) z
six-means-full slice (look_ask bib t) z = absurd (look-six bib t (journal slice) z)
six-means-full slice (next_ask bib t) z = absurd (next-six bib t (journal slice) z)

-- the one write of an accepted entry
put-left : (slice : List ℕ) (es : List Entry) (e : Entry) → InOrder slice es → length es < length slice / 16 → zeros (encode e) ≡ false → Left slice (put slice (length es) (encode e))
put-left slice es e w lt says =
    (length es ∷ [], (encode e, zeros-sixteen (sector_at slice (length es)) (first-blank slice es w lt).0 (sector-length slice (length es) (omega arith)), length-encode e, says, refl))

plan-left : (slice : List ℕ) (e : Entry) → zeros (encode e) ≡ false → Left slice (plan_card slice (journal_plan slice e))
unfolding plan_card
plan-left slice e says = plan-by (λ p. Left slice (plan_card slice p)) slice e ([], refl)
    (λ es w.
    let last = journal_on slice e (journal_blanks slice) in
    ⊎_elim
    (λ (x : (x : ℕ) × (x ≡ 0 → ⊥) × (x ≡ 6 → ⊥) × ((p : Plan) → ruled es e p ≡ refuse x)). subst (λ p. Left slice (plan_card slice p)) (sym (x.3 last)) ([], refl))
    (λ (x : (1 ≤ e.key) × (last_stamp 0 es < e.stamp) × ((p : Plan) → ruled es e p ≡ p) × (status_fits e.status e.value ≡ true)).
    ⊎_elim
    (λ (f : (length es ≡ length slice / 16) × (last ≡ refuse 6)). subst (λ p. Left slice (plan_card slice p)) (sym (x.2 last ∙ f.1)) ([], refl))
    (λ (r : (length es < length slice / 16) × (last ≡ accept (put slice (length es) (encode e)))). subst (λ p. Left slice (plan_card slice p)) (sym (x.2 last ∙ r.1)) (put-left slice es e w r.0 says))
    (journal-room slice es e w))
    (ruled-cases es e))

pub journal-overwrites-nothing : JournalOverwritesNothing
unfolding noted planned answered journal_post journal_strike zeros encode
journal-overwrites-nothing slice (post_ask bib at status time) = left-promise slice (plan_card slice (journal_plan slice (post_entry bib at status time))) (plan-left slice (post_entry bib at status time) refl)
journal-overwrites-nothing slice (strike_ask bib at) = left-promise slice (plan_card slice (journal_plan slice (strike_entry bib at))) (plan-left slice (strike_entry bib at) refl)
journal-overwrites-nothing slice (look_ask bib t) = left-promise slice slice ([], refl)
journal-overwrites-nothing slice (next_ask bib t) = left-promise slice slice ([], refl)

-- a refusal leaves the slice, with zeros beside its number
look-bare : (bib t : ℕ) (o : Option (List Entry)) → Bare (journal_look_in bib t o)
unfolding journal_look_in
look-bare bib t None = bare-refused 1
look-bare bib t (Some es) = bare-if (eqb bib 0) (refused 2) (sheet bib 0 (stands_in t bib es)) (bare-refused 2) (sheet-bare bib 0 (stands_in t bib es))

next-bare : (k t : ℕ) (o : Option (List Entry)) → Bare (journal_next_in k t o)
unfolding journal_next_in next_of
next-bare k t None = bare-refused 1
next-bare k t (Some es) = go (standing_above k (left t es))
  where
    go : (o : Option Entry) → Bare (next_of o)
    go None = ended-bare
    go (Some e) = bare-zero (next_of (Some e)) refl

unchanged : (slice : List ℕ) (q : Ask) → ((noted slice q).answer.code ≡ 0 → ⊥) → ((noted slice q).card ≡ slice) × ((noted slice q).answer ≡ refused (noted slice q).answer.code)
unfolding noted planned answered journal_look journal_next
unchanged slice (post_ask bib at status time) f = (plan-same slice (journal_post slice bib at status time) f, plan-bare (journal_post slice bib at status time) f)
unchanged slice (strike_ask bib at) f = (plan-same slice (journal_strike slice bib at) f, plan-bare (journal_strike slice bib at) f)
unchanged slice (look_ask bib t) f = (refl, look-bare bib t (journal slice) f)
unchanged slice (next_ask bib t) f = (refl, next-bare bib t (journal slice) f)

pub journal-is-settled : JournalIsSettled
journal-is-settled slice q one two a b = (
  λ i. record { card = (a.1 ∙ sym b.1) i; answer = (a.0 ∙ sym b.0) i },
  λ f.
      let u = unchanged slice q (λ z. f (ap (λ (r : Answer). r.code) a.0 ∙ z)) in
      (a.1 ∙ u.0, a.0 ∙ u.1 ∙ ap (λ (r : Answer). refused r.code) (sym a.0)),
)

-- no answer has reads
plan-reads : (p : Plan) → (plan_answer p).reads ≡ 0
unfolding plan_answer refused
plan-reads (refuse c) = refl
plan-reads (accept new) = refl

look-reads : (bib t : ℕ) (o : Option (List Entry)) → (journal_look_in bib t o).reads ≡ 0
unfolding journal_look_in refused
look-reads bib t None = refl
look-reads bib t (Some es) = ⊎_elim (λ (b : eqb bib 0 ≡ true). rw b) (λ (b : eqb bib 0 ≡ false). rw b (sheet-reads bib 0 (stands_in t bib es))) (bool_cases (eqb bib 0))

next-reads : (k t : ℕ) (o : Option (List Entry)) → (journal_next_in k t o).reads ≡ 0
unfolding journal_next_in refused next_of ended
next-reads k t None = refl
next-reads k t (Some es) = go (standing_above k (left t es))
  where
    go : (o : Option Entry) → (next_of o).reads ≡ 0
    go None = refl
    go (Some e) = refl

noted-reads : (slice : List ℕ) (q : Ask) → (noted slice q).answer.reads ≡ 0
unfolding noted planned answered journal_look journal_next
noted-reads slice (post_ask bib at status time) = plan-reads (journal_post slice bib at status time)
noted-reads slice (strike_ask bib at) = plan-reads (journal_strike slice bib at)
noted-reads slice (look_ask bib t) = look-reads bib t (journal slice)
noted-reads slice (next_ask bib t) = next-reads bib t (journal slice)

pub journal-reads-nothing : JournalReadsNothing
unfolding noted answered
journal-reads-nothing slice = ((λ bib t. (refl, refl)), noted-reads slice)
