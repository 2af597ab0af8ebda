-- A journal and a formatted card answer the same calls alike until either is full.
use mathlib.Core.Path.{◌≡◌, refl, sym, ap, subst, ◌∙◌}
use mathlib.Core.Logic.{◌⊎◌, inl, inr, ⊎_elim}
use mathlib.Core.Bool.{true, not}
use Rattle.std.specs.Prelude.{Option, None, Some}
use mathlib.Core.List.{List, [], ◌∷◌, ◌++◌}
use Prim.Native.Nat.{ℕ, ◌/◌, ◌≤◌, ◌<◌}
use native.Mathlib.Omega.{arith}
use lib.Dec.{leb, eqb}
use lib.ListN.{length}
use borrow.Author.Tests.{eq-eqb, ne_eqb, le-ltb}
use Rattle.rules.specs.declared.Entry.{Entry}
use Rattle.rules.specs.declared.Head.{Head}
use Rattle.rules.specs.Answers.{refused, sheet, ended}
use Rattle.rules.specs.Calls.{Ask, post_ask, strike_ask, look_ask, next_ask, called, noted, planned, answered}
use Rattle.rules.specs.Journal.{stands_in, journal_blanks, journal_on, journal_plan, journal_post, journal_strike, journal_look_in, journal_look, journal_next_in, journal_next}
use Rattle.rules.specs.Layout.{beginning}
use Rattle.rules.specs.Look.{look_on, look_in, look}
use Rattle.rules.specs.Next.{next, standing_above}
use Rattle.rules.specs.Plain.{◌&◌, is_none}
use Rattle.rules.specs.Sector.{put, encode, is_post, post_entry, strike_entry, status_fits}
use Rattle.rules.specs.Walk.{left}
use Rattle.rules.specs.Write.{Plan, refuse, accept, refuse_if, plan_card, plan_answer, plan, plan_on, post, strike, latest}
use Rattle.laws.proofs.Entries.{Asks, asks-small, post-asks, strike-asks}
use Rattle.laws.proofs.Journals.{InOrder, order-journal, journal-room}
use Rattle.laws.proofs.Lists.{All}
use Rattle.laws.proofs.Tools.{eq-or-ne}
use Rattle.tree.proofs.Ends.{ends-here}
use Rattle.tree.proofs.Found.{found-one, found-ext}
use Rattle.laws.proofs.Tells.{given}
use Rattle.tree.proofs.Keeps.{Keeps, keeps-next}
use Rattle.tree.proofs.Seasoned.{said}
use Rattle.promises.specs.Calls.{AsksSized, blank_slice, card_answers, journal_answers, needed, remaining}
use Rattle.promises.specs.Reading.{stands_as_of, last_stamp}
use Rattle.promises.specs.Promises.{readless, AgreeUntilSix, JournalAnswersAlike}
use Rattle.promises.proofs.Begun.{Starts, formatted-starts}
use Rattle.promises.proofs.Journals.{ruled, ruled-cases, journal-ruled, order-more, blank-order, next-given, found_in}
use Rattle.promises.proofs.Reading.{after-plain, stands_plain}
use Rattle.promises.proofs.Since.{Since, since-more, since-keeps, after}
use Rattle.promises.proofs.Taken.{p, plan-ruled, on-taken}

-- the keys of accepted entries have 32 bits
since-small : (c : List ℕ) (es : List Entry) (d : List ℕ) → Since c es d → All (λ e. (0 ≤ e.key) × (e.key < 4294967296)) es
since-small c [] d q = tt
since-small c (e ∷ es) d q = ((omega arith, asks-small e q.1), since-small q.0 es d q.3)

readless-refused : (x : ℕ) → readless (refused x) ≡ refused x
unfolding readless refused
readless-refused x = refl

readless-sheet : (bib reads : ℕ) (o : Option Entry) → readless (sheet bib reads o) ≡ sheet bib 0 o
unfolding readless sheet
readless-sheet bib reads None = refl
readless-sheet bib reads (Some e) = refl

readless-given : (o : Option Entry) → readless (given o) ≡ given o
unfolding readless ended
readless-given None = refl
readless-given (Some e) = refl

-- what the next calls are answered with, once both have the same entries
abbrev OnBoth : List ℕ → List Ask → Type 0
OnBoth c asks = (es : List Entry) (d slice : List ℕ) → Since c es d → InOrder slice es → AgreeUntilSix (card_answers d asks) (journal_answers slice asks)

module _ (h : Head) (c : List ℕ) (st : Starts h 0 [] c) (es : List Entry) (d slice : List ℕ) (since : Since c es d) (w : InOrder slice es) where
  abbrev g : ℕ → ℕ → Option Entry
  g = after (λ t. said []) es

  ke : Keeps h d g 0 (last_stamp 0 es)
  ke = (since-keeps h c (λ t. said []) 0 0 st.keeps es d since).0

  plain : (t x : ℕ) → g t x ≡ stands_as_of t x es
  plain t x = after-plain [] es t x tt

  -- the tests before 6 are the same on both
  card-ruled : (e : Entry) (a : Asks e) → plan d e ≡ ruled es e (plan_on h d e (p h d g 0 (last_stamp 0 es) ke e a))
  unfolding ruled stands_in
  card-ruled e a =
      plan-ruled h d g 0 (last_stamp 0 es) ke e a
      ∙ ap (λ o. refuse_if (eqb e.key 0) 2 (refuse_if (not (status_fits e.status e.value)) 14 (refuse_if (leb e.stamp (last_stamp 0 es)) 3 (refuse_if (not (is_post e) & is_none o) 5 (plan_on h d e (p h d g 0 (last_stamp 0 es) ke e a))))))
      (plain latest e.key ∙ stands_plain latest e.key es)

  module _ (asks : List Ask) (rest : OnBoth c asks) where
    abbrev Both : Plan → Plan → Type 0
    Both x y =
        (((plan_answer x).code ≡ 6) ⊎ ((plan_answer y).code ≡ 6))
        ⊎ ((readless (plan_answer x) ≡ plan_answer y) × AgreeUntilSix (card_answers (plan_card d x) asks) (journal_answers (plan_card slice y) asks))

    refused-both : (x : ℕ) → Both (refuse x) (refuse x)
    unfolding plan_answer plan_card
    refused-both x = inr (readless-refused x, rest es d slice since w)

    six-card : (y : Plan) → Both (refuse 6) y
    unfolding plan_answer refused
    six-card y = inl (inl refl)

    six-journal : (x : Plan) → Both x (refuse 6)
    unfolding plan_answer refused
    six-journal x = inl (inr refl)

    taken-both : (e : Entry) → Asks e → 1 ≤ e.key → last_stamp 0 es < e.stamp → status_fits e.status e.value ≡ true → length es < length slice / 16 → (new : List ℕ) → plan d e ≡ accept new
        → Both (accept new) (accept (put slice (length es) (encode e)))
    unfolding plan_answer plan_card
    taken-both e a key up fits lt new q =
        inr (readless-refused 0, rest (es ++ (e ∷ [])) new (put slice (length es) (encode e)) (since-more c es d (e ∷ []) new since (new, a, q, refl)) (order-more slice es e w a key up fits lt))

    pub write-agrees : (e : Entry) → Asks e → Both (plan d e) (journal_plan slice e)
    write-agrees e a =
        let on = plan_on h d e (p h d g 0 (last_stamp 0 es) ke e a) in
        let last = journal_on slice e (journal_blanks slice) in
        let cr = card-ruled e a in
        let jr = journal-ruled slice es e (order-journal slice es w) in
        ⊎_elim
        (λ (x : (x : ℕ) × (x ≡ 0 → ⊥) × (x ≡ 6 → ⊥) × ((q : Plan) → ruled es e q ≡ refuse x)).
        subst (λ q. Both q (journal_plan slice e)) (sym (cr ∙ x.3 on)) (subst (Both (refuse x.0)) (sym (jr ∙ x.3 last)) (refused-both x.0)))
        (λ (x : (1 ≤ e.key) × (last_stamp 0 es < e.stamp) × ((q : Plan) → ruled es e q ≡ q) × (status_fits e.status e.value ≡ true)).
        let cq : plan d e ≡ on = cr ∙ x.2 on in
        let jq : journal_plan slice e ≡ last = jr ∙ x.2 last in
        let taken = on-taken h d g 0 (last_stamp 0 es) ke e a x.0 x.1 x.3 in
        ⊎_elim
        (λ (y : (needed h d e taken.0 ≤ remaining h d) × ((new : List ℕ) × (on ≡ accept new))).
        ⊎_elim
        (λ (f : (length es ≡ length slice / 16) × (last ≡ refuse 6)). subst (Both (plan d e)) (sym (jq ∙ f.1)) (six-journal (plan d e)))
        (λ (r : (length es < length slice / 16) × (last ≡ accept (put slice (length es) (encode e)))).
        subst (λ q. Both q (journal_plan slice e)) (sym (cq ∙ y.1.1))
        (subst (Both (accept y.1.0)) (sym (jq ∙ r.1)) (taken-both e a x.0 x.1 x.3 r.0 y.1.0 (cq ∙ y.1.1))))
        (journal-room slice es e w))
        (λ (y : (remaining h d < needed h d e taken.0) × (on ≡ refuse 6)). subst (λ q. Both q (journal_plan slice e)) (sym (cq ∙ y.1)) (six-card (journal_plan slice e)))
        taken.2)
        (ruled-cases es e)

  -- look and next
  look-zero : (bib t : ℕ) → bib ≡ 0 → look d bib t ≡ refused 2
  unfolding look look_in
  look-zero bib t z = rw (ke.state.head, eq-eqb bib 0 z)

  look-some : (bib t : ℕ) → (bib ≡ 0 → ⊥) → bib < 4294967296 → (reads : ℕ) × (look d bib t ≡ sheet bib reads (stands_as_of t bib es))
  unfolding look look_in look_on
  look-some bib t n lt =
      let a = ke.answers t bib (omega arith) lt in
      let begins = ke.begins in
      (length a.0, rw (ke.state.head, ne_eqb bib 0 n, le-ltb t (beginning d) (omega arith), a.1, ends-here (g t) t bib 0 4294967296 a.0 a.2 ∙ plain t bib))

  look-agrees : (bib t : ℕ) → bib < 4294967296 → readless (look d bib t) ≡ journal_look slice bib t
  unfolding journal_look journal_look_in stands_in
  look-agrees bib t lt =
      let held = order-journal slice es w in
      ⊎_elim
      (λ (z : bib ≡ 0). ap readless (look-zero bib t z) ∙ readless-refused 2 ∙ sym (rw (held, eq-eqb bib 0 z)))
      (λ (n : bib ≡ 0 → ⊥).
      let l = look-some bib t n lt in
      ap readless l.1 ∙ readless-sheet bib l.0 (stands_as_of t bib es) ∙ sym (rw (held, ne_eqb bib 0 n, stands_plain t bib es)))
      (eq-or-ne bib 0)

  next-agrees : (k t : ℕ) → k < 4294967296 → readless (next d k t) ≡ journal_next slice k t
  unfolding journal_next journal_next_in
  next-agrees k t lt =
      let n = keeps-next h d g 0 (last_stamp 0 es) ke k t (omega arith) lt in
      let here = found-ext (g t) (λ x. stands_as_of t x es) k 0 4294967296 n.0 (λ x a b. plain t x) n.2 in
      let same = found-one (λ x. stands_as_of t x es) k 4294967296 n.0 (standing_above k (left t es)) here (found_in t k es (since-small c es d since)) in
      ap readless n.1 ∙ readless-given n.0 ∙ ap given same ∙ sym (next-given (standing_above k (left t es))) ∙ sym (rw (order-journal slice es w))

agrees : (h : Head) (c : List ℕ) → Starts h 0 [] c → (asks : List Ask) → AsksSized asks → OnBoth c asks
unfolding card_answers journal_answers called noted planned answered post strike journal_post journal_strike
agrees h c st [] z es d slice q w = tt
agrees h c st (post_ask bib at status time ∷ asks) z es d slice q w =
    write-agrees h c st es d slice q w asks (agrees h c st asks z.1) (post_entry bib at status time) (post-asks bib at status time z.0.0 z.0.1 z.0.2)
agrees h c st (strike_ask bib at ∷ asks) z es d slice q w =
    write-agrees h c st es d slice q w asks (agrees h c st asks z.1) (strike_entry bib at) (strike-asks bib at z.0.0 z.0.1)
agrees h c st (look_ask bib t ∷ asks) z es d slice q w = inr (look-agrees h c st es d slice q w bib t z.0, agrees h c st asks z.1 es d slice q w)
agrees h c st (next_ask bib t ∷ asks) z es d slice q w = inr (next-agrees h c st es d slice q w bib t z.0, agrees h c st asks z.1 es d slice q w)

pub journal-answers-alike : JournalAnswersAlike
journal-answers-alike h card f sectors asks z = agrees h card (formatted-starts h card f) asks z [] card (blank_slice sectors) refl (blank-order sectors)
