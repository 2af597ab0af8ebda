-- What a reading says of the rule: the refusals in their order, the write, and the look.
use mathlib.Core.Path.{◌≡◌, refl, ap, sym, ◌∙◌}
use mathlib.Core.Logic.{⊎_elim}
use mathlib.Core.Bool.{Bool, true, false, not}
use Rattle.std.specs.Prelude.{Option, None, Some, Result, Ok, Err}
use mathlib.Core.List.{List}
use Prim.Native.Nat.{ℕ, ◌+◌, ◌*◌, ◌/◌, ◌≤◌, ◌<◌}
use native.Mathlib.Omega.{arith}
use lib.Dec.{leb, eqb}
use lib.ListN.{length}
use borrow.Author.Tests.{eq-eqb, ne_eqb}
use Rattle.rules.specs.declared.Entry.{Entry}
use Rattle.rules.specs.declared.refusal.Refusal.{Refusal}
use Rattle.rules.specs.declared.refusal.Refusal.TheVariants.{Layout, Stamp, NothingStands, Full}
use Rattle.rules.specs.Answers.{refused, sheet}
use Rattle.rules.specs.Journal.{journal, stamp_in, stands_in, journal_blanks, journal_on, journal_for, journal_plan, journal_look_in, journal_look}
use Rattle.rules.specs.Plain.{if, ◌&◌, is_none, last_of}
use Rattle.rules.specs.Refusals.{number}
use Rattle.rules.specs.Sector.{put, encode, is_post, status_fits}
use Rattle.rules.specs.Walk.{left, copy_of, standing}
use Rattle.rules.specs.Write.{Plan, refuse, accept, refuse_if, latest}
use Rattle.laws.proofs.Tools.{bool_cases, true-false}
use Rattle.laws.proofs.Entries.{Asks, kinds-small, fits-status}
use Rattle.laws.proofs.Journals.{journal-order, journal-room}
use Rattle.sector.specs.Flaws.{checked}
use Rattle.sector.proofs.Flaws.{checked-refuses, checked-fine, checked-goes}
use Rattle.writer.specs.Words.{Narrow}
use Rattle.scan.specs.Look.{told}
use Rattle.journal.specs.declared.Pass.{Pass}
use Rattle.journal.specs.Passes.{pass_of, reading_of, stands, first_of, admitted}

-- the reading taken apart
pub broken-none : (x t : ℕ) (o : Option (List Entry)) (r : Refusal) → reading_of x t o ≡ Err r → (o ≡ None) × (r ≡ Layout)
unfolding reading_of
broken-none x t None r q = (refl, cc)
broken-none x t (Some es) r q = absurd (cc)

pub sound-some : (x t : ℕ) (o : Option (List Entry)) (p : Pass) → reading_of x t o ≡ Ok p → (es : List Entry) × (o ≡ Some es) × (p ≡ pass_of x t es)
unfolding reading_of
sound-some x t None p q = absurd (cc)
sound-some x t (Some es) p q = (es, refl, cc)

-- a check refuses, or lets go on
abbrev coded : Result (Unit {0}) Refusal → Plan → Plan
coded (Ok u) p = p
coded (Err r) p = refuse (number r)

-- the tests one after the other
abbrev tested : Bool → Bool → Bool → Result (Unit {0}) Refusal
tested b c d = if b (Err Stamp) (if c (Err NothingStands) (if d (Err Full) (Ok tt)))

in_order : (b c d : Bool) (p q : Plan) → q ≡ refuse_if d 6 p → refuse_if b 3 (refuse_if c 5 q) ≡ coded (tested b c d) p
unfolding refuse_if
in_order true c d p q is = refl
in_order false true d p q is = refl
in_order false false true p q is = is
in_order false false false p q is = is

all-passed : (b c d : Bool) → tested b c d ≡ Ok tt → d ≡ false
all-passed true c d q = absurd (cc)
all-passed false true d q = absurd (cc)
all-passed false false true q = absurd (cc)
all-passed false false false q = refl

-- the entry's own flaws ahead of them
check-first : (e : Entry) (rest : Result (Unit {0}) Refusal) (p q : Plan) → q ≡ coded rest p
    → refuse_if (eqb e.key 0) 2 (refuse_if (not (status_fits e.status e.value)) 14 q) ≡ coded (first_of (checked e) rest) p
unfolding first_of
check-first e rest p q is = go (checked e) refl
  where
    go : (f : Result (Unit {0}) Refusal) → checked e ≡ f → refuse_if (eqb e.key 0) 2 (refuse_if (not (status_fits e.status e.value)) 14 q) ≡ coded (first_of f rest) p
    go (Ok u) i = checked-goes e q i ∙ is
    go (Err r) i = checked-refuses e r q i

both-fine : (a b : Result (Unit {0}) Refusal) → first_of a b ≡ Ok tt → (a ≡ Ok tt) × (b ≡ Ok tt)
unfolding first_of
both-fine (Ok u) b q = (refl, q)
both-fine (Err r) b q = absurd (cc)

none-stands : (o : Option Entry) → is_none (standing o) ≡ not (stands o)
unfolding is_none standing stands
none-stands None = refl
none-stands (Some e) = ⊎_elim (λ (p : is_post e ≡ true). rw p) (λ (p : is_post e ≡ false). rw p) (bool_cases (is_post e))

module _ (slice : List ℕ) (e : Entry) (es : List Entry) (q : journal slice ≡ Some es) where
  -- where the entry goes
  at-end : journal_on slice e (journal_blanks slice) ≡ refuse_if (eqb (length es) (length slice / 16)) 6 (accept (put slice (length es) (encode e)))
  unfolding refuse_if
  at-end =
      ⊎_elim
      (λ (f : (length es ≡ length slice / 16) × (journal_on slice e (journal_blanks slice) ≡ refuse 6)). rw (eq-eqb (length es) (length slice / 16) f.0) f.1)
      (λ (r : (length es < length slice / 16) × (journal_on slice e (journal_blanks slice) ≡ accept (put slice (length es) (encode e)))).
      rw (ne_eqb (length es) (length slice / 16) (λ f. omega (arith, r.0, f))) r.1)
      (journal-room slice es e (journal-order slice es q))

  plan-coded : (p : Pass) → p ≡ pass_of e.key latest es → journal_plan slice e ≡ coded (admitted e p (length slice / 16)) (accept (put slice p.used (encode e)))
  unfolding journal_plan journal_for admitted pass_of stands_in
  plan-coded p is =
      rw (is, q, ← none-stands (copy_of e.key (left latest es)))
      (check-first e _ (accept (put slice (length es) (encode e))) _
      (in_order (leb e.stamp (stamp_in (last_of es))) (not (is_post e) & is_none (standing (copy_of e.key (left latest es)))) (eqb (length es) (length slice / 16))
      (accept (put slice (length es) (encode e))) (journal_on slice e (journal_blanks slice)) at-end))

  module _ (p : Pass) (is : p ≡ pass_of e.key latest es) where
    pub objected : (r : Refusal) → admitted e p (length slice / 16) ≡ Err r → journal_plan slice e ≡ refuse (number r)
    objected r says = rw says at (plan-coded p is)

    module _ (says : admitted e p (length slice / 16) ≡ Ok tt) where
      pub written : journal_plan slice e ≡ accept (put slice p.used (encode e))
      written = rw says at (plan-coded p is)

      fine : (checked e ≡ Ok tt) × (tested (leb e.stamp p.last) (not (is_post e) & not (stands p.copy)) (eqb p.used (length slice / 16)) ≡ Ok tt)
      unfolding admitted
      fine = both-fine (checked e) (tested (leb e.stamp p.last) (not (is_post e) & not (stands p.copy)) (eqb p.used (length slice / 16))) says

      -- there is a sector for it, since else it had been refused
      pub room_for : 16 * p.used + 16 ≤ length slice
      unfolding pass_of
      room_for = ⊎_elim
          (λ (f : (length es ≡ length slice / 16) × (journal_on slice e (journal_blanks slice) ≡ refuse 6)).
          let full = all-passed _ _ _ fine.1 in
          absurd (true-false (sym (eq-eqb p.used (length slice / 16) (ap (λ (r : Pass). r.used) is ∙ f.0)) ∙ full)))
          (λ (r : (length es < length slice / 16) × (journal_on slice e (journal_blanks slice) ≡ accept (put slice (length es) (encode e)))).
          let u : p.used ≡ length es = ap (λ (r : Pass). r.used) is in omega (arith, r.0, u))
          (journal-room slice es e (journal-order slice es q))

      -- and it can be written
      pub narrow-now : Asks e → Narrow e
      unfolding Asks
      narrow-now asks = (kinds-small e asks.1, omega (arith, fits-status e.status e.value (checked-fine e fine.0).1))

-- the look
pub look-broken : (slice : List ℕ) (bib t : ℕ) → journal slice ≡ None → refused 1 ≡ journal_look slice bib t
unfolding journal_look journal_look_in
look-broken slice bib t q = rw q

told-sheet : (bib : ℕ) (o : Option Entry) → told bib 0 (Ok o) ≡ sheet bib 0 (standing o)
unfolding told standing
told-sheet bib None = refl
told-sheet bib (Some e) = refl

module _ (slice : List ℕ) (bib t : ℕ) (es : List Entry) (q : journal slice ≡ Some es) where
  pub look-zero : bib ≡ 0 → refused 2 ≡ journal_look slice bib t
  unfolding journal_look journal_look_in
  look-zero z = rw (q, eq-eqb bib 0 z)

  pub look-told : (bib ≡ 0 → ⊥) → (p : Pass) → p ≡ pass_of bib t es → told bib 0 (Ok p.copy) ≡ journal_look slice bib t
  unfolding journal_look journal_look_in stands_in pass_of
  look-told n p is = rw (is, q, ne_eqb bib 0 n) (told-sheet bib (copy_of bib (left t es)))
