-- A turn and the end of a roll of records, counted and laid down.
use mathlib.Core.Path.{◌≡◌, refl, ap, sym, subst, ◌∙◌}
use mathlib.Core.Logic.{⊎_elim}
use mathlib.Core.Bool.{Bool, true, false}
use mathlib.Core.List.{List, [], ◌∷◌}
use Rattle.std.specs.Prelude.{Option, None, Some, Result, Ok, Err}
use Prim.Native.Nat.{ℕ, zero, suc, ◌+◌, ◌-◌, ◌<◌, ◌≤◌}
use native.Mathlib.Omega.{arith}
use borrow.Author.Tests.{eq-eqb, ne_eqb, eqb-true, lt-ltb, le-ltb}
use lib.Dec.{eqb}
use lib.ListN.{length}
use Rattle.rules.specs.declared.Answer.{Answer}
use Rattle.rules.specs.declared.Entry.{Entry}
use Rattle.rules.specs.declared.Head.{Head}
use Rattle.rules.specs.declared.refusal.Refusal.{Refusal}
use Rattle.rules.specs.declared.refusal.Refusal.TheVariants.{Layout, NoBib, Stamp, Damage, NothingStands, Full, Panel, Shape, NotBlank, NoLine, NoRequest, Unpaired, TooEarly, NoStatus, NoRoom}
use Rattle.rules.specs.Answers.{ended, refused}
use Rattle.rules.specs.Layout.{head_of, beginning}
use Rattle.rules.specs.Next.{next}
use Rattle.rules.specs.Plain.{if}
use Rattle.rules.specs.Records.{Roll, roll, record_of, roll_on, rolled}
use Rattle.rules.specs.Refusals.{number}
use Rattle.rules.specs.Sector.{is_post, post_entry}
use Rattle.laws.proofs.Bytes.{Bytes}
use Rattle.laws.proofs.Lists.{All}
use Rattle.laws.proofs.Tells.{next-status}
use Rattle.laws.proofs.Tools.{le-or-lt}
use Rattle.next.specs.Found.{told, Above}
use Rattle.writer.specs.Words.{Narrow}
use Rattle.scroll.specs.declared.Tally.{Tally}
use Rattle.scroll.specs.declared.roll.Cut.{Cut}
use Rattle.writer.specs.Rows.{puts}
use Rattle.scroll.specs.Records.{given, records_in, records_of, tally_of, tally_from, tally_met}

-- a post is the record that its answer gives
post-record : (e : Entry) → is_post e ≡ true → post_entry e.key e.stamp e.status e.value ≡ e
unfolding is_post
post-record e p = let k = eqb-true e.kind 1 p in λ i. record { kind = sym k i; status = e.status; key = e.key; stamp = e.stamp; value = e.value }

-- what next finds, of the roll from there on
module _ (card : List ℕ) (at last : ℕ) (r : Result (Option Entry) Refusal) (is : told r ≡ next card last at) where
  pub roll-ended : r ≡ Ok None → (c : ℕ) → rolled card at c last ≡ roll 0 []
  unfolding rolled roll_on told ended
  roll-ended q zero = refl
  roll-ended q (suc c) = ap (λ (a : Answer). roll_on a (rolled card at c)) (sym is ∙ ap told q)

  pub roll-refused : (x : Refusal) → r ≡ Err x → (c : ℕ) → rolled card at (suc c) last ≡ roll (number x) []
  unfolding rolled roll_on told refused
  roll-refused x q c = ap (λ (a : Answer). roll_on a (rolled card at c)) (sym is ∙ ap told q)

  pub roll-found : (e : Entry) → r ≡ Ok (Some e) → Above last r → (c : ℕ)
      → rolled card at (suc c) last ≡ roll (rolled card at c e.key).code (e ∷ (rolled card at c e.key).records)
  unfolding rolled roll_on told
  roll-found e q above c =
      let up = subst (Above last) q above in
      let n : e.key ≡ 0 → ⊥ = λ z. omega (arith, up.0) in
      let on = rolled card at c e.key in
      ap (λ (a : Answer). roll_on a (rolled card at c)) (sym is ∙ ap told q)
      ∙ rw (ne_eqb _ _ n) (ap (λ (d : Entry). roll on.code (d ∷ on.records)) (post-record e up.1))

pub row-none : (card : List ℕ) (at last c : ℕ) → (1 ≤ c → ⊥) → (rolled card at c last).records ≡ []
unfolding rolled
row-none card at last c n = let z : c ≡ 0 = omega arith in rw z

-- the records left of a row, where next finds so much
module _ (card : List ℕ) (at last : ℕ) (r : Result (Option Entry) Refusal) (is : told r ≡ next card last at) where
  pub row-ended : r ≡ Ok None → (c : ℕ) → (rolled card at c last).records ≡ []
  row-ended q c = ap (λ (l : Roll). l.records) (roll-ended card at last r is q c)

  pub row-refused : (x : Refusal) → r ≡ Err x → (c : ℕ) → (rolled card at c last).records ≡ []
  unfolding rolled
  row-refused x q zero = refl
  row-refused x q (suc c) = ap (λ (l : Roll). l.records) (roll-refused card at last r is x q c)

  pub row-found : (e : Entry) → r ≡ Ok (Some e) → Above last r → (c d : ℕ) → (1 ≤ c) × (d ≡ c - 1)
      → (rolled card at c last).records ≡ e ∷ (rolled card at d e.key).records
  row-found e q above c d k =
      let one : c ≡ suc d = omega arith in
      rw one (ap (λ (l : Roll). l.records) (roll-found card at last r is e q above d))

-- a row has at most as many records as places, and they can be written
pub rolled-short : (card : List ℕ) (at c bib : ℕ) → length (rolled card at c bib).records ≤ c
unfolding rolled roll_on
rolled-short card at zero bib = omega arith
rolled-short card at (suc c) bib =
    let a = next card bib at in
    ⊎_elim (λ (le : 1 ≤ a.bib). let less = rolled-short card at c a.bib in rw (ne_eqb a.bib 0 (λ z. omega arith)) (omega arith))
    (λ (lt : a.bib < 1). rw (eq-eqb a.bib 0 (omega arith)) (omega arith)) (le-or-lt 1 a.bib)

-- the record of an answer can be written
pub record-narrow : (card : List ℕ) → Bytes card → (at last : ℕ) (a : Answer) (e : Entry) → a ≡ next card last at → (a.bib ≡ 0 → ⊥) → e ≡ record_of a → Narrow e
record-narrow card by at last a e is ne rec =
    let kind = ap (λ (d : Entry). d.kind) rec in
    let status = ap (λ (d : Entry). d.status) rec in
    let told = ap (λ (b : Answer). b.status) is in
    let few = next-status card by at last (λ z. ne (ap (λ (b : Answer). b.bib) is ∙ z)) in
    (omega arith, omega arith)

pub rolled-narrow : (card : List ℕ) → Bytes card → (at c bib : ℕ) → All Narrow (rolled card at c bib).records
unfolding rolled roll_on
rolled-narrow card by at zero bib = tt
rolled-narrow card by at (suc c) bib =
    let a = next card bib at in
    ⊎_elim (λ (le : 1 ≤ a.bib). let ne : a.bib ≡ 0 → ⊥ = λ z. omega arith in rw (ne_eqb a.bib 0 ne) (record-narrow card by at bib a _ refl ne refl, rolled-narrow card by at c a.bib))
    (λ (lt : a.bib < 1). rw (eq-eqb a.bib 0 (omega arith)) tt) (le-or-lt 1 a.bib)

-- the tally of a roll that comes after n records
abbrev pub tally_after : ℕ → Roll → Tally
tally_after n r = record { code = r.code; count = n + length r.records }

one-length : (card : List ℕ) (at c bib : ℕ) → ((b : ℕ) → (rolled card at (length (rolled card at c b).records) b).records ≡ (rolled card at c b).records)
    → (t : Bool) → eqb (next card bib at).bib 0 ≡ t
    → (rolled card at (length (roll_on (next card bib at) (rolled card at c)).records) bib).records ≡ (roll_on (next card bib at) (rolled card at c)).records
unfolding rolled roll_on
one-length card at c bib less true e = simp e refl
one-length card at c bib less false e = simp e (ap (λ (es : List Entry). record_of (next card bib at) ∷ es) (less (next card bib at).bib))

-- a roll of as many places as another has records has the same records
pub roll-length : (card : List ℕ) (at c bib : ℕ) → (rolled card at (length (rolled card at c bib).records) bib).records ≡ (rolled card at c bib).records
unfolding rolled
roll-length card at zero bib = refl
roll-length card at (suc c) bib = one-length card at c bib (roll-length card at c) _ refl

given-all : (r : Roll) → r.code ≡ 0 → given r ≡ r
unfolding given
given-all r z = rw (eq-eqb _ _ z)

given-none : (r : Roll) → (r.code ≡ 0 → ⊥) → given r ≡ roll r.code []
unfolding given
given-none r z = rw (ne_eqb _ _ z)

-- the head is asked first, and its beginning
pub records-broken : (card : List ℕ) (at c bib : ℕ) → head_of card ≡ None → records_of card at c bib ≡ roll 1 []
unfolding records_of records_in
records-broken card at c bib e = rw e

module _ (card : List ℕ) (at c bib : ℕ) (h : Head) (e : head_of card ≡ Some h) where
  pub records-early : at < beginning card → records_of card at c bib ≡ roll 13 []
  unfolding records_of records_in
  records-early lt = rw (e, lt-ltb at (beginning card) lt)

  pub records-sound : beginning card ≤ at → records_of card at c bib ≡ given (rolled card at c bib)
  unfolding records_of records_in
  records-sound le = rw (e, le-ltb at (beginning card) le)

given-code : (r : Roll) → (given r).code ≡ r.code
unfolding given
given-code r = elim (eqb r.code 0) as (λ b. (if b r (roll r.code [])).code ≡ r.code) [ true ↦ refl | false ↦ refl ]

number-some : (x : Refusal) → number x ≡ 0 → ⊥
number-some Layout z = omega arith
number-some NoBib z = omega arith
number-some Stamp z = omega arith
number-some Damage z = omega arith
number-some NothingStands z = omega arith
number-some Full z = omega arith
number-some Panel z = omega arith
number-some Shape z = omega arith
number-some NotBlank z = omega arith
number-some NoLine z = omega arith
number-some NoRequest z = omega arith
number-some Unpaired z = omega arith
number-some TooEarly z = omega arith
number-some NoStatus z = omega arith
number-some NoRoom z = omega arith

-- what is given of a roll that was counted: all where it met no refusal, else nothing
module _ (r : Roll) where
  pub tally-all : (n : ℕ) → tally_met (Ok n) ≡ tally_of r → tally_from (Ok n) ≡ tally_of (given r)
  tally-all n h = rw (given-all r (sym (ap (λ (t : Tally). t.code) h))) h

  pub tally-none : (cut : Cut) → tally_met (Err cut) ≡ tally_of r → tally_from (Err cut.refusal) ≡ tally_of (given r)
  tally-none cut h =
      let same = ap (λ (t : Tally). t.code) h in
      rw (given-none r (λ z. number-some cut.refusal (same ∙ z))) (ap (λ (k : ℕ). tally_of (roll k [])) same)

-- a turn of the count, and each of its ends
module _ (card : List ℕ) (at c i last : ℕ) (r : Result (Option Entry) Refusal) (is : told r ≡ next card last at) (whole : Roll) (inv : tally_after i (rolled card at (c - i) last) ≡ tally_of whole) where
  pub count-ended : r ≡ Ok None → tally_met (Ok i) ≡ tally_of whole
  count-ended q = let n : i + 0 ≡ i = omega arith in rw n at (rw (roll-ended card at last r is q (c - i)) at inv)

  pub count-refused : i < c → (x : Refusal) → r ≡ Err x → tally_met (Err (record { refusal = x; count = i })) ≡ tally_of whole
  count-refused lt x q =
      let e : c - i ≡ suc (c - (i + 1)) = omega arith in
      let n : i + 0 ≡ i = omega arith in
      rw n at (rw (e, roll-refused card at last r is x q (c - (i + 1))) at inv)

  pub count-found : i < c → (e : Entry) → r ≡ Ok (Some e) → Above last r → tally_after (i + 1) (rolled card at (c - (i + 1)) e.key) ≡ tally_of whole
  count-found lt e q above =
      let one : c - i ≡ suc (c - (i + 1)) = omega arith in
      let on = rolled card at (c - (i + 1)) e.key in
      let many : i + 1 + length on.records ≡ i + suc (length on.records) = omega arith in
      rw many (rw (one, roll-found card at last r is e q above (c - (i + 1))) at inv)

pub count-full : (card : List ℕ) (at c last : ℕ) (whole : Roll) → tally_after c (rolled card at (c - c) last) ≡ tally_of whole → tally_met (Ok c) ≡ tally_of whole
unfolding rolled
count-full card at c last whole inv =
    let e : c - c ≡ 0 = omega arith in
    let n : c + 0 ≡ c = omega arith in
    rw n at (rw e at inv)

-- what a count says of the roll
pub counted-all : (r : Roll) (n : ℕ) → tally_from (Ok n) ≡ tally_of (given r) → (r.code ≡ 0) × (n ≡ length r.records)
counted-all r n is =
    let sound = sym (given-code r) ∙ sym (ap (λ (t : Tally). t.code) is) in
    (sound, rw (given-all r sound) at (ap (λ (t : Tally). t.count) is))

pub counted-none : (r : Roll) (x : Refusal) → tally_from (Err x) ≡ tally_of (given r) → r.code ≡ 0 → ⊥
counted-none r x is z = number-some x (ap (λ (t : Tally). t.code) is ∙ given-code r ∙ z)

-- a refusal is told by its number, and nothing is laid down
abbrev pub TellsRoll : Roll → List ℕ → Result ℕ Refusal → List ℕ → Type 0
TellsRoll r out done new = record { value : tally_from done ≡ tally_of r; out_after : new ≡ puts out 0 r.records }

pub refused-roll : (r : Roll) (out : List ℕ) (x : Refusal) (done : Result ℕ Refusal) → done ≡ Err x → r ≡ roll (number x) [] → TellsRoll r out done out
refused-roll r out x done e q = record { value = ap tally_from e ∙ ap tally_of (sym q); out_after = ap (λ (s : Roll). puts out 0 s.records) (sym q) }

-- beside a refusal nothing is given, and the buffer is as it was
pub records-none : (card : List ℕ) (at c bib : ℕ) (out : List ℕ) (t : Tally) → t ≡ tally_of (rolled card at c bib) → (t.code ≡ 0 → ⊥)
    → (record { code = t.code; count = 0 } ≡ tally_of (given (rolled card at c bib))) × (out ≡ puts out 0 (given (rolled card at c bib)).records)
records-none card at c bib out t is z =
    let same = ap (λ (u : Tally). u.code) is in
    rw (given-none (rolled card at c bib) (λ e. z (same ∙ e))) (ap (λ (n : ℕ). tally_of (roll n [])) same, refl)

module _ (card : List ℕ) (at c bib : ℕ) (out : List ℕ) where
  pub page-all : (n : ℕ) → tally_from (Ok n) ≡ tally_of (given (rolled card at c bib)) → (new : List ℕ) → new ≡ puts out 0 (rolled card at n bib).records
      → new ≡ puts out 0 (given (rolled card at c bib)).records
  page-all n is new h =
      let all = counted-all (rolled card at c bib) n is in
      rw (given-all (rolled card at c bib) all.0) (h ∙ ap (λ (k : ℕ). puts out 0 (rolled card at k bib).records) all.1 ∙ ap (puts out 0) (roll-length card at c bib))

  pub page-none : (cut : Cut) → tally_met (Err cut) ≡ tally_of (rolled card at c bib)
      → (tally_from (Err cut.refusal) ≡ tally_of (given (rolled card at c bib))) × (out ≡ puts out 0 (given (rolled card at c bib)).records)
  page-none cut is = records-none card at c bib out _ is (number-some cut.refusal)
