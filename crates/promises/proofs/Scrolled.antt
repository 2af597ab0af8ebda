-- The scroll and its records in a row are settled, and at its end a scroll stays.
use mathlib.Core.Path.{◌≡◌, refl, ap, sym, ◌∙◌}
use mathlib.Core.List.{List, []}
use Prim.Native.Nat.{ℕ, ◌/◌}
use Rattle.std.specs.Prelude.{Option, None, Some}
use mathlib.Core.Bool.{Bool, true, false}
use lib.ListN.{length}
use lib.Dec.{ltb, eqb}
use borrow.Author.Tests.{eq-eqb, eqb-true}
use Rattle.rules.specs.declared.Head.{Head}
use Rattle.rules.specs.Layout.{head_of, beginning}
use Rattle.rules.specs.Plain.{if}
use Rattle.rules.specs.Records.{Roll, roll, rolled}
use Rattle.writer.specs.Rows.{puts}
use Rattle.scroll.specs.declared.Tally.{Tally}
use Rattle.scroll.specs.declared.Scroll.{Scroll}
use Rattle.scroll.specs.Records.{given, records_in, records_of, tally_of}
use Rattle.scroll.specs.Scroll.{last_after, after, step_of}
use Rattle.promises.specs.Promises.{RecordsAreSettled, ScrollIsSettled, ScrollSaysAgain}

-- a roll with a number beside 0 has no record
abbrev pub Bare : Roll → Type 0
Bare r = (r.code ≡ 0 → ⊥) → r.records ≡ []

given-bare : (r : Roll) → Bare (given r)
unfolding given
given-bare r = one (eqb r.code 0) refl
  where
    one : (b : Bool) → eqb r.code 0 ≡ b → Bare (if b r (roll r.code []))
    one true e n = absurd (n (eqb-true r.code 0 e))
    one false e n = refl

in-bare : (card : List ℕ) (at c bib : ℕ) (o : Option Head) → Bare (records_in card at c bib o)
unfolding records_in
in-bare card at c bib None = λ n. refl
in-bare card at c bib (Some h) =
    elim (ltb at (beginning card)) as (λ b. Bare (if b (roll 13 []) (given (rolled card at c bib)))) [ true ↦ λ n. refl | false ↦ given-bare (rolled card at c bib) ]

records-bare : (card : List ℕ) (at c bib : ℕ) → Bare (records_of card at c bib)
unfolding records_of
records-bare card at c bib = in-bare card at c bib (head_of card)

-- a tally of a roll, and a buffer with its records in a row
abbrev Laid : Roll → List ℕ → Tally → List ℕ → Type 0
Laid r out tally new = (tally ≡ tally_of r) × (new ≡ puts out 0 r.records)

pub rolls-settled : (r : Roll) → Bare r → (out : List ℕ) (one two : Tally) (new other : List ℕ) → Laid r out one new → Laid r out two other
    → (one ≡ two) × (new ≡ other) × ((one.code ≡ 0 → ⊥) → (one.count ≡ 0) × (new ≡ out))
rolls-settled r bare out one two new other a b = (
  a.0 ∙ sym b.0,
  a.1 ∙ sym b.1,
  λ n.
      let none-there = bare (λ z. n (ap (λ (t : Tally). t.code) a.0 ∙ z)) in
      (ap (λ (t : Tally). t.count) a.0 ∙ ap length none-there, a.1 ∙ ap (puts out 0) none-there),
)

pub records-are-settled : RecordsAreSettled
records-are-settled card bib at out = rolls-settled (records_of card at (length out / 16) bib) (records-bare card at (length out / 16) bib) out

pub scroll-is-settled : ScrollIsSettled
scroll-is-settled = (
  (λ card at one two a b. λ i. record { card = (a.0 ∙ sym b.0) i; at = (a.1 ∙ sym b.1) i; last = (a.2 ∙ sym b.2) i }),
  (λ s a b one two f g. let same = f.0 ∙ sym g.0 in (same, f.1 ∙ ap (after s) same ∙ sym g.1)),
)

stays : (s : Scroll) → (step_of s).bib ≡ 0 → after s (step_of s) ≡ s
unfolding last_after
stays s z = rw (eq-eqb _ _ z)

pub scroll-says-again : ScrollSaysAgain
scroll-says-again s z = ap step_of (stays s z)
