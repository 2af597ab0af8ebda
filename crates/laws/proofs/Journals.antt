-- What a sound journal is, and where the next entry goes on it.
use mathlib.Core.Path.{◌≡◌, refl, ap, ap₂, sym, ◌∙◌}
use mathlib.Core.Logic.{◌⊎◌, inl, inr, ⊎_elim}
use Rattle.std.specs.Prelude.{Option, None, Some}
use mathlib.Core.List.{List, [], ◌∷◌}
use Prim.Native.Nat.{ℕ, suc, ◌+◌, ◌-◌, ◌/◌, ◌%◌, ◌<◌}
use mathlib.Core.Bool.{Bool, true, false}
use native.Mathlib.Omega.{arith}
use lib.ListN.{length}
use lib.Dec.{eqb}
use borrow.Author.Tests.{eq-eqb, ne_eqb, eqb-true}
use Rattle.rules.specs.declared.Entry.{Entry}
use Rattle.rules.specs.Bucket.{run}
use Rattle.rules.specs.Journal.{rising, sound_journal, journal, journal_blanks, journal_on, journal_for, journal_plan}
use Rattle.rules.specs.Plain.{if, and_then}
use Rattle.rules.specs.Rewrite.{fill}
use Rattle.rules.specs.Sector.{put, encode}
use Rattle.rules.specs.Write.{refuse, accept, refuse_if}
use Rattle.laws.proofs.Tools.{eq-or-ne, guard-true, then-inv, none-some}
use Rattle.laws.proofs.Blanks.{up_from, blanks-from}
use Rattle.laws.proofs.Buckets.{run_length}

-- a slice of whole sectors, a run in it, and its stamps rise
abbrev pub InOrder : List ℕ → List Entry → Type 0
InOrder slice es = (length slice % 16 ≡ 0) × (run 0 slice 0 (length slice / 16) ≡ Some es) × (rising 0 es ≡ true)

whole-inv : (b : Bool) (o : Option (List Entry)) (es : List Entry) → if b o None ≡ Some es → (b ≡ true) × (o ≡ Some es)
whole-inv true o es q = (refl, q)
whole-inv false o es q = absurd (none-some q)

pub journal-order : (slice : List ℕ) (es : List Entry) → journal slice ≡ Some es → InOrder slice es
unfolding journal sound_journal
journal-order slice es q =
    let w = whole-inv (eqb (length slice % 16) 0) (and_then (run 0 slice 0 (length slice / 16)) sound_journal) es q in
    let i = then-inv (run 0 slice 0 (length slice / 16)) sound_journal es w.1 in
    let g = guard-true (rising 0 i.0) i.0 es i.2 in
    (eqb-true (length slice % 16) 0 w.0, i.1 ∙ ap Some g.1, sym (ap (rising 0) g.1) ∙ g.0)

pub order-journal : (slice : List ℕ) (es : List Entry) → InOrder slice es → journal slice ≡ Some es
unfolding journal sound_journal
order-journal slice es w = rw (eq-eqb (length slice % 16) 0 w.0, w.1, w.2)

-- any other slice is refused
pub not-journal : (slice : List ℕ) (e : Entry) → journal slice ≡ None → journal_plan slice e ≡ refuse 1
unfolding journal_plan journal_for
not-journal slice e q = rw q

-- the blanks are those behind its entries
on_none : (slice : List ℕ) (e : Entry) → journal_on slice e [] ≡ refuse 6
unfolding journal_on refuse_if
on_none slice e = refl

on-first : (slice : List ℕ) (e : Entry) (i : ℕ) (is : List ℕ) → journal_on slice e (i ∷ is) ≡ accept (put slice i (encode e))
unfolding journal_on refuse_if fill
on-first slice e i is = rw (ne_eqb (length (i ∷ is)) 0 (λ z. omega arith))

-- 6 where no sector is blank; else the entry goes behind the others
pub journal-room : (slice : List ℕ) (es : List Entry) (e : Entry) → InOrder slice es
    → ((length es ≡ length slice / 16) × (journal_on slice e (journal_blanks slice) ≡ refuse 6))
    ⊎ ((length es < length slice / 16) × (journal_on slice e (journal_blanks slice) ≡ accept (put slice (length es) (encode e))))
unfolding journal_blanks
journal-room slice es e w =
    let c = length slice / 16 in
    let most = run_length 0 slice 0 c es w.1 in
    let are = blanks-from 0 slice 0 c es w.1 in
    let n : 0 + length es ≡ length es = omega arith in
    ⊎_elim
    (λ (full : length es ≡ c).
    let z : c - length es ≡ 0 = omega arith in
    inl (full, ap (journal_on slice e) (are ∙ ap (up_from (0 + length es)) z) ∙ on_none slice e))
    (λ (room : length es ≡ c → ⊥).
    let lt : length es < c = omega arith in
    let more : c - length es ≡ suc (c - length es - 1) = omega arith in
    inr (lt, ap (journal_on slice e) (are ∙ ap₂ up_from n more) ∙ on-first slice e (length es) (up_from (suc (length es)) (c - length es - 1))))
    (eq-or-ne (length es) c)
