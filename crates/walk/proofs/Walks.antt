-- What the steps of a look say of the rule: the layout, the root, the answer.
use mathlib.Core.Path.{◌≡◌, refl}
use Rattle.std.specs.Prelude.{Option, None, Some}
use mathlib.Core.List.{List, [], ◌∷◌}
use Prim.Native.Nat.{ℕ, ◌≤◌, ◌<◌}
use native.Mathlib.Omega.{arith}
use borrow.Author.Tests.{eq-eqb, ne_eqb, lt-ltb, le-ltb}
use Rattle.std.specs.Prelude.{Result, Ok, Err}
use Rattle.rules.specs.declared.refusal.Damage.{Damage}
use Rattle.rules.specs.declared.Entry.{Entry}
use Rattle.rules.specs.declared.Head.{Head}
use Rattle.rules.specs.Answers.{refused}
use Rattle.rules.specs.Layout.{head_of, beginning}
use Rattle.rules.specs.Look.{look_in, look}
use Rattle.scan.specs.declared.Trip.{Trip}
use Rattle.scan.specs.Look.{trip_from, told_of, look_scan_in, look_scan}
use Rattle.scan.specs.Scan.{Found, damaged, sectors, root_in, search_log}
use Rattle.scan.proofs.Looks.{look-scan}

-- no root entry left, or a damaged log
pub no-root : (h : Head) (card : List ℕ) (x t : ℕ) (f : Found) → ((e : Entry) → f ≡ Ok (Some e) → ⊥) → damaged ≡ trip_from h card x t (root_in f)
unfolding trip_from root_in
no-root h card x t (Err d) p = refl
no-root h card x t (Ok None) p = refl
no-root h card x t (Ok (Some e)) p = absurd (p e refl)

pub look-broken : (card : List ℕ) (bib t : ℕ) → head_of card ≡ None → refused 1 ≡ look card bib t
unfolding look look_in
look-broken card bib t q = rw q

module _ (card : List ℕ) (bib t : ℕ) (h : Head) (q : head_of card ≡ Some h) where
  pub look-zero : bib ≡ 0 → refused 2 ≡ look card bib t
  unfolding look look_in
  look-zero z = rw (q, eq-eqb bib 0 z)

  pub look-early : (bib ≡ 0 → ⊥) → t < beginning card → refused 13 ≡ look card bib t
  unfolding look look_in
  look-early some-bib lt = rw (q, ne_eqb bib 0 some-bib, lt-ltb t (beginning card) lt)

  -- the walk made
  pub look-told : (w : Result Trip Damage) → (bib ≡ 0 → ⊥) → beginning card ≤ t → w ≡ trip_from h card bib t (root_in (search_log t (sectors h.n card 1 h.n)))
      → told_of bib w ≡ look card bib t
  unfolding look_scan look_scan_in
  look-told w some-bib le walked = rw walked (rw (q, ne_eqb bib 0 some-bib, le-ltb t (beginning card) le) at (look-scan card bib t))
