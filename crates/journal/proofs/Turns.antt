-- What one sector read says of the whole journal, as the loops have the numbers.
use mathlib.Core.Path.{◌≡◌, refl, ap, sym, ◌∙◌}
use mathlib.Core.Bool.{Bool, true, false}
use mathlib.Core.List.{List, ◌∷◌}
use Prim.Native.Nat.{ℕ, zero, suc, ◌+◌, ◌-◌, ◌≤◌, ◌<◌}
use native.Mathlib.Numerals.{add-one}
use lib.Dec.{leb, ltb}
use borrow.Author.Tests.{le-leb}
use Rattle.std.specs.Prelude.{Option, Some, Result, Ok}
use Rattle.rules.specs.declared.Entry.{Entry}
use Rattle.rules.specs.declared.Sector.{Sector}
use Rattle.rules.specs.declared.Sector.TheVariants.{Blank, Held, Damaged}
use Rattle.rules.specs.Plain.{if, ◌&◌}
use Rattle.rules.specs.Sector.{sector_at, fields, decode}
use Rattle.rules.specs.declared.refusal.Refusal.{Refusal}
use Rattle.scan.specs.Scan.{sectors, all_blank, pick}
use Rattle.scan.proofs.Loops.{sectors-turn, sectors-end}
use Rattle.scan.specs.Next.{under, above, above_at}
use Rattle.bucket.specs.Places.{found_at, is_copy}
use Rattle.bucket.proofs.Places.{pick-copy, choice}
use Rattle.journal.specs.declared.Pass.{Pass}
use Rattle.journal.specs.Passes.{follows, risen, pass, passed, broken, read_scan, lower}

-- one test, then the other
both-tests : {A : Type 0} (a b : Bool) (x y : A) → if a (if b x y) y ≡ if (a & b) x y
both-tests true b x y = refl
both-tests false b x y = refl

-- what a sector that is read says of the sectors from it on
module _ (x t used last : ℕ) (copy : Option Entry) where
  pub read-damaged : (s : Sector) (l : List Sector) → s ≡ Damaged → broken ≡ read_scan x t (s ∷ l) used last copy
  unfolding read_scan risen
  read-damaged s l is = rw is

  -- a blank, by whether all behind it are
  pub read-blank : (s : Sector) (l : List Sector) (b : Bool) → s ≡ Blank → b ≡ all_blank l → if b (Ok (pass used last copy)) broken ≡ read_scan x t (s ∷ l) used last copy
  unfolding read_scan risen passed
  read-blank s l b is q = rw (is, q)

  -- an entry, by whether it may follow
  pub read_held : (s : Sector) (e : Entry) (l : List Sector) (b : Bool) → s ≡ Held e → b ≡ follows last e
      → if b (read_scan x t l (used + 1) e.stamp (pick false x t copy e)) broken ≡ read_scan x t (s ∷ l) used last copy
  unfolding read_scan risen passed
  read_held s e l b is q = rw (is, q) (both-tests (follows last e) (risen e.stamp l) (Ok (passed x t l (used + 1) e.stamp (pick false x t copy e))) broken)

-- what the sector read says of the whole pass, whose answer is w
module _ (x t count i last : ℕ) (slice : List ℕ) (copy : Option Entry) (w : Result Pass Refusal) (inv : read_scan x t (sectors 0 slice i (count - i)) i last copy ≡ w) where
  pub read-end : count ≤ i → Ok (pass i last copy) ≡ w
  unfolding read_scan risen passed
  read-end h = rw (sectors-end 0 count i slice h) at inv

  met : i < count → (s : Sector) → s ≡ decode 0 (sector_at slice i) → read_scan x t (s ∷ sectors 0 slice (i + 1) (count - (i + 1))) i last copy ≡ w
  met h s is = sectors-turn (λ l. read_scan x t l i last copy) 0 count i slice s w h is inv

  pub read-next : i < count → (e : Entry) → Held e ≡ decode 0 (sector_at slice i) → true ≡ follows last e
      → read_scan x t (sectors 0 slice (i + 1) (count - (i + 1))) (i + 1) e.stamp (pick false x t copy e) ≡ w
  read-next h e is fits = read_held x t i last copy (Held e) e _ true refl fits ∙ met h (Held e) is

  pub read-misfit : i < count → (e : Entry) → Held e ≡ decode 0 (sector_at slice i) → false ≡ follows last e → broken ≡ w
  read-misfit h e is not = read_held x t i last copy (Held e) e _ false refl not ∙ met h (Held e) is

  pub read-rest : i < count → Blank ≡ decode 0 (sector_at slice i) → true ≡ all_blank (sectors 0 slice (i + 1) (count - (i + 1))) → Ok (pass i last copy) ≡ w
  read-rest h is blanks = read-blank x t i last copy Blank _ true refl blanks ∙ met h Blank is

  pub read-hole : i < count → Blank ≡ decode 0 (sector_at slice i) → false ≡ all_blank (sectors 0 slice (i + 1) (count - (i + 1))) → broken ≡ w
  read-hole h is blanks = read-blank x t i last copy Blank _ false refl blanks ∙ met h Blank is

  pub read-damage : i < count → Damaged ≡ decode 0 (sector_at slice i) → broken ≡ w
  read-damage h is = read-damaged x t i last copy Damaged _ refl ∙ met h Damaged is

-- the place kept is that of the copy
pub copy-place : (slice : List ℕ) (i place : ℕ) (e : Entry) → decode 0 (sector_at slice i) ≡ Held e → (x t : ℕ) (b : Bool) → b ≡ is_copy x t e
    → pick false x t (found_at slice place) e ≡ found_at slice (if b (i + 1) place)
copy-place slice i place e held x t b q =
    pick-copy x t (found_at slice place) e ∙ choice 0 slice i place e held (is_copy x t e) ∙ ap (λ c. found_at slice (if c (i + 1) place)) (sym q)

-- the smallest so far by its place; any bib is below none
unfoldable pub low_at : List ℕ → ℕ → ℕ
low_at slice zero = 4294967295
low_at slice (suc i) = (fields (sector_at slice i)).key

under_low : (slice : List ℕ) (best : ℕ) (e : Entry) → e.key ≤ 4294967295 → under (found_at slice best) e ≡ if (leb e.key (low_at slice best)) (Some e) (found_at slice best)
unfolding under found_at low_at
under_low slice zero e le = rw (le-leb e.key 4294967295 le)
under_low slice (suc i) e le = refl

in_order : {A : Type 0} (s q l : Bool) (taken kept : A) → if s (if q (if l taken kept) kept) kept ≡ if (s & q & l) taken kept
in_order true true l taken kept = refl
in_order true false l taken kept = refl
in_order false q l taken kept = refl

-- the fields of sector i, against the best so far
module _ (slice : List ℕ) (i best x t low : ℕ) (fits : (fields (sector_at slice i)).key ≤ 4294967295) (is : low ≡ low_at slice best) where
  abbrev e : Entry
  e = fields (sector_at slice i)

  place : (c : Bool) → if c (Some e) (found_at slice best) ≡ found_at slice (if c (i + 1) best)
  unfolding found_at
  place true = rw add-one
  place false = refl

  pub least-place : (b : Bool) → b ≡ lower x t low e → above_at x t (found_at slice best) e ≡ found_at slice (if b (i + 1) best)
  unfolding above_at above lower
  least-place b q =
      rw (under_low slice best e fits, ← is) (in_order (leb e.stamp t) (ltb x e.key) (leb e.key low) (Some e) (found_at slice best))
      ∙ place (lower x t low e) ∙ ap (λ c. found_at slice (if c (i + 1) best)) (sym q)

-- the lowest bib goes on with its place
pub least-low : (slice : List ℕ) (i best low : ℕ) → low ≡ low_at slice best → (b : Bool) (less r : ℕ) → less ≡ if b (fields (sector_at slice i)).key low → r ≡ if b (i + 1) best
    → less ≡ low_at slice r
unfolding low_at
least-low slice i best low is true less r l at_place = l ∙ sym (rw (at_place, add-one))
least-low slice i best low is false less r l at_place = l ∙ is ∙ ap (low_at slice) (sym at_place)

-- the bib of sector i, once it is the lowest
pub low-next : (slice : List ℕ) (i : ℕ) → (fields (sector_at slice i)).key ≡ low_at slice (i + 1)
low-next slice i = least-low slice i (i + 1) _ refl true _ (i + 1) refl refl
