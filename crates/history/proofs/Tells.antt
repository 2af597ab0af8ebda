-- Pages counted and laid down give what the whole list gives; and what history answers.
use mathlib.Core.Path.{◌≡◌, refl, ap, ap₂, sym, ◌∙◌, subst}
use mathlib.Core.Logic.{⊎_elim}
use mathlib.Core.Bool.{Bool, true, false}
use Rattle.std.specs.Prelude.{Option, None, Some, Result, Ok, Err}
use Prim.Native.Nat.{ℕ, suc, ◌+◌, ◌*◌, ◌≤◌, ◌<◌}
use native.Mathlib.Omega.{arith}
use mathlib.Core.List.{List, [], ◌∷◌, ◌++◌}
use lib.Dec.{eqb}
use lib.ListN.{length, length-append}
use borrow.Author.Tests.{le-leb, lt-leb, eq-eqb, ne_eqb, eqb-true, lt-ltb, le-ltb}
use Rattle.rules.specs.declared.Entry.{Entry}
use Rattle.rules.specs.declared.Head.{Head}
use Rattle.rules.specs.declared.refusal.Refusal.{Refusal}
use Rattle.rules.specs.declared.refusal.Refusal.TheVariants.{NoRoom}
use Rattle.rules.specs.Refusals.{number}
use Rattle.rules.specs.Layout.{head_of, beginning}
use Rattle.rules.specs.Plain.{only, keep_if}
use Rattle.rules.specs.Records.{Roll, roll}
use Rattle.rules.specs.Sector.{put, encode, sector_at, is_data, legal}
use Rattle.rules.specs.History.{entries, area, by_stamp, says_of, fitting, history_on, history_in, history}
use Rattle.writer.specs.Rows.{puts}
use Rattle.writer.specs.Words.{Narrow}
use Rattle.level.specs.Level.{AllSmall}
use Rattle.laws.proofs.Areas.{Stands, entries-stand}
use Rattle.laws.proofs.Bytes.{held-inv}
use Rattle.laws.proofs.Entries.{legal-status}
use Rattle.laws.proofs.Lists.{All, all_both, all_map}
use Rattle.laws.proofs.Tools.{bool_cases, le-or-lt, none-some}
use Rattle.gather.specs.Pages.{asked, wanted, said_of, said, firsts, onward}
use Rattle.gather.proofs.Paging.{page-split, said-data, said_all}
use Rattle.history.specs.Told.{after, rest_from, fit_after, row_of, HasRoom}

-- entries in a row, one after the other
puts-append : (buffer : List ℕ) (k : ℕ) (xs ys : List Entry) → puts buffer k (xs ++ ys) ≡ puts (puts buffer k xs) (k + length xs) ys
puts-append buffer k [] ys = let z : k + 0 ≡ k = omega arith in rw z
puts-append buffer k (x ∷ xs) ys = let z : k + suc (length xs) ≡ k + 1 + length xs = omega arith in rw z (puts-append (put buffer k (encode x)) (k + 1) xs ys)

fit_is : (places k : ℕ) (es : List Entry) → k + length es ≤ places → fit_after places k (Some es) ≡ Ok (k + length es)
unfolding fit_after
fit_is places k es le = rw (le-leb (k + length es) places le)

fit-not : (places k : ℕ) (es : List Entry) → places < k + length es → fit_after places k (Some es) ≡ Err NoRoom
unfolding fit_after
fit-not places k es lt = rw (lt-leb (k + length es) places lt)

-- as many places as there are entries do
pub fit-exact : (places : ℕ) (o : Option (List Entry)) (x : ℕ) → Ok x ≡ fit_after places 0 o → (fit_after x 0 o ≡ Ok x) × (x ≤ places)
unfolding fit_after
fit-exact places None x q = absurd cc
fit-exact places (Some es) x q =
    ⊎_elim
    (λ (le : 0 + length es ≤ places).
    let fits : ◌≡◌ {A = Result ℕ Refusal} (Ok x) (Ok (0 + length es)) = q ∙ fit_is places 0 es le in
    let same : x ≡ 0 + length es = cc in
    (fit_is x 0 es (omega arith) ∙ ap Ok (sym same), omega arith))
    (λ (lt : places < 0 + length es). let over : ◌≡◌ {A = Result ℕ Refusal} (Ok x) (Err NoRoom) = q ∙ fit-not places 0 es lt in absurd cc)
    (le-or-lt (0 + length es) places)

-- a page that is still to be turned
abbrev pub waiting : Option ℕ → ℕ
waiting None = 0
waiting (Some f) = 1

-- a count that is over the places, or at its end
module _ (places k : ℕ) (o : Option (List Entry)) (R : Result ℕ Refusal) (h : fit_after places k o ≡ R) where
  pub count-over : (es : List Entry) → o ≡ Some es → places < k → Err NoRoom ≡ R
  count-over es q lt = sym (ap (fit_after places k) q ∙ fit-not places k es (omega arith)) ∙ h

  pub count-end : o ≡ Some [] → k ≤ places → Ok k ≡ R
  count-end q le = let e : k + 0 ≡ k = omega arith in rw e at (sym (ap (fit_after places k) q ∙ fit_is places k [] (omega arith)) ∙ h)

-- entries that were counted as fitting have room
abbrev RoomIf : ℕ → Option (List Entry) → Result ℕ Refusal → Type 0
RoomIf size o (Ok x) = HasRoom size 0 o
RoomIf size o (Err r) = Unit {0}

room-if : (places size : ℕ) → 16 * places ≤ size → (o : Option (List Entry)) → RoomIf size o (fit_after places 0 o)
unfolding fit_after
room-if places size all None = tt
room-if places size all (Some es) =
    ⊎_elim (λ (le : 0 + length es ≤ places). rw (le-leb (0 + length es) places le) (omega arith)) (λ (lt : places < 0 + length es). rw (lt-leb (0 + length es) places lt) tt)
    (le-or-lt (0 + length es) places)

pub room-fit : (places size : ℕ) → 16 * places ≤ size → (o : Option (List Entry)) (x : ℕ) → Ok x ≡ fit_after places 0 o → HasRoom size 0 o
room-fit places size all o x q = subst (RoomIf size o) (sym q) (room-if places size all o)

-- a page, and what is said from where the next begins
module _ (bib t f : ℕ) (o : Option (List Entry)) (l : List Entry) (page : Some l ≡ firsts (said_of bib t f o)) (few : length l ≤ 34) where
  abbrev Onward : Type 0
  Onward = (rest : List Entry) × (said_of bib t f o ≡ Some (l ++ rest)) × (rest_from (λ g. said_of bib t g o) (after l) ≡ Some rest)

  pub page-on : Onward
  unfolding rest_from after
  page-on =
      let s = page-split bib t f o l page in
      ⊎_elim
      (λ (full : 34 ≤ length l). (s.0, s.1, rw (le-ltb (length l) 34 full) (s.3 (omega arith))))
      (λ (short : length l < 34). (s.0, s.1, rw (lt-ltb (length l) 34 short) (ap Some (sym (s.2 short)))))
      (le-or-lt 34 (length l))

  pub count-on : (places k : ℕ) (R : Result ℕ Refusal) → fit_after places k (said_of bib t f o) ≡ R
      → fit_after places (k + length l) (rest_from (λ g. said_of bib t g o) (after l)) ≡ R
  unfolding fit_after
  count-on places k R h =
      let on = page-on in
      let many : k + length l + length on.0 ≡ k + length (l ++ on.0) = (let z = length-append l on.0 in omega arith) in
      rw (on.2, many) (rw on.1 at h)

  pub room-page : (size k : ℕ) → HasRoom size k (said_of bib t f o) → 16 * (k + length l) ≤ size
  room-page size k h =
      let on = page-on in
      let room = rw on.1 at h in
      let many = length-append l on.0 in
      omega arith

  pub room-on : (size k : ℕ) → HasRoom size k (said_of bib t f o) → HasRoom size (k + length l) (rest_from (λ g. said_of bib t g o) (after l))
  room-on size k h =
      let on = page-on in
      let room = rw on.1 at h in
      let many = length-append l on.0 in
      rw on.2 (omega arith)

  -- the same page laid down
  pub lay-on : (k : ℕ) (out new : List ℕ) → new ≡ puts out k l → (R : List ℕ) → row_of out k (said_of bib t f o) ≡ R
      → row_of new (k + length l) (rest_from (λ g. said_of bib t g o) (after l)) ≡ R
  unfolding row_of
  lay-on k out new w R h =
      let on = page-on in
      rw (on.2, w) (sym (puts-append out k l on.0) ∙ (rw on.1 at h))

-- a full page laid down: what the next one begins with goes on behind it
pub lay-more : (bib t f : ℕ) (o : Option (List Entry)) (l : List Entry) → Some l ≡ firsts (said_of bib t f o) → (k : ℕ) (out new : List ℕ) → new ≡ puts out k l
    → (R : List ℕ) → row_of out k (said_of bib t f o) ≡ R → length l ≡ 34 → row_of new (k + 34) (said_of bib t (onward l) o) ≡ R
unfolding rest_from after
lay-more bib t f o l page k out new w R h full = rw full at (lay-on bib t f o l page (omega arith) k out new w R h)

pub after-waits : (l : List Entry) → waiting (after l) ≤ length l
unfolding after
after-waits l =
    ⊎_elim (λ (full : 34 ≤ length l). rw (le-ltb (length l) 34 full) (omega arith)) (λ (short : length l < 34). rw (lt-ltb (length l) 34 short) (omega arith)) (le-or-lt 34 (length l))

-- a page is there only after a full one
pub after-full : (l : List Entry) (f : ℕ) → length l ≤ 34 → Some f ≡ after l → length l ≡ 34
unfolding after
after-full l f few q =
    ⊎_elim (λ (full : 34 ≤ length l). omega arith) (λ (short : length l < 34). absurd (none-some (sym (rw (lt-ltb (length l) 34 short) at q)))) (le-or-lt 34 (length l))

-- what history tells, by what fits
only-ext : (p q : Entry → Bool) → ((e : Entry) → p e ≡ q e) → (es : List Entry) → only p es ≡ only q es
unfolding only
only-ext p q f [] = refl
only-ext p q f (e ∷ es) = ap₂ (λ (b : Bool) (r : List Entry). keep_if b e r) (f e) (only-ext p q f es)

wanted-says : (bib t : ℕ) → (bib ≡ 0 → ⊥) → (e : Entry) → wanted bib t 0 e ≡ says_of bib t e
unfolding wanted asked
wanted-says bib t n e = rw (le-leb 0 e.stamp (omega arith), ne_eqb bib 0 n)

same-list : (bib t : ℕ) → (bib ≡ 0 → ⊥) → (es : List Entry) → by_stamp (only (wanted bib t 0) es) ≡ by_stamp (only (says_of bib t) es)
same-list bib t n es = ap by_stamp (only-ext (wanted bib t 0) (says_of bib t) (wanted-says bib t n) es)

-- the answer that goes with what fits
abbrev pub Tells : Option (List Entry) → Result ℕ Refusal → Roll → Type 0
Tells o (Err r) told = told ≡ roll (number r) []
Tells o (Ok x) told = (es : List Entry) × (o ≡ Some es) × (told ≡ roll 0 es) × (length es ≡ x)

fitting-tells : (places : ℕ) (es : List Entry) → Tells (Some es) (fit_after places 0 (Some es)) (fitting places es)
unfolding fitting
fitting-tells places es =
    let z : 0 + length es ≡ length es = omega arith in
    ⊎_elim
    (λ (le : length es ≤ places).
    subst (λ (r : Result ℕ Refusal). Tells (Some es) r (fitting places es)) (sym (fit_is places 0 es (omega arith))) (es, refl, rw (le-leb (length es) places le), sym z))
    (λ (lt : places < length es).
    subst (λ (r : Result ℕ Refusal). Tells (Some es) r (fitting places es)) (sym (fit-not places 0 es (omega arith))) (rw (lt-leb (length es) places lt)))
    (le-or-lt (length es) places)

on-tells : (bib t : ℕ) → (bib ≡ 0 → ⊥) → (places : ℕ) (o : Option (List Entry))
    → Tells (said_of bib t 0 o) (fit_after places 0 (said_of bib t 0 o)) (history_on bib t places o)
unfolding history_on said_of fit_after
on-tells bib t n places None = refl
on-tells bib t n places (Some es) =
    subst (λ (z : List Entry). Tells (Some (by_stamp (only (wanted bib t 0) es))) (fit_after places 0 (Some (by_stamp (only (wanted bib t 0) es)))) (fitting places z)) (same-list bib t n es)
    (fitting-tells places (by_stamp (only (wanted bib t 0) es)))

module _ (card : List ℕ) (bib t places : ℕ) where
  pub told-broken : head_of card ≡ None → history card bib t places ≡ roll 1 []
  unfolding history history_in
  told-broken q = rw q

  module _ (h : Head) (q : head_of card ≡ Some h) where
    pub told-zero : bib ≡ 0 → history card bib t places ≡ roll 2 []
    unfolding history history_in
    told-zero z = rw (q, eq-eqb bib 0 z)

    pub told-early : (bib ≡ 0 → ⊥) → t < beginning card → history card bib t places ≡ roll 13 []
    unfolding history history_in
    told-early n lt = rw (q, ne_eqb bib 0 n, lt-ltb t (beginning card) lt)

    pub told_fit : (bib ≡ 0 → ⊥) → beginning card ≤ t → (r : Result ℕ Refusal) → r ≡ fit_after places 0 (said h card bib t 0)
        → Tells (said h card bib t 0) r (history card bib t places)
    unfolding history history_in said
    told_fit n le r e = rw (q, ne_eqb bib 0 n, le-ltb t (beginning card) le, e) (on-tells bib t n places (area h card))

-- a page can be written: its kinds and statuses are a byte each
data-narrow : (n : ℕ) (e : Entry) → (is_data e ≡ true) × (legal n e ≡ true) → Narrow e
unfolding is_data
data-narrow n e d = (
  ⊎_elim
      (λ (a : eqb e.kind 1 ≡ true). omega (arith, eqb-true e.kind 1 a))
      (λ (a : eqb e.kind 1 ≡ false). omega (arith, eqb-true e.kind 2 (rw a at d.0)))
      (bool_cases (eqb e.kind 1)),
  omega (arith, legal-status n e d.1),
)

pub said-small : (h : Head) (card : List ℕ) (bib t f : ℕ) (l rest : List Entry) → said h card bib t f ≡ Some (l ++ rest) → AllSmall l
unfolding said area said_of
said-small h card bib t f l rest q = go (entries h.n card (1 + h.n) (h.n * h.m)) refl q
  where
    go : (o : Option (List Entry)) → entries h.n card (1 + h.n) (h.n * h.m) ≡ o → said_of bib t f o ≡ Some (l ++ rest) → AllSmall l
    go None e z = absurd (none-some z)
    go (Some es) e z =
        let lawful : All (λ d. legal h.n d ≡ true) es = all_map (Stands h.n card (1 + h.n) (1 + h.n + h.n * h.m)) (λ d. legal h.n d ≡ true)
        (λ d s. (held-inv h.n (sector_at card s.0) d s.3).1) es (entries-stand h.n card (1 + h.n) (h.n * h.m) es e) in
        all_map (λ d. (is_data d ≡ true) × (legal h.n d ≡ true)) Narrow (data-narrow h.n) l
        (all_both (λ d. is_data d ≡ true) (λ d. legal h.n d ≡ true) l (said-data bib t f (Some es) l rest z) (said_all (λ d. legal h.n d ≡ true) bib t f es l rest lawful z))
