-- A pass gives what the rule reads: the entries of a sound journal, the last stamp and the last copy; and what next asks of them.
use mathlib.Core.Path.{◌≡◌, refl, ap, sym, ◌∙◌, subst}
use mathlib.Core.Logic.{⊎_elim}
use mathlib.Core.Bool.{Bool, true, false}
use Rattle.std.specs.Prelude.{Option, None, Some}
use Prim.Native.Nat.{ℕ, zero, suc, ◌+◌, ◌*◌, ◌/◌, ◌%◌, ◌≤◌}
use native.Mathlib.Omega.{arith}
use mathlib.Core.List.{List, [], ◌∷◌}
use lib.Dec.{ltb}
use lib.ListN.{length}
use borrow.Author.Tests.{eq-eqb, ne_eqb}
use Rattle.rules.specs.declared.Entry.{Entry}
use Rattle.rules.specs.declared.Sector.{Sector}
use Rattle.rules.specs.declared.Sector.TheVariants.{Blank, Held, Damaged}
use Rattle.rules.specs.Bucket.{onto, run}
use Rattle.rules.specs.Journal.{rising, sound_journal, journal, stamp_in, next_of, journal_next_in, journal_next}
use Rattle.rules.specs.Plain.{if, ◌&◌, and_then, last_of}
use Rattle.rules.specs.Sector.{is_data, decode, sector_at}
use Rattle.laws.proofs.Journals.{InOrder, journal-order}
use Rattle.laws.proofs.Run.{onto-inv}
use Rattle.laws.proofs.Buckets.{run_length}
use Rattle.scan.specs.Next.{runs, stand_in}
use Rattle.laws.proofs.Tools.{none-some, bool_cases, true-false, false-true, and-true, true-and}
use Rattle.scan.specs.Scan.{sectors, pick}
use Rattle.scan.proofs.Runs.{run_of, run-sectors, blank-run, fold}
use Rattle.scan.proofs.Picks.{fold-data}
use Rattle.scan.proofs.Mins.{blank-nil, held_cons, damaged-no, stand-run, stand-above}
use Rattle.journal.specs.Passes.{follows, risen, pass, passed, read_scan, pass_of, reading_of}

-- the stamp of the last entry, or s where there is none
unfoldable stamp_from : ℕ → List Entry → ℕ
stamp_from s [] = s
stamp_from s (e ∷ es) = stamp_from e.stamp es

from_last : (e : Entry) (es : List Entry) → stamp_from e.stamp es ≡ stamp_in (last_of (e ∷ es))
unfolding stamp_from stamp_in last_of
from_last e [] = refl
from_last e (d ∷ es) = from_last d es

from_zero : (es : List Entry) → stamp_from 0 es ≡ stamp_in (last_of es)
unfolding stamp_from stamp_in last_of
from_zero [] = refl
from_zero (e ∷ es) = from_last e es

-- a run that is judged sound has its entries, and they rise
risen-sound : (s : ℕ) (ss : List Sector) → risen s ss ≡ true → (es : List Entry) × (run_of ss ≡ Some es) × (rising s es ≡ true)
unfolding risen run_of rising follows onto
risen-sound s [] q = ([], refl, refl)
risen-sound s (Blank ∷ ss) q = ([], blank-run ss ∙ rw q, refl)
risen-sound s (Held e ∷ ss) q =
    let a = and-true (is_data e & ltb s e.stamp) (risen e.stamp ss) q in
    let f = and-true (is_data e) (ltb s e.stamp) a.0 in
    let r = risen-sound e.stamp ss a.1 in
    (e ∷ r.0, rw r.1, true-and f.0 (true-and f.1 r.2))
risen-sound s (Damaged ∷ ss) q = absurd (false-true q)

-- and one that is not has none, or they do not
abbrev risen_run : ℕ → Option (List Entry) → Option (List Entry)
risen_run s r = and_then r (λ es. if (rising s es) (Some es) None)

not_some : (b : Bool) (es : List Entry) → if b (Some es) None ≡ None → b ≡ false
not_some true es q = absurd (none-some (sym q))
not_some false es q = refl

broken-held : (s : ℕ) (e : Entry) (r : Option (List Entry)) (rest : Bool) → (follows s e & rest) ≡ false → (rest ≡ false → risen_run e.stamp r ≡ None)
    → risen_run s (onto (Held e) r) ≡ None
unfolding onto rising follows
broken-held s e None rest q on = refl
broken-held s e (Some es) rest q on = go (is_data e) (ltb s e.stamp) rest q on
  where
    go : (a b c : Bool) → ((a & b) & c) ≡ false → (c ≡ false → if (rising e.stamp es) (Some es) None ≡ None) → if (a & b & rising e.stamp es) (Some (e ∷ es)) None ≡ None
    go true true true q on = absurd (true-false q)
    go true true false q on = rw (not_some (rising e.stamp es) es (on refl))
    go true false c q on = refl
    go false b c q on = refl

risen-broken : (s : ℕ) (ss : List Sector) → risen s ss ≡ false → risen_run s (run_of ss) ≡ None
unfolding risen run_of onto
risen-broken s [] q = absurd (true-false q)
risen-broken s (Blank ∷ ss) q = ap (risen_run s) (blank-run ss) ∙ rw q
risen-broken s (Held e ∷ ss) q = broken-held s e (run_of ss) (risen e.stamp ss) q (λ no-rest. risen-broken e.stamp ss no-rest)
risen-broken s (Damaged ∷ ss) q = refl

-- so is the slice they were read from
module _ (slice : List ℕ) (count : ℕ) (long : length slice ≡ 16 * count) where
  abbrev held : List Sector
  held = sectors 0 slice 0 count

  journal-run : journal slice ≡ risen_run 0 (run_of held)
  unfolding journal sound_journal
  journal-run =
      let whole : length slice % 16 ≡ 0 = omega arith in
      let many : length slice / 16 ≡ count = omega arith in
      rw (eq-eqb (length slice % 16) 0 whole, many, run-sectors 0 slice 0 count)

  pub journal-sound : risen 0 held ≡ true → (es : List Entry) × (run_of held ≡ Some es) × (journal slice ≡ Some es)
  journal-sound q = let r = risen-sound 0 held q in (r.0, r.1, journal-run ∙ rw (r.1, r.2))

  pub journal-broken : risen 0 held ≡ false → journal slice ≡ None
  journal-broken q = journal-run ∙ risen-broken 0 held q

-- a slice of another length is none
pub journal-odd : (slice : List ℕ) → (length slice % 16 ≡ 0 → ⊥) → journal slice ≡ None
unfolding journal
journal-odd slice odd = rw (ne_eqb (length slice % 16) 0 odd)

-- the pass over a run
no_more : (x t used last : ℕ) (copy : Option Entry) → pass used last copy ≡ pass (used + length {A = Entry} []) (stamp_from last []) (fold (pick false x t) copy [])
unfolding stamp_from fold
no_more x t used last copy = let n : used ≡ used + 0 = omega arith in ap (λ k. pass k last copy) n

passed-run : (x t : ℕ) (ss : List Sector) (es : List Entry) (used last : ℕ) (copy : Option Entry) → run_of ss ≡ Some es
    → passed x t ss used last copy ≡ pass (used + length es) (stamp_from last es) (fold (pick false x t) copy es)
unfolding run_of passed stamp_from fold onto
passed-run x t [] es used last copy h = let z : [] ≡ es = cc in subst (λ l. pass used last copy ≡ pass (used + length l) (stamp_from last l) (fold (pick false x t) copy l)) z (no_more x t used last copy)
passed-run x t (Blank ∷ ss) es used last copy h = rw (blank-nil (run_of ss) es h) (no_more x t used last copy)
passed-run x t (Held e ∷ ss) es used last copy h =
    let w = held_cons e (run_of ss) es h in
    let on : used + 1 + length w.0 ≡ used + suc (length w.0) = omega arith in
    rw w.1 (passed-run x t ss w.0 (used + 1) e.stamp (pick false x t copy e) w.2
    ∙ ap (λ n. pass n (stamp_from e.stamp w.0) (fold (pick false x t) (pick false x t copy e) w.0)) on)
passed-run x t (Damaged ∷ ss) es used last copy h = absurd (damaged-no (run_of ss) es h)

passed-all : (x t : ℕ) (ss : List Sector) (es : List Entry) → run_of ss ≡ Some es → passed x t ss 0 0 None ≡ pass_of x t es
unfolding pass_of
passed-all x t ss es h =
    let n : 0 + length es ≡ length es = omega arith in
    passed-run x t ss es 0 0 None h ∙ rw (n, from_zero es, fold-data x t es)

-- a pass is the rule's reading
pub reading-is : (x t : ℕ) (slice : List ℕ) (count : ℕ) → length slice ≡ 16 * count → read_scan x t (sectors 0 slice 0 count) 0 0 None ≡ reading_of x t (journal slice)
unfolding read_scan reading_of
reading-is x t slice count long =
    ⊎_elim
    (λ (q : risen 0 (sectors 0 slice 0 count) ≡ true).
    let j = journal-sound slice count long q in rw (q, j.2, passed-all x t (sectors 0 slice 0 count) j.0 j.1))
    (λ (q : risen 0 (sectors 0 slice 0 count) ≡ false). rw (q, journal-broken slice count long q))
    (bool_cases (risen 0 (sectors 0 slice 0 count)))

-- next's question is the rule's
onto-some : (e : Entry) (es : List Entry) → onto (Held e) (Some es) ≡ Some (e ∷ es)
unfolding onto
onto-some e es = refl

-- the written sectors of a journal alone
written-run : (slice : List ℕ) (s i c : ℕ) (es : List Entry) → run 0 slice i c ≡ Some es → rising s es ≡ true
    → (run_of (sectors 0 slice i (length es)) ≡ Some es) × (runs is_data (sectors 0 slice i (length es)) ≡ true)
unfolding run rising run_of sectors runs
written-run slice s i zero es q r = let z : [] ≡ es = cc in subst (λ l. (run_of (sectors 0 slice i (length l)) ≡ Some l) × (runs is_data (sectors 0 slice i (length l)) ≡ true)) z (refl, refl)
written-run slice s i (suc c) es q r =
    ⊎_elim
    (λ (v : (decode 0 (sector_at slice i) ≡ Blank) × (es ≡ []) × (run 0 slice (suc i) c ≡ Some [])). rw v.1 (refl, refl))
    (λ (v : (x : Entry) × (xs : List Entry) × (decode 0 (sector_at slice i) ≡ Held x) × (es ≡ x ∷ xs) × (run 0 slice (suc i) c ≡ Some xs)).
    let up : rising s (v.0 ∷ v.1) ≡ true = subst (λ l. rising s l ≡ true) v.3 r in
    let a = and-true (is_data v.0) (ltb s v.0.stamp & rising v.0.stamp v.1) up in
    let b = and-true (ltb s v.0.stamp) (rising v.0.stamp v.1) a.1 in
    let on = written-run slice v.0.stamp (suc i) c v.1 v.4 b.1 in
    rw (v.3, v.2) (ap (onto (Held v.0)) on.0 ∙ onto-some v.0 v.1, true-and a.0 on.1))
    (onto-inv (decode 0 (sector_at slice i)) (run 0 slice (suc i) c) es q)

-- what next may ask, and what its answer is
module _ (slice : List ℕ) (es : List Entry) (q : journal slice ≡ Some es) (used : ℕ) (all : used ≡ length es) where
  order : InOrder slice es
  order = journal-order slice es q

  pub written-runs : runs is_data (sectors 0 slice 0 used) ≡ true
  written-runs = rw all (written-run slice 0 0 (length slice / 16) es order.1 order.2).1

  pub written-lies : 16 * used ≤ length slice
  written-lies = let most = run_length 0 slice 0 (length slice / 16) es order.1 in omega (arith, most, all)

  pub next-is : (k t : ℕ) → next_of (stand_in k t (sectors 0 slice 0 used) None) ≡ journal_next slice k t
  unfolding journal_next journal_next_in
  next-is k t =
      let r = (written-run slice 0 0 (length slice / 16) es order.1 order.2).0 in
      ap next_of (ap (λ n. stand_in k t (sectors 0 slice 0 n) None) all ∙ stand-run k t (sectors 0 slice 0 (length es)) es None r ∙ stand-above k t es) ∙ sym (rw q)
