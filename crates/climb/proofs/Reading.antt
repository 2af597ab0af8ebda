-- A bucket that is read, as its part of the card gives it: how many sectors are written, their entries, its blanks.
use mathlib.Core.Path.{◌≡◌, refl, ap, ap₂, sym, ◌∙◌, subst}
use mathlib.Core.Logic.{⊎_elim}
use mathlib.Core.Bool.{true, false}
use Rattle.std.specs.Prelude.{Some}
use mathlib.Core.List.{List, [], ◌∷◌}
use Prim.Native.Nat.{ℕ, zero, suc, ◌+◌, ◌-◌, ◌*◌, ◌≤◌, ◌<◌}
use native.Mathlib.Numerals.{add-one}
use native.Mathlib.Omega.{arith}
use borrow.Author.Tests.{eq-eqb, ne_eqb, eqb-true}
use lib.Dec.{eqb}
use lib.ListN.{length, take, drop, get_or}
use lib.Seq.{get_or-take, get_or-drop}
use Rattle.rules.specs.declared.Entry.{Entry}
use Rattle.rules.specs.declared.Head.{Head}
use Rattle.rules.specs.declared.Sector.TheVariants.{Blank, Held}
use Rattle.rules.specs.Sector.{sector_at, fields, decode, legal, other_row}
use Rattle.rules.specs.Layout.{base}
use Rattle.rules.specs.Bucket.{run, blanks_of, sound_bucket}
use Rattle.laws.proofs.Tools.{none-some, bool_cases, false-true}
use Rattle.laws.proofs.Codec.{blank-zeros}
use Rattle.laws.proofs.Entries.{legal-status}
use Rattle.laws.proofs.Run.{onto-inv}
use Rattle.laws.proofs.Zeros.{zeros-get}
use Rattle.laws.proofs.Bytes.{held-inv}
use Rattle.laws.proofs.Blanks.{up_from, blanks-from}
use Rattle.laws.proofs.Buckets.{raw, bucket-raw, run_length, bucket-within}
use Rattle.laws.proofs.Heads.{bucket-fits}
use Rattle.scan.specs.Look.{part_of}
use Rattle.scan.specs.Scan.{sectors}
use Rattle.scan.proofs.Runs.{run_of, run-sectors}
use Rattle.scan.proofs.Parts.{sectors-part}
use Rattle.hand.specs.Hand.{entries_at}
use Rattle.level.specs.Level.{used_of, AllSmall}
use Rattle.bucket.specs.Shapes.{Shape}
use Rattle.climb.specs.Levels.{entries_on, Read}

-- byte 0 of a sector, as the card has it
byte-first : (s : List ℕ) (i : ℕ) → get_or (sector_at s i) 0 0 ≡ get_or s (16 * i) 0
unfolding sector_at
byte-first s i =
    let z : 0 < 16 = omega arith in
    let e : 16 * i + 0 ≡ 16 * i = omega arith in
    get_or-take 16 (drop (16 * i) s) 0 0 z ∙ get_or-drop (16 * i) s 0 0 ∙ ap (λ (k : ℕ). get_or s k 0) e

-- an entry of the table has a kind from 1 to 4
kind-legal : (n : ℕ) (e : Entry) → legal n e ≡ true → (1 ≤ e.kind) × (e.kind < 256)
unfolding legal other_row
kind-legal n e q =
    ⊎_elim (λ (a : eqb e.kind 1 ≡ true). let k = eqb-true e.kind 1 a in (omega arith, omega arith))
    (λ (a : eqb e.kind 1 ≡ false).
    ⊎_elim (λ (b : eqb e.kind 2 ≡ true). let k = eqb-true e.kind 2 b in (omega arith, omega arith))
    (λ (b : eqb e.kind 2 ≡ false).
    ⊎_elim (λ (c : eqb e.kind 3 ≡ true). let k = eqb-true e.kind 3 c in (omega arith, omega arith))
    (λ (c : eqb e.kind 3 ≡ false).
    ⊎_elim (λ (d : eqb e.kind 4 ≡ true). let k = eqb-true e.kind 4 d in (omega arith, omega arith))
    (λ (d : eqb e.kind 4 ≡ false). absurd (false-true (rw (a, b, c, d) at q)))
    (bool_cases (eqb e.kind 4)))
    (bool_cases (eqb e.kind 3)))
    (bool_cases (eqb e.kind 2)))
    (bool_cases (eqb e.kind 1))

held-kind : (n : ℕ) (s : List ℕ) (i : ℕ) (e : Entry) → decode n (sector_at s i) ≡ Held e → get_or s (16 * i) 0 ≡ e.kind
unfolding fields
held-kind n s i e q = sym (byte-first s i) ∙ ap (λ (d : Entry). d.kind) (held-inv n (sector_at s i) e q).0

-- what a run says of its sectors
pub used-run : (n : ℕ) (s : List ℕ) (u i c : ℕ) (es : List Entry) → run n s i c ≡ Some es → used_of u s i c ≡ u + length es
unfolding run
used-run n s u i zero es q = let l : es ≡ [] = cc in let k = ap length l in omega arith
used-run n s u i (suc c) es q =
    ⊎_elim
    (λ (b : (decode n (sector_at s i) ≡ Blank) × (es ≡ []) × (run n s (suc i) c ≡ Some [])).
    let z : get_or s (16 * i) 0 ≡ 0 = sym (byte-first s i) ∙ zeros-get (sector_at s i) 0 (blank-zeros n (sector_at s i) b.0) in
    let k = ap length b.1 in
    rw (eq-eqb (get_or s (16 * i) 0) 0 z) (omega arith))
    (λ (b : (x : Entry) × (xs : List Entry) × (decode n (sector_at s i) ≡ Held x) × (es ≡ x ∷ xs) × (run n s (suc i) c ≡ Some xs)).
    let w = (kind-legal n b.0 (held-inv n (sector_at s i) b.0 b.2).1).0 in
    let y = held-kind n s i b.0 b.2 in
    let k = ap length b.3 in
    let ih = used-run n s (u + 1) (suc i) c b.1 b.4 in
    rw (ne_eqb (get_or s (16 * i) 0) 0 (λ (v : get_or s (16 * i) 0 ≡ 0). omega arith), add-one i) (omega arith))
    (onto-inv (decode n (sector_at s i)) (run n s (suc i) c) es q)

entries-run : (n : ℕ) (s : List ℕ) (i c : ℕ) (es : List Entry) → run n s i c ≡ Some es → (entries_at s i (length es) ≡ es) × AllSmall es
unfolding run
entries-run n s i zero es q = let l : es ≡ [] = cc in subst (λ (z : List Entry). (entries_at s i (length z) ≡ z) × AllSmall z) (sym l) (refl, tt)
entries-run n s i (suc c) es q =
    ⊎_elim
    (λ (b : (decode n (sector_at s i) ≡ Blank) × (es ≡ []) × (run n s (suc i) c ≡ Some [])).
    subst (λ (z : List Entry). (entries_at s i (length z) ≡ z) × AllSmall z) (sym b.1) (refl, tt))
    (λ (b : (x : Entry) × (xs : List Entry) × (decode n (sector_at s i) ≡ Held x) × (es ≡ x ∷ xs) × (run n s (suc i) c ≡ Some xs)).
    let v = held-inv n (sector_at s i) b.0 b.2 in
    let ih = entries-run n s (suc i) c b.1 b.4 in
    subst (λ (z : List Entry). (entries_at s i (length z) ≡ z) × AllSmall z) (sym b.3) (
      ap₂ (λ (x : Entry) (xs : List Entry). x ∷ xs) v.0 (ap (λ (k : ℕ). entries_at s k (length b.1)) (add-one i) ∙ ih.0),
      (((kind-legal n b.0 v.1).1, omega (arith, legal-status n b.0 v.1)), ih.1),
    ))
    (onto-inv (decode n (sector_at s i)) (run n s (suc i) c) es q)

-- the sectors of a part run as those of the card
pub part-run : (n : ℕ) (card : List ℕ) (o m : ℕ) → 16 * (o + m) ≤ length card → run n (take (16 * m) (drop (16 * o) card)) 0 m ≡ run n card o m
part-run n card o m long =
    let z : o + 0 ≡ o = omega arith in
    run-sectors n (take (16 * m) (drop (16 * o) card)) 0 m
    ∙ ap run_of (sectors-part n card o m 0 m long (omega arith) ∙ ap (λ (k : ℕ). sectors n card k m) z)
    ∙ sym (run-sectors n card o m)

-- what a bucket that is read says of its part
pub record Reads (h : Head) (card : List ℕ) (b : ℕ) : Type 0 where
  pub one : 1 ≤ b
  pub most : b ≤ h.n
  pub held : 1 ≤ length (entries_on h card b)
  pub room : length (entries_on h card b) ≤ h.m
  pub used : used_of 0 (part_of h card b) 0 h.m ≡ length (entries_on h card b)
  pub entries : entries_at (part_of h card b) 0 (length (entries_on h card b)) ≡ entries_on h card b
  pub small : AllSmall (entries_on h card b)
  pub raws : raw h card b ≡ Some (entries_on h card b)
  pub blank : blanks_of h card b ≡ up_from (base h b + length (entries_on h card b)) (h.m - length (entries_on h card b))

sound-some : (es : List Entry) → sound_bucket es ≡ Some es → 1 ≤ length es
unfolding sound_bucket
sound-some [] q = absurd (none-some q)
sound-some (e ∷ es) q = omega arith

pub reads : (h : Head) (card : List ℕ) (b : ℕ) → Shape h card → Read h card b → Reads h card b
unfolding part_of blanks_of
reads h card b sh q =
    let es = entries_on h card b in
    let r = bucket-raw h card b es q in
    let most = bucket-within h card b es sh.long q in
    let run_is : run h.n (part_of h card b) 0 h.m ≡ Some es = part-run h.n card (base h b) h.m (bucket-fits h card b sh.long r.0 most) ∙ r.1 in
    let e = entries-run h.n (part_of h card b) 0 h.m es run_is in
    record {
      one = r.0;
      most = most;
      held = sound-some es r.2;
      room = run_length h.n card (base h b) h.m es r.1;
      used = used-run h.n (part_of h card b) 0 0 h.m es run_is ∙ (let z : 0 + length es ≡ length es = omega arith in z);
      entries = e.0;
      small = e.1;
      raws = r.1;
      blank = blanks-from h.n card (base h b) h.m es r.1;
    }
