-- What the rule puts at blanks, the code lays down in a row.
use mathlib.Core.Path.{◌≡◌, refl, ◌∙◌}
use mathlib.Core.Logic.{⊎_elim}
use mathlib.Core.Bool.{true, false}
use Rattle.std.specs.Prelude.{Some}
use mathlib.Core.List.{List, [], ◌∷◌}
use Prim.Native.Nat.{ℕ, zero, suc, ◌+◌, ◌-◌, ◌≤◌}
use native.Mathlib.Numerals.{add-one}
use native.Mathlib.Omega.{arith}
use lib.Dec.{ltb}
use lib.ListN.{length}
use Rattle.rules.specs.declared.Entry.{Entry}
use Rattle.rules.specs.declared.Head.{Head}
use Rattle.rules.specs.Plain.{every}
use Rattle.rules.specs.Sector.{put, encode, is_root}
use Rattle.rules.specs.Layout.{base}
use Rattle.rules.specs.Bucket.{run, log, blanks_of, log_blanks, sound_log}
use Rattle.rules.specs.Rewrite.{Rise, fill, into, renew, one_bucket, two_buckets}
use Rattle.laws.proofs.Tools.{then-inv, none-some, guard-true, bool_cases}
use Rattle.laws.proofs.Blanks.{up_from, blanks-from}
use Rattle.laws.proofs.Buckets.{raw, run_length}
use Rattle.laws.proofs.Heads.{log-fits}
use Rattle.scan.specs.Look.{log_of}
use Rattle.writer.specs.Rows.{puts}
use Rattle.level.specs.Level.{used_of, pairs_of, need_of}
use Rattle.bucket.specs.Shapes.{Shape}
use Rattle.climb.specs.Levels.{own_card}
use Rattle.climb.proofs.Reading.{part-run, used-run}

pub fill-up : (card : List ℕ) (i c : ℕ) (es : List Entry) → length es ≤ c → fill card (up_from i c) es ≡ puts card i es
unfolding fill
fill-up card i c [] le = refl
fill-up card i zero (e ∷ es) le = absurd (omega arith)
fill-up card i (suc c) (e ∷ es) le = rw add-one (fill-up (put card i (encode e)) (suc i) c es (omega arith))

-- behind the entries es of bucket b
pub into-puts : (h : Head) (card : List ℕ) (b : ℕ) (es new : List Entry) (at : ℕ) → raw h card b ≡ Some es → length es + length new ≤ h.m → at ≡ base h b + length es
    → into h b new card ≡ puts card at new
unfolding into blanks_of
into-puts h card b es new at q le is =
    rw (is, blanks-from h.n card (base h b) h.m es q) (fill-up card (base h b + length es) (h.m - length es) new (omega arith))

-- the entries of a log that is read, and its first blank
pub record Logged (h : Head) (card : List ℕ) : Type 0 where
  pub count : ℕ
  pub most : count ≤ h.n
  pub used : used_of 0 (log_of h card) 0 h.n ≡ count
  pub blank : log_blanks h card ≡ up_from (1 + count) (h.n - count)

sound-log : (es gs : List Entry) → sound_log es ≡ Some gs → es ≡ gs
unfolding sound_log
sound-log [] gs q = absurd (none-some q)
sound-log (e ∷ es) gs q = (guard-true (every is_root (e ∷ es)) (e ∷ es) gs q).1

pub log-reads : (h : Head) (card : List ℕ) (es : List Entry) → Shape h card → log h card ≡ Some es → Logged h card
unfolding log log_of log_blanks
log-reads h card es sh q =
    let inv = then-inv (run h.n card 1 h.n) sound_log es q in
    let l = inv.0 in
    let run_is = part-run h.n card 1 h.n (log-fits h card sh.long) ∙ inv.1 in
    record {
      count = length l;
      most = run_length h.n card 1 h.n l inv.1;
      used = used-run h.n (log_of h card) 0 0 h.n l run_is ∙ (let z : 0 + length l ≡ length l = omega arith in z);
      blank = blanks-from h.n card 1 h.n l inv.1;
    }

-- the parts of a rewrite
pub renew-parts : (h : Head) (s td : ℕ) (es : List Entry) (r : Rise)
    → renew h s td es r ≡ record { hand = pairs_of s td r.fresh es; fresh = r.fresh + need_of td es; card = own_card h td r.fresh es r.card }
unfolding renew one_bucket two_buckets pairs_of own_card
renew-parts h s td es r =
    ⊎_elim (λ (t : ltb (length es) td ≡ true). rw t) (λ (t : ltb (length es) td ≡ false). rw t) (bool_cases (ltb (length es) td))
