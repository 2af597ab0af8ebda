-- A root entry goes to the first blank of the log.
use mathlib.Core.Path.{◌∙◌, ◌≡◌, ap, refl, sym}
use mathlib.Core.Logic.{◌⊎◌, inl, inr, ⊎_elim}
use mathlib.Core.Bool.{true}
use Rattle.std.specs.Prelude.{Some}
use Prim.Native.Nat.{◌+◌, ◌<◌, ◌≤◌, suc, zero, ℕ}
use native.Mathlib.Omega.{arith}
use mathlib.Core.List.{List, [], ◌++◌, ◌∷◌}
use lib.ListN.{length}
use Rattle.rules.specs.declared.Entry.{Entry}
use Rattle.rules.specs.declared.Head.{Head}
use Rattle.rules.specs.Bucket.{blanks, bucket, log, log_blanks, sound_bucket}
use Rattle.rules.specs.Layout.{base, size_of}
use Rattle.rules.specs.Plain.{and_then}
use Rattle.rules.specs.Rewrite.{fill}
use Rattle.rules.specs.Sector.{is_root, sector_at}
use Rattle.laws.proofs.Run.{run_agree}
use Rattle.laws.proofs.Buckets.{raw}
use Rattle.laws.proofs.Blocks.{Each, Lies, blanks-each, fill-other, length-fill}
use Rattle.laws.proofs.Entries.{Good, Fine}
use Rattle.laws.proofs.Bytes.{bytes-fill}
use Rattle.laws.proofs.Logs.{log-grows}
use Rattle.tree.proofs.Ready.{Ready}

pub record Logged (h : Head) (card card' : List ℕ) (f : ℕ) (lg : List Entry) : Type 0 where
  pub ready : Ready h card' f
  pub head : sector_at card' 0 ≡ sector_at card 0
  pub logged : log h card' ≡ Some lg
  pub same : (c : ℕ) → bucket h card' c ≡ bucket h card c

pub log-step : (h : Head) (card : List ℕ) (f : ℕ) (lg : List Entry) (r : Entry) → Ready h card f → log h card ≡ Some lg
    → 1 ≤ length (log_blanks h card)
    → Fine h.n r → is_root r ≡ true → Logged h card (fill card (log_blanks h card) (r ∷ [])) f (lg ++ (r ∷ []))
unfolding log_blanks bucket size_of base
log-step h card f lg r rdy q room fine root =
    let size = rdy.size in
    let is = blanks card 1 h.n in
    let card' = fill card is (r ∷ []) in
    let good : Good h.n (r ∷ []) = (fine, tt) in
    let lies : Each (Lies card) is = blanks-each (Lies card) card 1 h.n (λ j p z y. omega arith) in
    let other : (j : ℕ) → (j < 1) ⊎ (1 + h.n ≤ j) → sector_at card' j ≡ sector_at card j
    = λ j out. fill-other card is (r ∷ []) j lies
    (blanks-each (λ i. j ≡ i → ⊥) card 1 h.n (λ i p z y e. ⊎_elim (λ (l : j < 1). omega arith) (λ (g : 1 + h.n ≤ j). omega arith) out)) in
    let rawsame : (c : ℕ) → raw h card' c ≡ raw h card c
    = λ c. run_agree h.n card' card (base h c) h.m (λ j p z. other j (inr (omega arith))) in
    record {
      ready = record {
        bytes = bytes-fill h.n card is (r ∷ []) rdy.bytes good;
        size = size ∙ sym (length-fill card is (r ∷ []) lies);
        blank = λ c a b. rawsame c ∙ rdy.blank c a b;
        whole = λ c a. let w = rdy.whole c a in (w.0, rawsame c ∙ w.1);
      };
      head = other 0 (inl (omega arith));
      logged = log-grows h card lg r size q room fine root;
      same = λ c. buckets c (rawsame c);
    }
  where
    buckets : (c : ℕ) → raw h (fill card (blanks card 1 h.n) (r ∷ [])) c ≡ raw h card c
        → bucket h (fill card (blanks card 1 h.n) (r ∷ [])) c ≡ bucket h card c
    buckets zero e = refl
    buckets (suc c) e = ap (λ z. and_then z sound_bucket) e
