-- A turn and the end of each loop that builds a season card.
use mathlib.Core.Path.{◌≡◌, ap}
use mathlib.Core.List.{List}
use Prim.Native.Nat.{ℕ, zero, suc, ◌+◌, ◌-◌, ◌≤◌, ◌<◌}
use native.Mathlib.Omega.{arith}
use borrow.Author.Tests.{lt-ltb, le-ltb}
use Rattle.rules.specs.declared.Entry.{Entry}
use Rattle.rules.specs.declared.Head.{Head}
use Rattle.rules.specs.Sector.{put, encode}
use Rattle.rules.specs.Layout.{base}
use mathlib.Core.Logic.{⊎_elim}
use Rattle.laws.proofs.Tools.{le-or-lt}
use Rattle.writer.specs.Words.{Narrow}
use Rattle.season.specs.Storeys.{spot, over, pair_on, raised, tiers, heap}
use Rattle.season.proofs.Counts.{over-less, heap-more}

-- the pairs of an index level
module _ (h : Head) (s q b i c j : ℕ) (R target : List ℕ) (eq : raised h s q b i j (c - j) target ≡ R) where
  pub raised-more : (new : List ℕ) → j < c → new ≡ put target (spot h.m q i j) (encode (pair_on h s target (b + j)))
      → raised h s q b i (j + 1) (c - (j + 1)) new ≡ R
  raised-more new lt e = let n : c - j ≡ suc (c - (j + 1)) = omega arith in rw e (rw n at eq)

pub pair-kind : (h : Head) (s : ℕ) (card : List ℕ) (b : ℕ) (e : Entry) → e ≡ pair_on h s card b → Narrow e
unfolding pair_on
pair-kind h s card b e p =
    let k = ap (λ (e : Entry). e.kind) p in
    let z = ap (λ (e : Entry). e.status) p in
    (omega arith, omega arith)

-- the levels, while f more of them are enough
pub record Rest (h : Head) (s q b c : ℕ) (R target : List ℕ) : Type 0 where
  pub f : ℕ
  pub enough : c ≤ f
  pub fits : heap q f (b + c) c ≤ h.n + 1
  pub gives : tiers h s q f b c target ≡ R

module _ (h : Head) (s q b c : ℕ) (R target : List ℕ) (three : 3 ≤ q) (some : 1 ≤ c) where
  pub rest-fits : Rest h s q b c R target → b + c + over q c ≤ h.n + 1
  rest-fits r = go r.f r.enough r.fits
    where
      go : (f : ℕ) → c ≤ f → heap q f (b + c) c ≤ h.n + 1 → b + c + over q c ≤ h.n + 1
      go zero e p = absurd (omega arith)
      go (suc f) e p = ⊎_elim
          (λ (le : over q c ≤ 1). let k = rw (le-ltb 1 (over q c) le) at p in omega arith)
          (λ (lt : 1 < over q c). let k = rw (lt-ltb 1 (over q c) lt) at p in let g = heap-more q f (b + c + over q c) (over q c) in omega arith)
          (le-or-lt (over q c) 1)

  pub rest_more : Rest h s q b c R target → (new : List ℕ) → new ≡ raised h s q b (base h (b + c)) 0 c target → 1 < over q c → Rest h s q (b + c) (over q c) R new
  rest_more r new e lt = go r.f r.enough r.fits r.gives
    where
      go : (f : ℕ) → c ≤ f → heap q f (b + c) c ≤ h.n + 1 → tiers h s q f b c target ≡ R → Rest h s q (b + c) (over q c) R new
      go zero z p g = absurd (omega arith)
      go (suc f) z p g =
          record {
            f = f;
            enough = let l = over-less q c three lt in omega arith;
            fits = rw (lt-ltb 1 (over q c) lt) at p;
            gives = rw e (rw (lt-ltb 1 (over q c) lt) at g);
          }

-- the count of the buckets, while f more levels are enough
pub record Left (q next c : ℕ) (R : ℕ) : Type 0 where
  pub f : ℕ
  pub enough : c ≤ f
  pub gives : heap q f next c ≡ R

module _ (q next c R : ℕ) (three : 3 ≤ q) (some : 1 ≤ c) where
  pub left-more : Left q next c R → 1 < over q c → Left q (next + over q c) (over q c) R
  left-more l lt = go l.f l.enough l.gives
    where
      go : (f : ℕ) → c ≤ f → heap q f next c ≡ R → Left q (next + over q c) (over q c) R
      go zero z p = absurd (omega arith)
      go (suc f) z p = record { f = f; enough = let k = over-less q c three lt in omega arith; gives = rw (lt-ltb 1 (over q c) lt) at p }
