-- Each entry of a level has its sector on the card, if the card has the level's buckets.
use mathlib.Core.Path.{◌≡◌, ap}
use mathlib.Core.List.{List}
use Prim.Native.Nat.{ℕ, ◌+◌, ◌-◌, ◌*◌, ◌/◌, ◌%◌, ◌≤◌, ◌<◌}
use native.Mathlib.Nat.{mul-add, mul-le-mul, mod-lt}
use native.Mathlib.Omega.{arith}
use lib.ListN.{length}
use Rattle.rules.specs.declared.Head.{Head}
use Rattle.rules.specs.Layout.{base, size_of}
use Rattle.laws.proofs.Heads.{bucket-fits}
use Rattle.bucket.specs.Shapes.{Shape}
use Rattle.season.specs.Storeys.{spot, over, Room}
use Rattle.season.proofs.Counts.{over-bucket}

pub base_on : (h : Head) (b d : ℕ) → 1 ≤ b → base h (b + d) ≡ base h b + h.m * d
unfolding base
base_on h b d lo =
    let e : b + d - 1 ≡ (b - 1) + d = omega arith in
    let p : h.m * (b + d - 1) ≡ h.m * ((b - 1) + d) = ap (λ (n : ℕ). h.m * n) e in
    let s : h.m * ((b - 1) + d) ≡ h.m * (b - 1) + h.m * d = mul-add h.m (b - 1) d in
    omega arith

pub card-long : (h : Head) (card : List ℕ) → Shape h card → length card ≤ 4000000
unfolding size_of
card-long h card sh =
    let p : h.n * (h.m + 1) ≤ 4096 * 33 = mul-le-mul {n₂ = 4096} {m₂ = 33} sh.lim.n4096 (let k = sh.lim.m32 in omega arith) in
    omega (arith, sh.long)

pub level-room : (h : Head) (card : List ℕ) (q b c : ℕ) → Shape h card → 1 ≤ q → q ≤ h.m → 1 ≤ b → b + over q c ≤ h.n + 1 → Room h.m q (base h b) c card
unfolding spot
level-room h card q b c sh one most lo fit =
    record {
      some = one;
      long = card-long h card sh;
      lies = λ k lt.
          let g = over-bucket q c k one lt in
          let f = bucket-fits h card (b + k / q) sh.long (omega arith) (omega arith) in
          let e = base_on h b (k / q) lo in
          let r : k % q < q = mod-lt k one in
          omega arith;
    }
