-- What a head that is read says of its card: the limits and the length; where buckets and log lie on such a card.
use mathlib.Core.Path.{◌≡◌, sym, subst, ap₂, refl}
use mathlib.Core.Bool.{true, false}
use Rattle.std.specs.Prelude.{Some}
use mathlib.Core.List.{List}
use Prim.Native.Nat.{ℕ, suc, ◌+◌, ◌*◌, ◌-◌, ◌≤◌}
use native.Mathlib.Nat.{mul-le-mul, mul-le-mul_left, mul-add, mul-suc, mul_comm, mul-zero}
use native.Mathlib.Omega.{arith}
use lib.ListN.{length, get_or}
use lib.Dec.{leb, eqb}
use borrow.Author.Tests.{leb-true, eqb-true, eq-eqb}
use Rattle.rules.specs.declared.Head.{Head}
use Rattle.rules.specs.Plain.{◌&◌, within, zeros}
use Rattle.rules.specs.Sector.{sector_at, word, le4}
use Rattle.rules.specs.Layout.{limits, size_of, head_fields, head_in, head_of, base, head_bytes}
use Rattle.laws.proofs.Tools.{and-true, guard-true}
use Rattle.laws.proofs.Codec.{digits4}
use Rattle.laws.proofs.Zeros.{zeros-get}

pub record Lim (h : Head) : Type 0 where
  pub m4 : 4 ≤ h.m
  pub m32 : h.m ≤ 32
  pub n2 : 2 ≤ h.n
  pub n4096 : h.n ≤ 4096
  pub td2 : 2 ≤ h.td
  pub tdm : h.td ≤ h.m
  pub ti4 : 4 ≤ h.ti
  pub tim : h.ti ≤ h.m

within-true : (lo x hi : ℕ) → within lo x hi ≡ true → (lo ≤ x) × (x ≤ hi)
unfolding within
within-true lo x hi e = let a = and-true (leb lo x) (leb x hi) e in (leb-true lo x a.0, leb-true x hi a.1)

pub limits-hold : (h : Head) → limits h ≡ true → Lim h
unfolding limits
limits-hold h e =
    let wm = within 4 h.m 32 in
    let wn = within 2 h.n 4096 in
    let wd = within 2 h.td h.m in
    let wi = within 4 h.ti h.m in
    let a = and-true wm (wn & wd & wi) e in
    let b = and-true wn (wd & wi) a.1 in
    let c = and-true wd wi b.1 in
    let m = within-true 4 h.m 32 a.0 in
    let n = within-true 2 h.n 4096 b.0 in
    let td = within-true 2 h.td h.m c.0 in
    let ti = within-true 4 h.ti h.m c.1 in
    record { m4 = m.0; m32 = m.1; n2 = n.0; n4096 = n.1; td2 = td.0; tdm = td.1; ti4 = ti.0; tim = ti.1 }

pub head-facts : (card : List ℕ) (h : Head) → head_of card ≡ Some h → Lim h × (size_of h ≡ length card)
unfolding head_of head_in
head-facts card h q =
    let s = sector_at card 0 in
    let f = head_fields s in
    let k = eqb (get_or s 0 0) 6 in
    let y = eqb (word s 12) 0 in
    let l = eqb (length card) (size_of f) in
    let g = guard-true (k & y & limits f & l) f h q in
    let a = and-true k (y & limits f & l) g.0 in
    let c = and-true y (limits f & l) a.1 in
    let d = and-true (limits f) l c.1 in
    subst (λ (x : Head). Lim x × (size_of x ≡ length card)) g.1 (limits-hold f d.0, sym (eqb-true (length card) (size_of f) d.1))

-- its first sector is no blank
pub head-written : (card : List ℕ) (h : Head) → head_of card ≡ Some h → zeros (sector_at card 0) ≡ true → ⊥
unfolding head_of head_in
head-written card h q z =
    let f = sector_at card 0 in
    let six = eqb (get_or f 0 0) 6 in
    let rest = eqb (word f 12) 0 & limits (head_fields f) & eqb (length card) (size_of (head_fields f)) in
    let t = guard-true (six & rest) (head_fields f) h q in
    let is = eqb-true (get_or f 0 0) 6 (and-true six rest t.0).0 in
    let none-there = zeros-get f 0 z in
    omega arith

-- bucket b, from 1 to n, lies on a card of the right length; and so do the log and the head
pub bucket-fits : (h : Head) (card : List ℕ) (b : ℕ) → size_of h ≡ length card → 1 ≤ b → b ≤ h.n → 16 * (base h b + h.m) ≤ length card
unfolding size_of base
bucket-fits h card b long one most =
    let c = b - 1 in
    let up : suc c ≤ h.n = omega arith in
    let prod : h.m * suc c ≤ h.m * h.n = mul-le-mul_left h.m up in
    let all : h.m * suc c ≡ h.m * c + h.m = mul-suc h.m c in
    let flip : h.m * h.n ≡ h.n * h.m = mul_comm h.m h.n in
    let more : h.n * (h.m + 1) ≡ h.n * h.m + h.n * 1 = mul-add h.n h.m 1 in
    omega arith

pub log-fits : (h : Head) (card : List ℕ) → size_of h ≡ length card → 16 * (1 + h.n) ≤ length card
unfolding size_of
log-fits h card long = let more : h.n * (h.m + 1) ≡ h.n * h.m + h.n * 1 = mul-add h.n h.m 1 in omega arith

pub head-fits : (card : List ℕ) (h : Head) → head_of card ≡ Some h → 16 ≤ length card
head-fits card h q = let all = log-fits h card (head-facts card h q).1 in omega arith

-- the head is read from sector 0 and the length alone
pub head-same : (card card' : List ℕ) → sector_at card' 0 ≡ sector_at card 0 → length card' ≡ length card → head_of card' ≡ head_of card
unfolding head_of
head-same card card' s l = ap₂ head_in s l

-- the head's bytes are read back, and the beginning
pub head_read : (h : Head) (begin len : ℕ) → limits h ≡ true → len ≡ size_of h → head_in (head_bytes h begin) len ≡ Some h
unfolding head_in head_bytes head_fields word le4 zeros
head_read h begin len l e =
    let f : head_fields (head_bytes h begin) ≡ h = λ i. record { m = h.m; td = h.td; ti = h.ti; n = digits4 h.n i } in
    rw (f, l, eq-eqb len (size_of h) e)

pub head-begins : (h : Head) (begin : ℕ) → word (head_bytes h begin) 8 ≡ begin
unfolding head_bytes word le4
head-begins h begin = digits4 begin

pub head-length : (h : Head) (begin : ℕ) → length (head_bytes h begin) ≡ 16
unfolding head_bytes le4
head-length h begin = refl

pub head-says : (h : Head) (begin : ℕ) → zeros (head_bytes h begin) ≡ false
unfolding head_bytes zeros
head-says h begin = refl

-- the first bucket's first sector; any bucket's is a small number
pub first-base : (h : Head) → base h 1 ≡ 1 + h.n
unfolding base
first-base h = let z : h.m * (1 - 1) ≡ 0 = mul-zero h.m in omega arith

pub bucket-low : (m n b : ℕ) → m ≤ 32 → n ≤ 4096 → b ≤ n → m * (b - 1) ≤ 131072
bucket-low m n b p q r = mul-le-mul {n₂ = 32} {m₂ = 4096} p (omega arith)
