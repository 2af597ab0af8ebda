-- What format puts at the first blanks of a blank card, sector by sector.
use mathlib.Core.Path.{◌≡◌, ap, ◌∙◌}
use mathlib.Core.Bool.{true, false}
use Rattle.std.specs.Prelude.{Some}
use mathlib.Core.List.{List, [], ◌∷◌}
use Prim.Native.Nat.{ℕ, ◌+◌, ◌-◌, ◌*◌, ◌≤◌}
use native.Mathlib.Nat.{mul-add, mul-le-mul_right, mul-one}
use native.Mathlib.Omega.{arith}
use lib.Dec.{eqb}
use lib.ListN.{length}
use borrow.Author.Tests.{eqb-true}
use Rattle.rules.specs.declared.Entry.{Entry}
use Rattle.rules.specs.declared.Head.{Head}
use Rattle.rules.specs.Plain.{◌&◌, zeros}
use Rattle.rules.specs.Sector.{sector_at, put, encode, root_entry, index_entry}
use Rattle.rules.specs.Layout.{limits, size_of, head_bytes, base}
use Rattle.rules.specs.Rewrite.{into}
use Rattle.rules.specs.Write.{refuse, refuse_if}
use Rattle.rules.specs.Format.{dummy, formatted, format_for}
use Rattle.laws.proofs.Tools.{and-true}
use Rattle.laws.proofs.Sectors.{length-put, sector-put-other}
use Rattle.laws.proofs.Codec.{length-encode}
use Rattle.laws.proofs.Zeros.{zero-sector}
use Rattle.laws.proofs.Used.{run-blank}
use Rattle.laws.proofs.Buckets.{raw}
use Rattle.laws.proofs.Heads.{Lim, limits-hold, first-base, head-length}
use Rattle.climb.proofs.Laying.{into-puts}

-- the card as the head, the root entry and bucket 1 come to it
abbrev pub headed : Head → List ℕ → List ℕ
headed h card = put card 0 (head_bytes h 0)

abbrev pub rooted : Head → List ℕ → List ℕ
rooted h card = put (headed h card) 1 (encode (root_entry 0 1))

abbrev pub indexed : Head → List ℕ → List ℕ
indexed h card = put (rooted h card) (1 + h.n) (encode (index_entry 0 0 2))

module _ (h : Head) (card : List ℕ) (li : limits h ≡ true) (size : length card ≡ size_of h) (zs : zeros card ≡ true) where
  lim : Lim h
  lim = limits-hold h li

  -- the front and buckets 1 and 2 lie on the card
  pub enough : 16 * (1 + h.n + h.m + h.m) ≤ length card
  unfolding size_of
  enough =
      let l = lim in
      let two : 2 * h.m ≤ h.n * h.m = mul-le-mul_right h.m l.n2 in
      let more : h.n * (h.m + 1) ≡ h.n * h.m + h.n * 1 = mul-add h.n h.m 1 in
      omega arith

  pub long-headed : length (headed h card) ≡ length card
  long-headed = length-put card 0 (head_bytes h 0) (head-length h 0) (let e = enough in omega arith)

  pub long-rooted : length (rooted h card) ≡ length card
  long-rooted = length-put (headed h card) 1 (encode (root_entry 0 1)) (length-encode (root_entry 0 1)) (let e = enough in let l = long-headed in let k = lim.m4 in omega arith) ∙ long-headed

  pub long-indexed : length (indexed h card) ≡ length card
  long-indexed =
      length-put (rooted h card) (1 + h.n) (encode (index_entry 0 0 2)) (length-encode (index_entry 0 0 2)) (let e = enough in let l = long-rooted in let k = lim.m4 in omega arith) ∙ long-rooted

  -- past the front every sector is blank
  front-blank : (j : ℕ) → 2 ≤ j → zeros (sector_at (rooted h card) j) ≡ true
  front-blank j lo =
      let e = enough in
      let l = long-headed in
      let k = lim.m4 in
      ap zeros
      (sector-put-other (headed h card) 1 j (encode (root_entry 0 1)) (length-encode (root_entry 0 1)) (omega arith) (λ (q : j ≡ 1). omega arith)
      ∙ sector-put-other card 0 j (head_bytes h 0) (head-length h 0) (omega arith) (λ (q : j ≡ 0). omega arith))
      ∙ zero-sector card j zs

  bucket-two : base h 2 ≡ 1 + h.n + h.m
  unfolding base
  bucket-two = let z : h.m * (2 - 1) ≡ h.m = mul-one h.m in omega arith

  first-blank : raw h (rooted h card) 1 ≡ Some []
  first-blank = run-blank h.n (rooted h card) (base h 1) h.m (λ j p q. front-blank j (let b = first-base h in let n = lim.n2 in omega arith))

  second-blank : raw h (indexed h card) 2 ≡ Some []
  second-blank =
      run-blank h.n (indexed h card) (base h 2) h.m
      (λ j p q.
      let b = bucket-two in
      let k = lim.m4 in
      let l = long-rooted in
      let e = enough in
      ap zeros (sector-put-other (rooted h card) (1 + h.n) j (encode (index_entry 0 0 2)) (length-encode (index_entry 0 0 2)) (omega arith) (λ (z : j ≡ 1 + h.n). omega arith))
      ∙ front-blank j (omega arith))

  -- one entry into a blank bucket
  into-first : (c : List ℕ) (b at : ℕ) (e : Entry) → raw h c b ≡ Some [] → base h b ≡ at → into h b (e ∷ []) c ≡ put c at (encode e)
  into-first c b at e q is =
      let k = lim.m4 in
      into-puts h c b [] (e ∷ []) at q (omega arith) (omega arith)

  pub formatted-is : formatted h card ≡ put (indexed h card) (1 + h.n + h.m) (encode dummy)
  unfolding formatted
  formatted-is =
      ap (into h 2 (dummy ∷ [])) (into-first (rooted h card) 1 (1 + h.n) (index_entry 0 0 2) first-blank (first-base h))
      ∙ into-first (indexed h card) 2 (1 + h.n + h.m) dummy second-blank bucket-two

-- the order of format's refusals: 8 where the geometry has no room on the card, then 9 where the card is not blank
module _ (card : List ℕ) (h : Head) where
  pub no_room : (limits h & eqb (length card) (size_of h)) ≡ false → format_for card h ≡ refuse 8
  unfolding format_for refuse_if
  no_room q = rw q

  pub not-blank : (limits h & eqb (length card) (size_of h)) ≡ true → zeros card ≡ false → format_for card h ≡ refuse 9
  unfolding format_for refuse_if
  not-blank q z = rw (q, z)

-- a geometry that suits a card
module _ (card : List ℕ) (h : Head) where
  pub suited : (limits h & eqb (length card) (size_of h)) ≡ true → (limits h ≡ true) × (length card ≡ size_of h)
  suited q = let a = and-true (limits h) (eqb (length card) (size_of h)) q in (a.0, eqb-true (length card) (size_of h) a.1)
