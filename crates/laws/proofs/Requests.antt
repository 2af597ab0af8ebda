-- A batch's requests: one that is asked well is a call's entry, and is answered as the call is.
use mathlib.Core.Path.{◌∙◌, ◌≡◌, ap, refl, sym}
use mathlib.Core.Logic.{◌⊎◌, inl, inr, ⊎_elim}
use mathlib.Core.Bool.{Bool, true, false}
use Rattle.std.specs.Prelude.{Option, None, Some}
use mathlib.Core.List.{List}
use Prim.Native.Nat.{ℕ}
use lib.Dec.{eqb}
use lib.ListN.{drop, take}
use borrow.Author.Tests.{eq-eqb, eqb-true}
use Rattle.rules.specs.declared.Entry.{Entry}
use Rattle.rules.specs.declared.Head.{Head}
use Rattle.rules.specs.Layout.{head_of}
use Rattle.rules.specs.Plain.{◌&◌, ◌or◌, zeros}
use Rattle.rules.specs.Sector.{encode, fields, is_post}
use Rattle.rules.specs.Write.{plan, plan_for, refuse, refuse_if}
use Rattle.rules.specs.Batch.{request, request_for, well_asked}
use Rattle.laws.proofs.Tools.{and-true, bool_cases, true-and}
use Rattle.laws.proofs.Codec.{fields-encode}
use Rattle.laws.proofs.Entries.{Asks, Kinds}
use Rattle.laws.proofs.Bytes.{Bytes, fields_fit}

or-true : (a b : Bool) → (a or b) ≡ true → (a ≡ true) ⊎ (b ≡ true)
or-true true b q = inl refl
or-true false b q = inr q

pub well-asks : (r : List ℕ) → Bytes r → well_asked r ≡ true → Asks (fields r)
unfolding well_asked Asks is_post
well-asks r by q =
    let e = fields r in
    let bare = eqb e.status 0 & eqb e.value 0 in
    let struck = eqb e.kind 2 & bare in
    let kinds = (and-true (zeros (take 2 (drop 2 r))) (eqb e.kind 1 or struck) q).1 in
    let f = fields_fit r by in (
      record { key = f.key; stamp = f.stamp; value = f.value },
      ⊎_elim
          (λ (p : eqb e.kind 1 ≡ true). inl (eqb-true e.kind 1 p))
          (λ (s : struck ≡ true).
          let kind = and-true (eqb e.kind 2) bare s in
          let both = and-true (eqb e.status 0) (eqb e.value 0) kind.1 in
          inr (eqb-true e.kind 2 kind.0, eqb-true e.status 0 both.0, eqb-true e.value 0 both.1))
          (or-true (eqb e.kind 1) struck kinds),
    )

-- the bytes of a call's entry are asked well
zero-bytes : (e : Entry) → zeros (take 2 (drop 2 (encode e))) ≡ true
unfolding encode zeros
zero-bytes e = refl

well-kinds : (e : Entry) → Kinds e → (eqb e.kind 1 or (eqb e.kind 2 & eqb e.status 0 & eqb e.value 0)) ≡ true
well-kinds e (inl k) = rw (eq-eqb e.kind 1 k)
well-kinds e (inr k) = ⊎_elim (λ (p : eqb e.kind 1 ≡ true). rw p) (λ (p : eqb e.kind 1 ≡ false). rw (p, eq-eqb e.kind 2 k.0, eq-eqb e.status 0 k.1, eq-eqb e.value 0 k.2)) (bool_cases (eqb e.kind 1))

well-encode : (e : Entry) → Asks e → well_asked (encode e) ≡ true
unfolding well_asked Asks is_post
well-encode e a = rw (fields-encode e) (true-and (zero-bytes e) (well-kinds e a.1))

-- 1, 11, then the entry's plan
pub no-card : (card r : List ℕ) → head_of card ≡ None → request card r ≡ refuse 1
unfolding request request_for
no-card card r q = rw q

pub ill-asked : (card r : List ℕ) (h : Head) → head_of card ≡ Some h → well_asked r ≡ false → request card r ≡ refuse 11
unfolding request request_for refuse_if
ill-asked card r h q w = rw (q, w)

pub asked : (card r : List ℕ) (h : Head) → head_of card ≡ Some h → well_asked r ≡ true → request card r ≡ plan card (fields r)
unfolding request request_for refuse_if
asked card r h q w = rw (q, w)

-- and so the bytes of an entry are answered as its call is, whatever the card
pub request-encode : (card : List ℕ) (e : Entry) → Asks e → request card (encode e) ≡ plan card e
unfolding plan plan_for Asks
request-encode card e a = go (head_of card) refl
  where
    go : (o : Option Head) → head_of card ≡ o → request card (encode e) ≡ plan_for card e (head_of card)
    go None q = no-card card (encode e) q ∙ sym (ap (plan_for card e) q)
    go (Some h) q = asked card (encode e) h q (well-encode e a) ∙ ap (plan card) (fields-encode e)
