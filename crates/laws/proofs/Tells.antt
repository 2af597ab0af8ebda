-- What a next may answer, on any card of bytes: a refusal or the end, or the record of a post above the bib asked with.
use mathlib.Core.Path.{◌≡◌, refl, sym, ◌∙◌, subst}
use mathlib.Core.Logic.{◌⊎◌, inl, inr, ⊎_elim}
use mathlib.Core.Bool.{Bool, true, false}
use Rattle.std.specs.Prelude.{Option, None, Some}
use Prim.Native.Nat.{ℕ, zero, suc, ◌≤◌, ◌<◌}
use mathlib.Core.List.{List, [], ◌∷◌}
use lib.Dec.{leb, ltb}
use borrow.Author.Tests.{le-leb, lt-leb, leb-true, ltb-true, eqb-true}
use Rattle.rules.specs.declared.Answer.{Answer}
use Rattle.rules.specs.declared.Entry.{Entry}
use Rattle.rules.specs.declared.Head.{Head}
use Rattle.rules.specs.Answers.{answer, ended, refused}
use Rattle.rules.specs.Layout.{base, beginning, head_of}
use Rattle.rules.specs.Next.{hop, hop_or, hop_to, hopping, key_above, lasts, next, next_from, next_in, standing_above}
use Rattle.rules.specs.Plain.{◌&◌, if, is_none, keep_if, only, smaller, smallest}
use Rattle.rules.specs.Sector.{is_post, legal, status_fits}
use Rattle.rules.specs.Walk.{Visit, copy_of, data_of, left, standing, stands_on, walk}
use Rattle.rules.specs.Bucket.{bucket}
use Rattle.laws.proofs.Buckets.{bucket-raw}
use Rattle.laws.proofs.Bytes.{Bytes, run-good}
use Rattle.laws.proofs.Codec.{Fits}
use Rattle.laws.proofs.Entries.{Fine}
use Rattle.laws.proofs.Lists.{All, all_both, copy-all, only-all, only-true}
use Rattle.laws.proofs.Paths.{Along, along-map, walk-reads}
use Rattle.laws.proofs.Tools.{and-true, none-some, le-or-lt}

-- the record of an entry, or the end
abbrev pub given : Option Entry → Answer
given None = ended
given (Some e) = answer 0 e.key e.stamp e.status e.value 0

-- a record that stands as of t
abbrev pub Rec : ℕ → Entry → Type 0
Rec t e = Fits e × (e.kind ≡ 1) × (1 ≤ e.key) × (1 ≤ e.stamp) × (e.stamp ≤ t) × (status_fits e.status e.value ≡ true)

-- the smallest of a list
pub smaller-pick : (e d : Entry) → ((smaller e (Some d) ≡ Some d) × (d.key ≤ e.key)) ⊎ ((smaller e (Some d) ≡ Some e) × (e.key < d.key))
unfolding smaller
smaller-pick e d =
    ⊎_elim
    (λ (le : d.key ≤ e.key). inl (rw (le-leb d.key e.key le), le))
    (λ (gt : e.key < d.key). inr (rw (lt-leb d.key e.key gt), gt))
    (le-or-lt d.key e.key)

pub smallest-all : (P : Entry → Type 0) (es : List Entry) (d : Entry) → All P es → smallest es ≡ Some d → P d
unfolding smallest smaller
smallest-all P [] d a q = absurd (none-some q)
smallest-all P (e ∷ es) d a q =
    let go : (r : Option Entry) → smallest es ≡ r → smaller e r ≡ Some d → P d
    = λ r. elim r as (λ r. smallest es ≡ r → smaller e r ≡ Some d → P d) [
      | None ↦ λ z w. (let ed : e ≡ d = cc in subst P ed a.0)
      | Some c ↦ λ z w. ⊎_elim
          (λ (k : (smaller e (Some c) ≡ Some c) × (c.key ≤ e.key)). smallest-all P es d a.1 (z ∙ sym k.0 ∙ w))
          (λ (k : (smaller e (Some c) ≡ Some e) × (e.key < c.key)). (let ed : Some e ≡ Some d = sym k.0 ∙ w in let e2 : e ≡ d = cc in subst P e2 a.0))
          (smaller-pick e c)
    ] in
    go (smallest es) refl q

abbrev pub wants : ℕ → Entry → Bool
wants k e = is_post e & ltb k e.key

-- what holds of every bucket on a path holds of its data
data-along : (P : Entry → Type 0) (p : List Visit) → Along (λ v. All P v.entries) p → All P (data_of p)
unfolding data_of
data-along P [] a = tt
data-along P (v ∷ []) a = a.0
data-along P (v ∷ w ∷ p) a = data-along P (w ∷ p) a.1

walk_fine : (h : Head) (card : List ℕ) → Bytes card → (t x : ℕ) (p : List Visit) → walk h card t x ≡ Some p → All (Fine h.n) (data_of p)
walk_fine h card by t x p q =
    data-along (Fine h.n) p
    (along-map (λ v. bucket h card v.number ≡ Some v.entries) (λ v. All (Fine h.n) v.entries)
    (λ v z. run-good h.n card by (base h v.number) h.m v.entries (bucket-raw h card v.number v.entries z).1) p (walk-reads h card t x p q))

lasts-sub : (P : Entry → Type 0) (es : List Entry) → All P es → All P (lasts es)
unfolding lasts
lasts-sub P [] a = tt
lasts-sub P (e ∷ es) a =
    elim (is_none (copy_of e.key es)) as (λ b. All P (keep_if b e (lasts es))) [ true ↦ (a.0, lasts-sub P es a.1) | false ↦ lasts-sub P es a.1 ]

fine-rec : (n t : ℕ) (e : Entry) → Fine n e → e.stamp ≤ t → is_post e ≡ true → Rec t e
unfolding is_post legal
fine-rec n t e f s p =
    let k = eqb-true e.kind 1 p in
    let fits = status_fits e.status e.value in
    let l : leb 1 e.key & leb 1 e.stamp & fits ≡ true = rw k at f.1 in
    let a = and-true (leb 1 e.key) (leb 1 e.stamp & fits) l in
    let b = and-true (leb 1 e.stamp) fits a.1 in
    (f.0, k, leb-true 1 e.key a.0, leb-true 1 e.stamp b.0, s, b.1)

-- what stands is one of the path's data
pub stands-all : (P : Entry → Type 0) (t x : ℕ) (p : List Visit) → Along (λ v. All P v.entries) p → (e : Entry) → stands_on t x p ≡ Some e → P e
unfolding stands_on standing left
stands-all P t x p a e s = go (copy_of x (only (λ d. leb d.stamp t) (data_of p))) refl s
  where
    post : (d : Entry) → P d → (b : Bool) → if b (Some d) None ≡ Some e → P e
    post d c true z = let same : d ≡ e = cc in subst P same c
    post d c false z = absurd (none-some z)

    go : (o : Option Entry) → copy_of x (only (λ d. leb d.stamp t) (data_of p)) ≡ o → standing o ≡ Some e → P e
    go None c z = absurd (none-some z)
    go (Some d) c z =
        post d (copy-all P x (only (λ d. leb d.stamp t) (data_of p)) d (only-all P (λ d. leb d.stamp t) (data_of p) (data-along P p a)) c) (is_post d) z

-- what stands where a walk ends
pub walk-stands : (h : Head) (card : List ℕ) → Bytes card → (t x : ℕ) (p : List Visit) → walk h card t x ≡ Some p → (e : Entry) → stands_on t x p ≡ Some e → Rec t e
unfolding stands_on standing left
walk-stands h card by t x p q e s = go (copy_of x l) refl s
  where
    l : List Entry
    l = only (λ d. leb d.stamp t) (data_of p)

    P : Entry → Type 0
    P d = Fine h.n d × (leb d.stamp t ≡ true)

    early : All P l
    early = all_both (Fine h.n) (λ d. leb d.stamp t ≡ true) l (only-all (Fine h.n) (λ d. leb d.stamp t) (data_of p) (walk_fine h card by t x p q)) (only-true (λ d. leb d.stamp t) (data_of p))

    post : (d : Entry) → copy_of x l ≡ Some d → (b : Bool) → is_post d ≡ b → if b (Some d) None ≡ Some e → Rec t e
    post d c true i z =
        let same : d ≡ e = cc in
        let f = copy-all P x l d early c in
        subst (Rec t) same (fine-rec h.n t d f.0 (leb-true d.stamp t f.1) i)
    post d c false i z = absurd (none-some z)

    go : (o : Option Entry) → copy_of x l ≡ o → standing o ≡ Some e → Rec t e
    go None c z = absurd (none-some z)
    go (Some d) c z = post d c (is_post d) refl z

-- what a next above k may answer: a refusal or the end, or a record with a bib above k
abbrev pub Tells : ℕ → ℕ → Answer → Type 0
Tells k t a = ((a.bib ≡ 0) × (a.status ≡ 0)) ⊎ ((e : Entry) × (a ≡ given (Some e)) × Rec t e × (k < e.key))

module _ (n k t : ℕ) (wk : ℕ → Option (List Visit)) (fine : (x : ℕ) (p : List Visit) → wk x ≡ Some p → All (Fine n) (data_of p)) where
  found : (es : List Entry) (e : Entry) → All (Fine n) es → standing_above k (left t es) ≡ Some e → Rec t e × (k < e.key)
  unfolding standing_above left
  found es e a q =
      let early : Entry → Bool = λ d. leb d.stamp t in
      let l = only early es in
      let P : Entry → Type 0 = λ d. Fine n d × (leb d.stamp t ≡ true) in
      let al : All P l = all_both (Fine n) (λ d. leb d.stamp t ≡ true) l (only-all (Fine n) early es a) (only-true early es) in
      let w = smallest-all (λ d. wants k d ≡ true) (only (wants k) (lasts l)) e (only-true (wants k) (lasts l)) q in
      let f = smallest-all P (only (wants k) (lasts l)) e (only-all P (wants k) (lasts l) (lasts-sub P l al)) q in
      let wp = and-true (is_post e) (ltb k e.key) w in
      (fine-rec n t e f.0 (leb-true e.stamp t f.1) wp.0, ltb-true k e.key wp.1)

  any_next : (f x : ℕ) → Tells k t (next_from wk k t f x)
  unfolding next_from hop hop_or hop_to hopping ended refused
  any_next zero x = inl (refl, refl)
  any_next (suc f) x =
      let further : (r : Option Entry) → Tells k t (hopping (hop_to r) (next_from wk k t f))
      = λ r. elim r as (λ r. Tells k t (hopping (hop_to r) (next_from wk k t f))) [ None ↦ inl (refl, refl) | Some e ↦ any_next f e.key ] in
      let here : (p : List Visit) → wk x ≡ Some p → (r : Option Entry) → standing_above k (left t (data_of p)) ≡ r
      → Tells k t (hopping (hop_or r (hop_to (key_above t x p))) (next_from wk k t f))
      = λ p q r. elim r as (λ r. standing_above k (left t (data_of p)) ≡ r → Tells k t (hopping (hop_or r (hop_to (key_above t x p))) (next_from wk k t f))) [
        | None ↦ λ z. further (key_above t x p)
        | Some e ↦ λ z. (let d = found (data_of p) e (fine x p q) z in inr (e, refl, d.0, d.1))
      ] in
      let walked : (r : Option (List Visit)) → wk x ≡ r → Tells k t (hopping (hop k t x r) (next_from wk k t f))
      = λ r. elim r as (λ r. wk x ≡ r → Tells k t (hopping (hop k t x r) (next_from wk k t f))) [ None ↦ λ z. inl (refl, refl) | Some p ↦ λ z. here p z (standing_above k (left t (data_of p))) refl ] in
      walked (wk x) refl

-- on any card
pub next-tells : (card : List ℕ) → Bytes card → (t k : ℕ) → Tells k t (next card k t)
unfolding next next_in refused
next-tells card by t k = go (head_of card)
  where
    late : (h : Head) (b : Bool) → Tells k t (if b (refused 13) (next_from (walk h card t) k t 4294967296 k))
    late h true = inl (refl, refl)
    late h false = any_next h.n k t (walk h card t) (walk_fine h card by t) 4294967296 k

    go : (o : Option Head) → Tells k t (next_in k t card o)
    go None = inl (refl, refl)
    go (Some h) = late h (ltb t (beginning card))

-- so that kind and status of its record are a byte each
pub next-status : (card : List ℕ) → Bytes card → (t k : ℕ) → ((next card k t).bib ≡ 0 → ⊥) → (next card k t).status < 256
next-status card by t k ne =
    ⊎_elim (λ (z : ((next card k t).bib ≡ 0) × ((next card k t).status ≡ 0)). absurd (ne z.0))
    (λ (s : (e : Entry) × (next card k t ≡ given (Some e)) × Rec t e × (k < e.key)). rw s.1 s.2.0.status) (next-tells card by t k)
