-- The records that nexts give one after the other: posts by rising bib on any card of bytes, and on a card of ours what stands.
use mathlib.Core.Path.{◌≡◌, refl, ap, sym, ◌∙◌, subst}
use mathlib.Core.Logic.{inl, inr, ⊎_elim}
use mathlib.Core.Bool.{Bool, true, false}
use Rattle.std.specs.Prelude.{Option, None, Some}
use Prim.Native.Nat.{ℕ, zero, suc, ◌+◌, ◌≤◌, ◌<◌}
use native.Mathlib.Omega.{arith}
use mathlib.Core.List.{List, [], ◌∷◌}
use lib.Dec.{eqb}
use borrow.Author.Tests.{eqb-true, eq-eqb, ne_eqb}
use Rattle.rules.specs.declared.Answer.{Answer}
use Rattle.rules.specs.declared.Entry.{Entry}
use Rattle.rules.specs.declared.Head.{Head}
use Rattle.rules.specs.Answers.{ended}
use Rattle.rules.specs.Next.{next}
use Rattle.rules.specs.Plain.{if, last_of, only}
use Rattle.rules.specs.Records.{Roll, roll, record_of, roll_on, rolled}
use Rattle.rules.specs.Season.{standing_at}
use Rattle.rules.specs.Sector.{is_post}
use Rattle.rules.specs.Walk.{copy_of, data_of, left, standing, stands_on}
use Rattle.laws.proofs.Bytes.{Bytes}
use Rattle.laws.proofs.Copies.{copy-cons}
use Rattle.laws.proofs.Halves.{copy-low}
use Rattle.laws.proofs.Lists.{All, all_map}
use Rattle.laws.proofs.Tools.{eq-or-ne, le-or-lt, none-some}
use Rattle.tree.proofs.Ends.{ends-here}
use Rattle.laws.proofs.Tells.{given, Tells, next-tells}
use Rattle.tree.proofs.Found.{Found, found-ext, found-one}
use Rattle.tree.proofs.Keeps.{Keeps, keeps-next}
use Rattle.tree.proofs.Seasoned.{Records, said}

-- the record of an answer is the entry that it was given for
record-given : (e : Entry) → e.kind ≡ 1 → record_of (given (Some e)) ≡ e
record-given e k = λ i. record { kind = sym k i; status = e.status; key = e.key; stamp = e.stamp; value = e.value }

abbrev Rising : ℕ → ℕ → List Entry → Type 0
Rising t k rs = Records t rs × All (λ d. k < d.key) rs

on-rising : (k t : ℕ) (a : Answer) (on : ℕ → Roll) → Tells k t a → ((j : ℕ) → Rising t j (on j).records) → Rising t k (roll_on a on).records
unfolding roll_on
on-rising k t a on (inl z) rest = rw (eq-eqb a.bib 0 z.0) ((tt, tt), tt)
on-rising k t a on (inr (e, is, r, ke)) rest =
    let g = rest e.key in
    let all : Rising t k (e ∷ (on e.key).records)
    = (((r, g.0.0), (g.1, g.0.1)), (ke, all_map (λ d. e.key < d.key) (λ d. k < d.key) (λ d l. omega arith) (on e.key).records g.1)) in
    subst (λ z. Rising t k (roll_on z on).records) (sym is)
    (rw (ne_eqb e.key 0 (λ z. omega arith)) (subst (λ z. Rising t k (z ∷ (on e.key).records)) (sym (record-given e r.1)) all))

rolled-rising : (card : List ℕ) → Bytes card → (t f k : ℕ) → Rising t k (rolled card t f k).records
unfolding rolled
rolled-rising card by t zero k = ((tt, tt), tt)
rolled-rising card by t (suc f) k = on-rising k t (next card k t) (rolled card t f) (next-tells card by t k) (rolled-rising card by t f)

-- what stands on any card of bytes, foreign or damaged elsewhere
pub standing-records : (card : List ℕ) → Bytes card → (t : ℕ) → Records t (standing_at card t).records
unfolding standing_at
standing-records card by t = (rolled-rising card by t 4294967296 0).0

-- what stands is a post
stands-as-post : (r : Option Entry) (e : Entry) → standing r ≡ Some e → e.kind ≡ 1
unfolding standing is_post
stands-as-post None e q = absurd (none-some q)
stands-as-post (Some c) e q = go (eqb c.kind 1) refl q
  where
    go : (b : Bool) → eqb c.kind 1 ≡ b → if b (Some c) None ≡ Some e → e.kind ≡ 1
    go true t w = let ce : c ≡ e = cc in subst (λ z. z.kind ≡ 1) ce (eqb-true c.kind 1 t)
    go false t w = absurd (none-some w)

said-none : (x : ℕ) (rs : List Entry) → All (λ d. d.key ≡ x → ⊥) rs → said rs x ≡ None
unfolding copy_of only last_of standing
said-none x rs a = ap standing (copy-low x [] rs a)

pub said-first : (e : Entry) (rs : List Entry) → e.kind ≡ 1 → All (λ d. e.key < d.key) rs → said (e ∷ rs) e.key ≡ Some e
unfolding copy_of only last_of standing is_post
said-first e rs k a =
    let c : copy_of e.key rs ≡ None = copy-low e.key [] rs (all_map (λ d. e.key < d.key) (λ d. d.key ≡ e.key → ⊥) (λ d l z. omega arith) rs a) in
    let f : copy_of e.key (e ∷ rs) ≡ Some e = copy-cons e.key e rs ∙ rw (eq-eqb e.key e.key refl, c) in
    ap standing f ∙ rw (eq-eqb e.kind 1 k)

pub said-later : (x : ℕ) (e : Entry) (rs : List Entry) → (e.key ≡ x → ⊥) → said (e ∷ rs) x ≡ said rs x
said-later x e rs n = ap standing (copy-cons x e rs ∙ rw (ne_eqb e.key x n))

-- a roll that tells all above k that stands, and no refusal
pub record Whole (g : ℕ → Option Entry) (k : ℕ) (r : Roll) : Type 0 where
  pub code : r.code ≡ 0
  pub says : (x : ℕ) → k < x → x < 4294967296 → said r.records x ≡ g x

whole-more : (g : ℕ → Option Entry) (k : ℕ) (e : Entry) (r : Roll) → k < e.key → e.kind ≡ 1 → g e.key ≡ Some e
    → ((y : ℕ) → k < y → y < e.key → g y ≡ None) → All (λ d. e.key < d.key) r.records → Whole g e.key r
    → Whole g k (roll r.code (e ∷ r.records))
whole-more g k e r ke kind here gap up w =
    record {
      code = w.code;
      says = λ x kx lx.
          ⊎_elim
          (λ (le : x ≤ e.key). ⊎_elim
          (λ (eq : e.key ≡ x). subst (λ z. said (e ∷ r.records) z ≡ g z) eq (said-first e r.records kind up ∙ sym here))
          (λ (ne : e.key ≡ x → ⊥). said-later x e r.records ne
          ∙ said-none x r.records (all_map (λ d. e.key < d.key) (λ d. d.key ≡ x → ⊥) (λ d l z. omega arith) r.records up) ∙ sym (gap x kx (omega arith)))
          (eq-or-ne e.key x))
          (λ (gt : e.key < x). said-later x e r.records (λ z. omega arith) ∙ w.says x gt lx)
          (le-or-lt x e.key);
    }

module _ (h : Head) (card : List ℕ) (g : ℕ → ℕ → Option Entry) (begin s : ℕ) (ke : Keeps h card g begin s) (t : ℕ) (since : begin ≤ t) where
  keeps-post : (x : ℕ) → x < 4294967296 → (e : Entry) → g t x ≡ Some e → e.kind ≡ 1
  unfolding stands_on
  keeps-post x lt e q =
      let a = ke.answers t x since lt in
      stands-as-post (copy_of x (left t (data_of a.0))) e (ends-here (g t) t x 0 4294967296 a.0 a.2 ∙ q)

  on-whole : (k : ℕ) (a : Answer) (on : ℕ → Roll) (r : Option Entry) → a ≡ given r → Found (g t) k 0 4294967296 r
      → ((j : ℕ) → k < j → j < 4294967296 → Whole (g t) j (on j) × All (λ d. j < d.key) (on j).records) → Whole (g t) k (roll_on a on)
  unfolding roll_on ended copy_of only last_of standing
  on-whole k a on r is (inl f) rest =
      subst (λ z. Whole (g t) k (roll_on z on)) (sym (is ∙ ap given f.0)) (record { code = refl; says = λ x kx lx. sym (f.1 x (omega arith) lx kx) })
  on-whole k a on r is (inr f) rest =
      let e = f.0 in
      let kind = keeps-post e.key f.3 e f.4 in
      let w = rest e.key f.2 f.3 in
      let low = f.2 in
      subst (λ z. Whole (g t) k (roll_on z on)) (sym (is ∙ ap given f.1))
      (rw (ne_eqb e.key 0 (λ z. omega arith))
      (subst (λ z. Whole (g t) k (roll (on e.key).code (z ∷ (on e.key).records))) (sym (record-given e kind))
      (whole-more (g t) k e (on e.key) f.2 kind f.4 (λ y ky ye. f.5 y (omega arith) ky ye) w.1 w.0)))

  rolled-whole : (f k : ℕ) → k < 4294967296 → 4294967296 ≤ k + f → Whole (g t) k (rolled card t f k)
  unfolding rolled
  rolled-whole zero k lt fuel = absurd (omega arith)
  rolled-whole (suc f) k lt fuel =
      let n = keeps-next h card g begin s ke k t since lt in
      on-whole k (next card k t) (rolled card t f) n.0 n.1 n.2
      (λ j kj jl. (rolled-whole f j jl (omega arith), (rolled-rising card ke.state.bytes t f j).1))

  -- on a card of ours they are what stands, and no refusal ends them
  pub standing-whole : Whole (g t) 0 (standing_at card t)
  unfolding standing_at
  standing-whole = rolled-whole 4294967296 0 (omega arith) (omega arith)

-- nexts that agree give the same records
rolled-same : (c d : List ℕ) (t : ℕ) → ((k : ℕ) → k < 4294967296 → (next c k t ≡ next d k t) × ((next c k t).bib < 4294967296)) → (f k : ℕ) → k < 4294967296
    → rolled c t f k ≡ rolled d t f k
unfolding rolled roll_on
rolled-same c d t same zero k lt = refl
rolled-same c d t same (suc f) k lt =
    let s = same k lt in
    let a = next c k t in
    ap (λ (r : Roll). if (eqb a.bib 0) (roll a.code []) (roll r.code (record_of a ∷ r.records))) (rolled-same c d t same f a.bib s.1)
    ∙ ap (λ (z : Answer). roll_on z (rolled d t f)) s.0

given-bib : (g : ℕ → Option Entry) (k : ℕ) (r : Option Entry) → Found g k 0 4294967296 r → (given r).bib < 4294967296
unfolding ended
given-bib g k r (inl f) = subst (λ z. (given z).bib < 4294967296) (sym f.0) (omega arith)
given-bib g k r (inr f) = subst (λ z. (given z).bib < 4294967296) (sym f.1) f.3

-- two cards of ours on which the same stands as of t have the same standing records
pub standing-same : (h : Head) (c : List ℕ) (g : ℕ → ℕ → Option Entry) (begin s : ℕ) → Keeps h c g begin s
    → (h' : Head) (d : List ℕ) (g' : ℕ → ℕ → Option Entry) (begin' s' : ℕ) → Keeps h' d g' begin' s'
    → (t : ℕ) → begin ≤ t → begin' ≤ t → ((x : ℕ) → 0 < x → x < 4294967296 → g t x ≡ g' t x) → standing_at c t ≡ standing_at d t
unfolding standing_at
standing-same h c g begin s ke h' d g' begin' s' ka t le le' same =
    rolled-same c d t
    (λ k lt.
    let a = keeps-next h c g begin s ke k t le lt in
    let b = keeps-next h' d g' begin' s' ka k t le' lt in
    let r : a.0 ≡ b.0 = found-one (g' t) k 4294967296 a.0 b.0 (found-ext (g t) (g' t) k 0 4294967296 a.0 (λ x kx lx. same x (omega arith) lx) a.2) b.2 in
    (a.1 ∙ ap given r ∙ sym b.1, subst (λ (z : Answer). z.bib < 4294967296) (sym a.1) (given-bib (g t) k a.0 a.2)))
    4294967296 0 (omega arith)
