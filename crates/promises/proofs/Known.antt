-- On a card of ours each sector of the bucket area is blank or holds an index entry, the dummy, a record that the card began with or an accepted
-- entry; and every one of those records and entries stands there.
use mathlib.Core.Path.{◌≡◌, refl, ap, sym, ◌∙◌, subst}
use mathlib.Core.Logic.{◌⊎◌, inl, inr, ⊎_elim}
use mathlib.Core.Bool.{Bool, true, false}
use Rattle.std.specs.Prelude.{Option, None, Some}
use Prim.Native.Nat.{ℕ, zero, suc, ◌+◌, ◌*◌, ◌≤◌, ◌<◌}
use native.Mathlib.Omega.{arith}
use mathlib.Core.List.{List, [], ◌∷◌, ◌++◌, append_assoc, append-nil}
use lib.ListN.{length}
use lib.Dec.{eqb}
use borrow.Author.Tests.{eqb-true, eq-eqb, ne_eqb}
use Rattle.rules.specs.declared.Entry.{Entry}
use Rattle.rules.specs.declared.Head.{Head}
use Rattle.rules.specs.declared.Sector.TheVariants.{Blank, Held}
use Rattle.rules.specs.Bucket.{bucket, run}
use Rattle.rules.specs.Format.{dummy, format, formatted, meant}
use Rattle.rules.specs.Layout.{base, size_of, head_bytes}
use Rattle.rules.specs.Plain.{zeros, only, keep_if}
use Rattle.rules.specs.Rewrite.{into, pair}
use Rattle.rules.specs.Sector.{sector_at, put, encode, decode, is_index, is_data, index_entry, root_entry}
use Rattle.rules.specs.Season.{season, standing_at}
use Rattle.rules.specs.Write.{accept, plan, latest}
use Rattle.laws.proofs.Areas.{Stands}
use Rattle.laws.proofs.Buckets.{bucket-in, bucket-raw, bucket-within}
use Rattle.laws.proofs.Bytes.{Bytes, run-good}
use Rattle.laws.proofs.ByStamp.{Up, up-snoc}
use Rattle.laws.proofs.Codec.{decode-encode, held-zeros, length-encode}
use Rattle.laws.proofs.Entries.{Fine, Asks, asks-fine, asks-kind}
use Rattle.laws.proofs.Halves.{Sorted, only_none}
use Rattle.laws.proofs.Heads.{head-facts, head-length, limits-hold, log-fits}
use Rattle.laws.proofs.Lists.{All, all_append, all_both, all_map, only-all, only-append}
use Rattle.laws.proofs.Mems.{Mem, all-mem, mem-all, mem-left, mem-right, mem-parts}
use Rattle.laws.proofs.Paths.{along-map, walk-reads}
use Rattle.laws.proofs.Plans.{plan-inv, plan-walk}
use Rattle.laws.proofs.Puts.{Chain, Changed, plan-chain, puts-sector}
use Rattle.laws.proofs.Run.{onto-inv}
use Rattle.laws.proofs.Sectors.{length-put, sector-put-other}
use Rattle.laws.proofs.Tells.{Rec, stands-all}
use Rattle.laws.proofs.Tools.{bool_cases, eq-or-ne, false-true, none-some, true-false}
use Rattle.laws.proofs.Writes.{format-chain}
use Rattle.laws.proofs.Zeros.{zero-sector}
use Rattle.tree.proofs.Begin.{format-inv}
use Rattle.tree.proofs.Ends.{ends-here}
use Rattle.tree.proofs.Keeps.{Keeps, more, keeps-passed, keeps-wrote, keeps-step}
use Rattle.tree.proofs.Outcome.{Unmarked}
use Rattle.tree.proofs.Seasoned.{said, season-chain, season-passed, to-passed}
use Rattle.tree.proofs.Standing.{said-first, said-later, standing-records}
use Rattle.promises.specs.Calls.{Formatted, Begun, Act, AllSized, card_after, accepted}
use Rattle.promises.proofs.Numbers.{formatted-plan}
use Rattle.promises.proofs.Begun.{begun-starts, formatted-head, season-starts, seasoned-of}
use Rattle.promises.proofs.Since.{Since, calls-since}

-- d can be read in the bucket area
abbrev pub There : Head → List ℕ → Entry → Type 0
There h card = Stands h.n card (1 + h.n) (1 + h.n + h.n * h.m)

-- what an entry in the bucket area is, es being those accepted
abbrev pub Is : List Entry → Entry → Type 0
Is es d = (is_index d ≡ true) ⊎ ((is_data d ≡ true) × ((d ≡ dummy) ⊎ Mem d es))

abbrev pub OnlyKnown : Head → List Entry → List ℕ → Type 0
OnlyKnown h es card = (j : ℕ) → 1 + h.n ≤ j → (zeros (sector_at card j) ≡ true) ⊎ ((d : Entry) × (decode h.n (sector_at card j) ≡ Held d) × Is es d)

-- the entries of one bib
abbrev pub for_bib : ℕ → Entry → Bool
for_bib bib e = eqb e.key bib

-- these entries and no others are on the card; s is not below their stamps, and those of one bib rise
pub record Known (h : Head) (es : List Entry) (s : ℕ) (card : List ℕ) : Type 0 where
  pub known : OnlyKnown h es card
  pub there : All (There h card) es
  pub up : (bib : ℕ) → Up (only (for_bib bib) es)
  pub upto : All (λ d. d.stamp ≤ s) es
  pub posts : All (λ d. is_data d ≡ true) es

blank-held : (n : ℕ) (s : List ℕ) (d : Entry) → zeros s ≡ true → decode n s ≡ Held d → ⊥
blank-held n s d z q = true-false (sym z ∙ held-zeros n s d q)

pub known-held : (h : Head) (es : List Entry) (c : List ℕ) → OnlyKnown h es c → (j : ℕ) → 1 + h.n ≤ j → (d : Entry) → decode h.n (sector_at c j) ≡ Held d
    → Is es d
known-held h es c ok j lo d q =
    ⊎_elim
    (λ (z : zeros (sector_at c j) ≡ true). absurd (blank-held h.n (sector_at c j) d z q))
    (λ (x : (e : Entry) × (decode h.n (sector_at c j) ≡ Held e) × Is es e).
    let same : x.0 ≡ d = held_one x.0 d (sym x.1 ∙ q) in subst (Is es) same x.2)
    (ok j lo)
  where
    held_one : (d e : Entry) → Held d ≡ Held e → d ≡ e
    held_one d e q = cc

run-stands : (n : ℕ) (card : List ℕ) (i c : ℕ) (es : List Entry) → run n card i c ≡ Some es → All (Stands n card i (i + c)) es
unfolding run
run-stands n card i zero [] q = tt
run-stands n card i zero (e ∷ es) q = absurd (none-some (let z : None ≡ Some e = cc in z))
run-stands n card i (suc c) es q =
    ⊎_elim
    (λ (v : (decode n (sector_at card i) ≡ Blank) × (es ≡ []) × (run n card (suc i) c ≡ Some [])). subst (All (Stands n card i (i + suc c))) (sym v.1) tt)
    (λ (v : (x : Entry) × (xs : List Entry) × (decode n (sector_at card i) ≡ Held x) × (es ≡ x ∷ xs) × (run n card (suc i) c ≡ Some xs)).
    subst (All (Stands n card i (i + suc c))) (sym v.3) (
      (i, omega arith, omega arith, v.2),
      all_map (Stands n card (suc i) (suc i + c)) (Stands n card i (i + suc c)) (λ d z. let a = z.1 in let b = z.2 in (z.0, omega arith, omega arith, z.3)) v.1
          (run-stands n card (suc i) c v.1 v.4),
    ))
    (onto-inv (decode n (sector_at card i)) (run n card (suc i) c) es q)

-- the entries of a bucket stand in the bucket area
bucket-there : (h : Head) (c : List ℕ) → size_of h ≡ length c → (b : ℕ) (cs : List Entry) → bucket h c b ≡ Some cs → All (There h c) cs
unfolding base
bucket-there h c size b cs q =
    let r = bucket-raw h c b cs q in
    let bi = bucket-in h.m h.n b r.0 (bucket-within h c b cs size q) in
    all_map (Stands h.n c (base h b) (base h b + h.m)) (There h c) (λ d z. let a = z.1 in let e = z.2 in (z.0, omega arith, omega arith, z.3)) cs
    (run-stands h.n c (base h b) h.m cs r.1)

bucket-known : (h : Head) (es : List Entry) (c : List ℕ) → size_of h ≡ length c → OnlyKnown h es c → (b : ℕ) (cs : List Entry) → bucket h c b ≡ Some cs → All (Is es) cs
bucket-known h es c size ok b cs q = all_map (There h c) (Is es) (λ d z. known-held h es c ok z.0 z.1 d z.3) cs (bucket-there h c size b cs q)

is-more : (es fs : List Entry) (d : Entry) → Is es d → Is (es ++ fs) d
is-more es fs d k = ⊎_elim (λ i. inl i) (λ m. inr (m.0, ⊎_elim (λ z. inl z) (λ z. inr (mem-left d es fs z)) m.1)) k

pair_is : (es : List Entry) (s b : ℕ) (ks : List Entry) → Is es (pair s b ks)
unfolding pair is_index
pair_is es s b ks = inl refl

-- entries put into the bucket area that are known keep it so
chain-known : (h : Head) (es fs : List Entry) (c new : List ℕ) → size_of h ≡ length c → Chain h (Is (es ++ fs)) c new → OnlyKnown h es c → OnlyKnown h (es ++ fs) new
chain-known h es fs c new size ch ok j lo =
    ⊎_elim
    (λ (s : sector_at new j ≡ sector_at c j). ⊎_elim
    (λ (z : zeros (sector_at c j) ≡ true). inl (ap zeros s ∙ z))
    (λ (x : (d : Entry) × (decode h.n (sector_at c j) ≡ Held d) × Is es d). inr (x.0, ap (decode h.n) s ∙ x.1, is-more es fs x.0 x.2))
    (ok j lo))
    (λ (x : Changed h (Is (es ++ fs)) c new j).
    let f = x.area lo in
    inr (x.entry, ap (decode h.n) x.here ∙ decode-encode h.n x.entry f.0.1, f.1))
    (puts-sector h (Is (es ++ fs)) c ch.0 new size ch.1 j)

-- what is there stays there
chain-there : (h : Head) (Q : Entry → Type 0) (c new : List ℕ) → size_of h ≡ length c → Chain h Q c new → (d : Entry) → There h c d → There h new d
chain-there h Q c new size ch d t =
    ⊎_elim
    (λ (s : sector_at new t.0 ≡ sector_at c t.0). (t.0, t.1, t.2, ap (decode h.n) s ∙ t.3))
    (λ (x : Changed h Q c new t.0). absurd (blank-held h.n (sector_at c t.0) d x.was t.3))
    (puts-sector h Q c ch.0 new size ch.1 t.0)

-- a post or strike with the stamp, in a list that has one
find-mark : (s : ℕ) (cs : List Entry) → (Unmarked s cs → ⊥) → (d : Entry) × Mem d cs × (is_data d ≡ true) × (d.stamp ≡ s)
find-mark s [] f = absurd (f tt)
find-mark s (e ∷ cs) f =
    let later : (is_data e ≡ true → e.stamp ≡ s → ⊥) → (d : Entry) × Mem d (e ∷ cs) × (is_data d ≡ true) × (d.stamp ≡ s)
    = λ g. (let x = find-mark s cs (λ u. f (g, u)) in (x.0, inr x.1, x.2, x.3)) in
    ⊎_elim
    (λ (d : is_data e ≡ true). ⊎_elim (λ (q : e.stamp ≡ s). (e, inl refl, d, q)) (λ (ne : e.stamp ≡ s → ⊥). later (λ i. ne)) (eq-or-ne e.stamp s))
    (λ (d : is_data e ≡ false). later (λ i. absurd (true-false (sym i ∙ d))))
    (bool_cases (is_data e))

pub index-data : (d : Entry) → is_index d ≡ true → is_data d ≡ true → ⊥
unfolding is_index is_data
index-data d i q = let k = eqb-true d.kind 3 i in false-true (rw k at q)

-- one entry more, stamped later
up_more : (es : List Entry) (e : Entry) (bib : ℕ) → Up (only (for_bib bib) es) → All (λ d. d.stamp < e.stamp) es → Up (only (for_bib bib) (es ++ (e ∷ [])))
unfolding only
up_more es e bib u a =
    subst Up (sym (only-append (for_bib bib) es (e ∷ [])))
    (elim (for_bib bib e) as (λ b. Up (only (for_bib bib) es ++ keep_if b e [])) [
      | true ↦ up-snoc (only (for_bib bib) es) e u (only-all (λ d. d.stamp < e.stamp) (for_bib bib) es a)
      | false ↦ subst Up (sym (append-nil (only (for_bib bib) es))) u
    ])

-- one accepted entry more
module _ (h : Head) (c : List ℕ) (g : ℕ → ℕ → Option Entry) (begin s : ℕ) (ke : Keeps h c g begin s) (es : List Entry) (kn : Known h es s c)
    (e : Entry) (asks : Asks e) (new : List ℕ) (q : plan c e ≡ accept new) where
  abbrev all : List Entry
  all = es ++ (e ∷ [])

  size : size_of h ≡ length c
  size = (head-facts c h ke.state.head).1

  -- what the call puts is known
  step-chain : Chain h (Is all) c new
  step-chain =
      let hf = head-facts c h ke.state.head in
      let pw = plan-walk h c e new ke.state.head q in
      let inv = plan-inv h c e new pw.0 ke.state.head pw.1 q in
      let above = inv.1 in
      let fe = asks-fine h.n e asks inv.0 (omega arith) inv.3 in
      plan-chain h hf.0.n4096 (Is all) e (pair_is all e.stamp) c size (fe, inr ((asks-kind e asks).1, inr (mem-right e es (e ∷ []) (inl refl)))) pw.0
      (along-map (λ v. bucket h c v.number ≡ Some v.entries) (λ v. (1 ≤ v.number) × (v.number ≤ h.n) × All (λ d. Fine h.n d × Is all d) v.entries)
      (λ v z. let br = bucket-raw h c v.number v.entries z in (
        br.0,
        bucket-within h c v.number v.entries size z,
        all_both (Fine h.n) (Is all) v.entries (run-good h.n c ke.state.bytes (base h v.number) h.m v.entries br.1)
            (all_map (Is es) (Is all) (is-more es (e ∷ [])) v.entries (bucket-known h es c size kn.known v.number v.entries z)),
      ))
      pw.0 (walk-reads h c latest e.key pw.0 pw.1))
      new inv.2

  known-now : OnlyKnown h all new
  known-now = chain-known h es (e ∷ []) c new size step-chain kn.known

  above : s < e.stamp
  above = (keeps-passed h c g begin s ke e asks new q).1

  -- the entry with the call's stamp that can be read is the call's own
  new-there : There h new e
  new-there =
      let w = keeps-wrote h c g begin s ke e asks new q in
      let m = w.mark in
      let d = find-mark e.stamp m.1 m.3 in
      let td : There h new d.0 = mem-all (There h new) m.1 (bucket-there h new (head-facts new h w.state.head).1 m.0 m.1 m.2) d.0 d.1 in
      let lt = above in
      let same : d.0 ≡ e = ⊎_elim
      (λ (i : is_index d.0 ≡ true). absurd (index-data d.0 i d.2))
      (λ (z : (is_data d.0 ≡ true) × ((d.0 ≡ dummy) ⊎ Mem d.0 all)).
      ⊎_elim
      (λ (y : d.0 ≡ dummy). absurd (let s0 : d.0.stamp ≡ 0 = ap (λ x. x.stamp) y in let s1 = d.3 in omega arith))
      (λ (y : Mem d.0 all). ⊎_elim
      (λ (o : Mem d.0 es). absurd (let s1 = d.3 in let u = mem-all (λ x. x.stamp ≤ s) es kn.upto d.0 o in omega arith))
      (⊎_elim (λ (o : d.0 ≡ e). o) (λ (o : ⊥). absurd o))
      (mem-parts d.0 es (e ∷ []) y))
      z.1)
      (known-held h all new known-now td.0 td.1 d.0 td.3) in
      subst (There h new) same td

  pub known_step : Known h all e.stamp new
  known_step =
      let lt = above in
      record {
        known = known-now;
        there = all_append (There h new) es (e ∷ []) (all_map (There h c) (There h new) (chain-there h (Is all) c new size step-chain) es kn.there) (new-there, tt);
        up = λ bib. up_more es e bib (kn.up bib) (all_map (λ d. d.stamp ≤ s) (λ d. d.stamp < e.stamp) (λ d l. omega arith) es kn.upto);
        upto = all_append (λ d. d.stamp ≤ e.stamp) es (e ∷ []) (all_map (λ d. d.stamp ≤ s) (λ d. d.stamp ≤ e.stamp) (λ d l. omega arith) es kn.upto) (omega arith, tt);
        posts = all_append (λ d. is_data d ≡ true) es (e ∷ []) kn.posts ((asks-kind e asks).1, tt);
      }

-- entry after entry
pub since-known : (h : Head) (c : List ℕ) (g : ℕ → ℕ → Option Entry) (begin s : ℕ) → Keeps h c g begin s → (old : List Entry) → Known h old s c
    → (es : List Entry) (d : List ℕ) → Since c es d → (last : ℕ) × Known h (old ++ es) last d
since-known h c g begin s ke old kn [] d q = (s, subst (Known h (old ++ []) s) q (subst (λ z. Known h z s c) (sym (append-nil old)) kn))
since-known h c g begin s ke old kn (e ∷ es) d q =
    let r = since-known h q.0 (more g e) begin e.stamp (keeps-step h c g begin s ke e q.1 q.0 q.2) (old ++ (e ∷ []))
    (known_step h c g begin s ke old kn e q.1 q.0 q.2) es d q.3 in
    (r.0, subst (λ z. Known h z r.0 d) (append_assoc old (e ∷ []) es) r.1)

-- a card just formatted holds the index entry and the dummy
index_is : (es : List Entry) → Is es (index_entry 0 0 2)
unfolding is_index
index_is es = inl refl

dummy-is : (es : List Entry) → Is es dummy
unfolding is_data
dummy-is es = inr (refl, inl refl)

formatted-known : (h : Head) (blank : List ℕ) → length blank ≡ size_of h → zeros blank ≡ true → 2 ≤ h.n → (new : List ℕ) → formatted h blank ≡ new
    → OnlyKnown h [] new
unfolding formatted size_of
formatted-known h blank len z n2 new q =
    let card1 = put blank 0 (head_bytes h 0) in
    let card2 = put card1 1 (encode (root_entry 0 1)) in
    let len1 : length card1 ≡ length blank = length-put blank 0 (head_bytes h 0) (head-length h 0) (omega arith) in
    let len2 : length card2 ≡ length card1 = length-put card1 1 (encode (root_entry 0 1)) (length-encode (root_entry 0 1)) (omega arith) in
    let size2 : size_of h ≡ length card2 = omega arith in
    subst (OnlyKnown h []) q
    (chain-known h [] [] card2 (into h 2 (dummy ∷ []) (into h 1 (index_entry 0 0 2 ∷ []) card2)) size2 (format-chain h (Is []) (index_is []) (dummy-is []) card2 n2 size2)
    (λ j lo. inl (ap zeros (sector-put-other card1 1 j (encode (root_entry 0 1)) (length-encode (root_entry 0 1)) (omega arith) (λ e. omega arith)
    ∙ sector-put-other blank 0 j (head_bytes h 0) (head-length h 0) (omega arith) (λ e. omega arith)) ∙ zero-sector blank j z)))

format-known : (h : Head) (card : List ℕ) → Formatted h card → Known h [] 0 card
unfolding format only
format-known h card f =
    let g = meant f.1 f.2 f.3 f.4 in
    let i = format-inv f.0 g card (formatted-plan h card f) in
    let lim = limits-hold g i.0 in
    subst (λ z. Known z [] 0 card) (formatted-head h card f)
    (record { known = formatted-known g f.0 i.1 i.2 lim.n2 card i.3; there = tt; up = λ bib. tt; upto = tt; posts = tt })

-- a season card holds the dummy, the records it began with and index entries; of one bib there is one record
sorted-up : (bib : ℕ) (rs : List Entry) → Sorted rs → Up (only (for_bib bib) rs)
unfolding only
sorted-up bib [] so = tt
sorted-up bib (e ∷ rs) so =
    ⊎_elim
    (λ (k : e.key ≡ bib).
    let others : only (for_bib bib) rs ≡ [] = only_none (for_bib bib) rs (all_map (λ d. e.key < d.key) (λ d. for_bib bib d ≡ false) (λ d l. ne_eqb d.key bib (λ z. omega arith)) rs so.0) in
    rw (eq-eqb e.key bib k, others) (tt, tt))
    (λ (n : e.key ≡ bib → ⊥). rw (ne_eqb e.key bib n) (sorted-up bib rs so.1))
    (eq-or-ne e.key bib)

rec-data : (t : ℕ) (e : Entry) → Rec t e → is_data e ≡ true
unfolding is_data
rec-data t e r = rw r.1

rec-is : (t : ℕ) (rs : List Entry) (e : Entry) → Rec t e → Mem e rs → Is rs e
rec-is t rs e r m = inr (rec-data t e r, inr m)

-- a record of those begun with is said of its bib
said-mem : (rs : List Entry) → Sorted rs → (e : Entry) → e.kind ≡ 1 → Mem e rs → said rs e.key ≡ Some e
said-mem [] so e k m = absurd m
said-mem (d ∷ rs) so e k (inl q) = subst (λ z. said (z ∷ rs) e.key ≡ Some e) q (said-first e rs k (subst (λ z. All (λ x. z.key < x.key) rs) (sym q) so.0))
said-mem (d ∷ rs) so e k (inr m) =
    let later = mem-all (λ x. d.key < x.key) rs so.0 e m in
    said-later e.key d rs (λ z. omega arith) ∙ said-mem rs so.1 e k m

-- so it can be read
said-there : (h : Head) (c : List ℕ) (rs : List Entry) (t : ℕ) → Keeps h c (λ u. said rs) t t → Sorted rs → (e : Entry) → Rec t e → Mem e rs → There h c e
said-there h c rs t ke so e r m =
    let a = ke.answers t e.key (omega arith) r.0.key in
    let size = (head-facts c h ke.state.head).1 in
    stands-all (There h c) t e.key a.0
    (along-map (λ v. bucket h c v.number ≡ Some v.entries) (λ v. All (There h c) v.entries) (λ v z. bucket-there h c size v.number v.entries z) a.0
    (walk-reads h c t e.key a.0 a.1))
    e (ends-here (said rs) t e.key 0 4294967296 a.0 a.2 ∙ said-mem rs so e r.1 m)

season-known : (source : List ℕ) → Bytes source → (t : ℕ) → t < 4294967296 → (target : List ℕ) (n m td ti : ℕ) (new : List ℕ)
    → season source t target n m td ti ≡ accept new → Known (meant n m td ti) (standing_at source t).records t new
season-known source by t small target n m td ti new q =
    let h = meant n m td ti in
    let rs = (standing_at source t).records in
    let recs = standing-records source by t in
    let st = season-starts source by t small target n m td ti new q in
    let to = (season-passed source t target n m td ti new q).3 in
    let p = to-passed h t target (standing_at source t) new to in
    let card0 = put target 0 (head_bytes h t) in
    let lies = log-fits h target (sym p.long) in
    let len0 : length card0 ≡ length target = length-put target 0 (head_bytes h t) (head-length h t) (omega arith) in
    let size0 : size_of h ≡ length card0 = sym p.long ∙ sym len0 in
    let all = all-mem (Is rs) rs (λ e m. rec-is t rs e (mem-all (Rec t) rs recs.0 e m) m) in
    let ch = season-chain h t target (standing_at source t) new small recs to (Is rs) (pair_is rs t) (dummy-is rs) all in
    record {
      known = chain-known h [] rs card0 new size0 ch
          (λ j lo. inl (ap zeros (sector-put-other target 0 j (head_bytes h t) (head-length h t) (omega arith) (λ e. omega arith)) ∙ zero-sector target j p.blank));
      there = all-mem (There h new) rs (λ e m. said-there h new rs t st.keeps recs.1 e (mem-all (Rec t) rs recs.0 e m) m);
      up = λ bib. sorted-up bib rs recs.1;
      upto = st.past;
      posts = all_map (Rec t) (λ d. is_data d ≡ true) (rec-data t) rs recs.0;
    }

pub begun-known : (h : Head) (begin : ℕ) (rs : List Entry) (card : List ℕ) → Begun h begin rs card → Known h rs begin card
begun-known h begin rs card (inl (f, b, r)) = subst (λ z. Known h rs z card) (sym b) (subst (λ z. Known h z 0 card) (sym r) (format-known h card f))
begun-known h begin rs card (inr s) =
    seasoned-of (λ z es. Known z es begin card) h begin rs card (λ source by target n m td ti small q. season-known source by begin small target n m td ti card q) s

-- the records begun with, the accepted entries and no others are on the card after the calls
pub calls-known : (h : Head) (begin : ℕ) (rs : List Entry) (card : List ℕ) → Begun h begin rs card → (calls : List Act) → AllSized calls
    → (last : ℕ) × Known h (rs ++ accepted card calls) last (card_after card calls)
calls-known h begin rs card b calls s =
    let ke = (begun-starts h begin rs card b).keeps in
    since-known h card (λ t. said rs) begin begin ke rs (begun-known h begin rs card b) (accepted card calls) (card_after card calls)
    (calls-since h card (λ t. said rs) begin begin ke calls s)
