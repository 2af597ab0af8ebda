-- Two cards begun alike whose accepted entries agree up to t answer alike as of t.
use Rattle.std.specs.Prelude.{Option, Some}
use Prim.Native.Nat.{ℕ, ◌≤◌, ◌<◌}
use mathlib.Core.Path.{refl, sym, ap, subst, ◌∙◌, ◌≡◌}
use mathlib.Core.Logic.{⊎_elim}
use mathlib.Core.List.{List, [], ◌∷◌, ◌++◌}
use lib.ListN.{length}
use native.Mathlib.Omega.{arith}
use Rattle.rules.specs.declared.Entry.{Entry}
use Rattle.rules.specs.declared.Head.{Head}
use Rattle.rules.specs.Layout.{head_of, beginning}
use Rattle.rules.specs.Walk.{Visit, stands_on, data_of, walk, left}
use Rattle.rules.specs.Next.{next}
use Rattle.rules.specs.Look.{look_on, look_in, look}
use Rattle.rules.specs.Write.{accept}
use Rattle.laws.proofs.Lists.{All, all_map}
use Rattle.laws.proofs.Tools.{le-or-lt}
use Rattle.laws.proofs.Left.{left-past, left-keep}
use Rattle.tree.proofs.AsOf.{Alike}
use Rattle.tree.proofs.Seasoned.{said}
use Rattle.tree.proofs.Keeps.{Keeps, keeps-passed, keeps-wrote, keeps-step, more}
use Rattle.tree.proofs.Tree.{some_inj}
use Rattle.tree.proofs.Walks.{walk-late, alike-length, alike-data, alike_refl, alike-trans}
use Rattle.tree.proofs.Climb.{upd}
use Rattle.promises.specs.Promises.{CardsAnswerAlike}
use Rattle.tree.proofs.Found.{found-ext, found-one}
use Rattle.laws.proofs.Tells.{given}
use Rattle.promises.specs.Calls.{Act, AllSized, card_after, accepted}
use Rattle.promises.specs.Reading.{up_to, stands_as_of}
use Rattle.promises.proofs.Begun.{Starts, alike-starts}
use Rattle.promises.proofs.Reading.{up-to-left, stands-agree}
use Rattle.promises.proofs.Since.{Since, since-keeps, calls-since}
use Rattle.promises.proofs.Truth.{calls-next, look-before, next-before}

accept-inj : (c d : List ℕ) → accept c ≡ accept d → c ≡ d
accept-inj c d e = cc

-- the same entries lead to the same card
same-card : (c : List ℕ) (es : List Entry) (d b : List ℕ) → Since c es d → Since c es b → d ≡ b
same-card c [] d b p q = sym p ∙ q
same-card c (e ∷ es) d b p q =
    let new : q.0 ≡ p.0 = accept-inj q.0 p.0 (sym q.2 ∙ p.2) in
    same-card p.0 es d b p.3 (subst (λ z. Since z es b) new q.3)

-- every walk as of t meets the same buckets, with the same entries up to t
abbrev SameWalks : Head → ℕ → List ℕ → List ℕ → Type 0
SameWalks h t c d = (x : ℕ) → x < 4294967296 → (p : List Visit) × (q : List Visit) × (walk h c t x ≡ Some p) × (walk h d t x ≡ Some q) × Alike t p q

same_walks : (h : Head) (c : List ℕ) (g : ℕ → ℕ → Option Entry) (begin s : ℕ) → Keeps h c g begin s → (t : ℕ) → begin ≤ t → (d : List ℕ) → c ≡ d
    → SameWalks h t c d
same_walks h c g begin s ke t le d q =
    subst (SameWalks h t c) q (λ x lt. let a = ke.answers t x le lt in (a.0, a.0, a.1, a.1, alike_refl t a.0))

-- entries stamped after t change no such walk
late-walks : (h : Head) (c : List ℕ) (g : ℕ → ℕ → Option Entry) (begin s : ℕ) → Keeps h c g begin s → (t : ℕ) → begin ≤ t
    → (es : List Entry) (d : List ℕ) → Since c es d → All (λ e. t < e.stamp) es → SameWalks h t c d
late-walks h c g begin s ke t le [] d q a x lt = same_walks h c g begin s ke t le d q x lt
late-walks h c g begin s ke t le (e ∷ es) d q a x lt =
    let new = q.0 in
    let w = keeps-wrote h c g begin s ke e q.1 new q.2 in
    let rest = late-walks h new (more g e) begin e.stamp (keeps-step h c g begin s ke e q.1 new q.2) t le es d q.3 a.1 x lt in
    let o = ke.answers t x le lt in
    let one = walk-late h c new (upd ke.now e) e.stamp ke.state.logs ke.state.log_is w t x a.0 o.0 o.1 in
    let meet : one.0 ≡ rest.0 = some_inj (sym one.1 ∙ rest.2) in
    (o.0, rest.1, o.1, rest.3, alike-trans t o.0 rest.0 rest.1 (subst (Alike t o.0) meet one.2) rest.4)

-- stamps rise
since-rises : (h : Head) (c : List ℕ) (g : ℕ → ℕ → Option Entry) (begin s : ℕ) → Keeps h c g begin s → (es : List Entry) (d : List ℕ) → Since c es d
    → All (λ e. s < e.stamp) es
since-rises h c g begin s ke [] d q = tt
since-rises h c g begin s ke (e ∷ es) d q =
    let up = (keeps-passed h c g begin s ke e q.1 q.0 q.2).1 in
    let rest = since-rises h q.0 (more g e) begin e.stamp (keeps-step h c g begin s ke e q.1 q.0 q.2) es d q.3 in
    (up, all_map (λ d. e.stamp < d.stamp) (λ d. s < d.stamp) (λ d l. omega arith) es rest)

-- so the card of the entries up to t walks as of t as the last card does
replay : (h : Head) (c : List ℕ) (g : ℕ → ℕ → Option Entry) (begin s : ℕ) → Keeps h c g begin s → (t : ℕ) → begin ≤ t
    → (es : List Entry) (d : List ℕ) → Since c es d → (then : List ℕ) × Since c (left t es) then × SameWalks h t then d
replay h c g begin s ke t le [] d q = (c, subst (λ z. Since c z c) (sym (left-past t [] tt)) refl, same_walks h c g begin s ke t le d q)
replay h c g begin s ke t le (e ∷ es) d q =
    let new = q.0 in
    let ke1 = keeps-step h c g begin s ke e q.1 new q.2 in
    ⊎_elim
    (λ (up : e.stamp ≤ t).
    let r = replay h new (more g e) begin e.stamp ke1 t le es d q.3 in
    (r.0, subst (λ z. Since c z r.0) (sym (left-keep t e es up)) (new, q.1, q.2, r.1), r.2))
    (λ (down : t < e.stamp).
    let past : All (λ x. t < x.stamp) (e ∷ es)
    = (down, all_map (λ x. e.stamp < x.stamp) (λ x. t < x.stamp) (λ x l. omega arith) es (since-rises h new (more g e) begin e.stamp ke1 es d q.3)) in
    (c, subst (λ z. Since c z c) (sym (left-past t (e ∷ es) past)) refl, late-walks h c g begin s ke t le (e ∷ es) d q past))
    (le-or-lt e.stamp t)

look-alike : (h : Head) (c d : List ℕ) → head_of c ≡ Some h → head_of d ≡ Some h → beginning c ≡ beginning d → (t x : ℕ) (p q : List Visit) → walk h c t x ≡ Some p
    → walk h d t x ≡ Some q
    → length p ≡ length q → left t (data_of p) ≡ left t (data_of q) → look c x t ≡ look d x t
unfolding look look_in look_on stands_on
look-alike h c d hc hd begins t x p q wp wq l e = rw (hc, hd, begins, wp, wq, l, e)

-- one beginning, two histories that agree up to t
looks-alike : (h : Head) (c : List ℕ) (g : ℕ → ℕ → Option Entry) (begin s : ℕ) → Keeps h c g begin s → (t : ℕ) → begin ≤ t
    → (es fs : List Entry) (d b : List ℕ) → Since c es d → Since c fs b → left t es ≡ left t fs → (x : ℕ) → x < 4294967296 → look d x t ≡ look b x t
looks-alike h c g begin s ke t le es fs d b p q agree x lt =
    let one = replay h c g begin s ke t le es d p in
    let two = replay h c g begin s ke t le fs b q in
    let same : one.0 ≡ two.0 = same-card c (left t fs) one.0 two.0 (subst (λ z. Since c z one.0) agree one.1) two.1 in
    let u = one.2 x lt in
    let v = two.2 x lt in
    let meet : u.0 ≡ v.0 = some_inj (sym u.2 ∙ ap (λ z. walk h z t x) same ∙ v.2) in
    let kd = (since-keeps h c g begin s ke es d p).0 in
    let kb = (since-keeps h c g begin s ke fs b q).0 in
    look-alike h d b kd.state.head kb.state.head (kd.begins ∙ sym kb.begins) t x u.1 v.1 u.3 v.3
    (sym (alike-length t u.0 u.1 u.4) ∙ ap length meet ∙ alike-length t v.0 v.1 v.4)
    (sym (alike-data t u.0 u.1 u.4) ∙ ap (λ z. left t (data_of z)) meet ∙ alike-data t v.0 v.1 v.4)

-- the same of nexts, by the plain reading
nexts-alike : (h : Head) (begin : ℕ) (rs : List Entry) (card : List ℕ) → Starts h begin rs card → (calls others : List Act) → AllSized calls → AllSized others
    → (t : ℕ) → begin ≤ t → up_to t (accepted card calls) ≡ up_to t (accepted card others) → (k : ℕ) → k < 4294967296
    → next (card_after card calls) k t ≡ next (card_after card others) k t
nexts-alike h begin rs card st calls others s z t le agree k lt =
    let one = calls-next h begin rs card st calls s k t lt le in
    let two = calls-next h begin rs card st others z k t lt le in
    let es = accepted card calls in
    let fs = accepted card others in
    let here : ℕ → Option Entry = λ x. stands_as_of t x (rs ++ es) in
    let there : ℕ → Option Entry = λ x. stands_as_of t x (rs ++ fs) in
    let same = found-one there k 4294967296 one.0 two.0 (found-ext here there k 0 4294967296 one.0 (λ x lo hi. stands-agree t rs es fs agree x) one.2) two.2 in
    one.1 ∙ ap given same ∙ sym two.1

-- one card, two lists of calls
starts-alike : (h : Head) (begin : ℕ) (rs : List Entry) (card : List ℕ) → Starts h begin rs card → (calls others : List Act) → AllSized calls → AllSized others
    → (t : ℕ) → up_to t (accepted card calls) ≡ up_to t (accepted card others) → (bib : ℕ) → bib < 4294967296
    → (look (card_after card calls) bib t ≡ look (card_after card others) bib t) × (next (card_after card calls) bib t ≡ next (card_after card others) bib t)
starts-alike h begin rs card st calls others s z t agree bib lt =
    let ke = st.keeps in
    let es = accepted card calls in
    let fs = accepted card others in
    let agrees = sym (up-to-left t es) ∙ agree ∙ up-to-left t fs in
    ⊎_elim
    (λ (le : begin ≤ t). (
      looks-alike h card (λ x. said rs) begin begin ke t le es fs (card_after card calls) (card_after card others)
          (calls-since h card (λ x. said rs) begin begin ke calls s) (calls-since h card (λ x. said rs) begin begin ke others z) agrees bib lt,
      nexts-alike h begin rs card st calls others s z t le agree bib lt,
    ))
    (λ (early : t < begin). (
      look-before h begin rs card st calls s bib t early ∙ sym (look-before h begin rs card st others z bib t early),
      next-before h begin rs card st calls s bib t early ∙ sym (next-before h begin rs card st others z bib t early),
    ))
    (le-or-lt begin t)

-- as of t, the card after these calls and another after those say the same
abbrev SaysAlike : List ℕ → List Act → List ℕ → List Act → ℕ → ℕ → Type 0
SaysAlike card calls other others t bib =
    up_to t (accepted card calls) ≡ up_to t (accepted other others)
    → (look (card_after card calls) bib t ≡ look (card_after other others) bib t) × (next (card_after card calls) bib t ≡ next (card_after other others) bib t)

pub cards-answer-alike : CardsAnswerAlike
cards-answer-alike h card other begun calls others s z t agree bib lt =
    let a = alike-starts h card other begun in
    subst (λ c. SaysAlike card calls c others t bib) (sym a.3) (λ up. starts-alike h a.0 a.1 card a.2 calls others s z t up bib lt) agree
