-- History on a card of ours is the record it began with and the accepted list; and no two lists of accepted entries leave the same card.
use mathlib.Core.Path.{◌≡◌, refl, ap, sym, ◌∙◌, subst}
use mathlib.Core.Logic.{◌⊎◌, inl, inr, ⊎_elim}
use mathlib.Core.Bool.{Bool, true, false}
use Rattle.std.specs.Prelude.{Option, None, Some}
use Prim.Native.Nat.{ℕ, zero, suc, ◌+◌, ◌*◌, ◌/◌, ◌≤◌, ◌<◌}
use native.Mathlib.Omega.{arith}
use mathlib.Core.List.{List, [], ◌∷◌, ◌++◌}
use lib.ListN.{length}
use lib.Dec.{leb, ltb, eqb}
use borrow.Author.Tests.{eqb-true, ne_eqb, le-leb, lt-leb, le-ltb}
use Rattle.rules.specs.declared.Entry.{Entry}
use Rattle.rules.specs.declared.Head.{Head}
use Rattle.rules.specs.declared.Sector.{Sector}
use Rattle.rules.specs.declared.Sector.TheVariants.{Blank, Held}
use Rattle.rules.specs.Format.{dummy}
use Rattle.rules.specs.Records.{roll}
use Rattle.rules.specs.History.{join, entries, area, by_stamp, says_of, fitting, history_on, history_in, history}
use Rattle.rules.specs.Layout.{head_of, beginning}
use Rattle.rules.specs.Plain.{if, ◌&◌, only, keep_if, zeros}
use Rattle.rules.specs.Sector.{sector_at, decode, is_index, is_data, is_root}
use Rattle.laws.proofs.Areas.{entries-stand, entries-mem}
use Rattle.laws.proofs.ByStamp.{Up, up-only, up_one, up_same, stamp-all, stamp-twin, stamp-up}
use Rattle.laws.proofs.Lists.{All, all_map}
use Rattle.laws.proofs.Mems.{Mem, mem-all, all-mem, mem-only, only-mem}
use Rattle.laws.proofs.Codec.{zeros-blank}
use Rattle.laws.proofs.Entries.{asks-kind}
use Rattle.laws.proofs.Halves.{only-every}
use Rattle.laws.proofs.Tools.{and-true, true-and, bool_cases, eq-or-ne, le-or-lt, false-true, true-false}
use Rattle.tree.proofs.Keeps.{Keeps, more, keeps-passed, keeps-step}
use Rattle.tree.proofs.Tree.{some_inj}
use Rattle.tree.proofs.Seasoned.{said}
use Rattle.promises.specs.Calls.{Formatted, Act, AllSized, card_after, accepted}
use Rattle.promises.specs.Promises.{KnownSector, OnlyAcceptedStand, AcceptedStand, HistoryTellsTheAccepted, OneSequence, HistoryIsSettled}
use Rattle.promises.specs.Reading.{up_to, entries_for, said_of}
use Rattle.promises.proofs.Begun.{begun-starts, formatted-starts}
use Rattle.promises.proofs.Scrolled.{Bare, rolls-settled}
use Rattle.promises.proofs.Since.{Since, calls-since}
use Rattle.promises.proofs.Truth.{calls-keep}
use Rattle.promises.proofs.Known.{There, Is, OnlyKnown, Known, for_bib, known-held, index-data, calls-known}

-- cards of ours are without damage
not_root : (d : Entry) → (is_index d ≡ true) ⊎ (is_data d ≡ true) → is_root d ≡ false
unfolding is_index is_data is_root
not_root d (inl i) = let k = eqb-true d.kind 3 i in rw k
not_root d (inr i) =
    ⊎_elim
    (λ (q : d.kind ≡ 4). absurd (false-true (rw q at i)))
    (λ (n : d.kind ≡ 4 → ⊥). ne_eqb d.kind 4 n)
    (eq-or-ne d.kind 4)

known-entries : (h : Head) (es : List Entry) (c : List ℕ) → OnlyKnown h es c → (i k : ℕ) → 1 + h.n ≤ i → (xs : List Entry) × (entries h.n c i k ≡ Some xs)
unfolding entries join
known-entries h es c f i zero lo = ([], refl)
known-entries h es c f i (suc k) lo =
    let ih = known-entries h es c f (suc i) k (omega arith) in
    ⊎_elim
    (λ (z : zeros (sector_at c i) ≡ true). (ih.0, rw (zeros-blank h.n (sector_at c i) z, ih.1)))
    (λ (x : (d : Entry) × (decode h.n (sector_at c i) ≡ Held d) × Is es d).
    let nr = not_root x.0 (⊎_elim (λ i. inl i) (λ m. inr m.0) x.2) in
    (x.0 ∷ ih.0, rw (x.1, ih.1, nr)))
    (f i lo)

-- what passes a test that only posts and strikes pass, and not the dummy, is what was accepted
pub known-said : (q : Entry → Bool) → q dummy ≡ false → ((d : Entry) → q d ≡ true → is_data d ≡ true) → (h : Head) (es : List Entry) (s : ℕ) (c : List ℕ)
    → Known h es s c → Up (only q es) → (xs : List Entry) × (area h c ≡ Some xs) × (by_stamp (only q xs) ≡ only q es)
unfolding area
known-said q qd qi h es s c kn up =
    let a = known-entries h es c kn.known (1 + h.n) (h.n * h.m) (omega arith) in
    let xs = a.0 in
    let own : (d : Entry) → Mem d (by_stamp (only q xs)) → Mem d es × (q d ≡ true) = λ d m.
    (let o = only-mem q d xs (mem-all (λ x. Mem x (only q xs)) (by_stamp (only q xs)) (stamp-all (λ x. Mem x (only q xs)) (only q xs) (all-mem (λ x. Mem x (only q xs)) (only q xs) (λ x i. i))) d m) in
    let st = mem-all (There h c) xs (entries-stand h.n c (1 + h.n) (h.n * h.m) xs a.1) d o.0 in (
      ⊎_elim
          (λ (i : is_index d ≡ true). absurd (index-data d i (qi d o.1)))
          (λ (z : (is_data d ≡ true) × ((d ≡ dummy) ⊎ Mem d es)). ⊎_elim (λ (y : d ≡ dummy). absurd (true-false (sym o.1 ∙ ap q y ∙ qd))) (λ (y : Mem d es). y) z.1)
          (known-held h es c kn.known st.0 st.1 d st.3),
      o.1,
    )) in (
      xs,
      a.1,
      up_same (by_stamp (only q xs)) (only q es) (stamp-up (only q xs)) up
          (λ d m. let o = own d m in mem-only q d es o.0 o.1)
          (λ d m.
          let o = only-mem q d es m in
          let g = entries-mem h.n c (1 + h.n) (h.n * h.m) xs a.1 d (mem-all (There h c) es kn.there d o.0) in
          let t = stamp-twin (only q xs) d (mem-only q d xs g o.1) in
          let o2 = own t.0 t.1 in
          subst (λ x. Mem x (by_stamp (only q xs))) (up_one (only q es) up t.0 d (mem-only q t.0 es o2.0 o2.1) m t.2) t.1),
    )

says-dummy : (bib t : ℕ) → 1 ≤ bib → says_of bib t dummy ≡ false
unfolding says_of is_data
says-dummy bib t lo = rw (ne_eqb 0 bib (λ z. omega arith))

says-data : (bib t : ℕ) (d : Entry) → says_of bib t d ≡ true → is_data d ≡ true
unfolding says_of
says-data bib t d q = (and-true (is_data d) (eqb d.key bib & leb d.stamp t) q).0

says-bib : (bib t : ℕ) (d : Entry) → says_of bib t d ≡ true → for_bib bib d ≡ true
unfolding says_of
says-bib bib t d q = (and-true (eqb d.key bib) (leb d.stamp t) (and-true (is_data d) (eqb d.key bib & leb d.stamp t) q).1).0

-- a narrower test after a wider one
only-within : (q p : Entry → Bool) → ((e : Entry) → q e ≡ true → p e ≡ true) → (es : List Entry) → only q (only p es) ≡ only q es
unfolding only
only-within q p f [] = refl
only-within q p f (e ∷ es) =
    let ih = only-within q p f es in
    ⊎_elim
    (λ (a : p e ≡ true). rw (a, ih))
    (λ (a : p e ≡ false). ⊎_elim (λ (b : q e ≡ true). absurd (true-false (sym (f e b) ∙ a))) (λ (b : q e ≡ false). rw (a, b) ih) (bool_cases (q e)))
    (bool_cases (p e))

-- the plain words and the rule's say the same
says-said : (bib t : ℕ) (es : List Entry) → All (λ e. is_data e ≡ true) es → only (says_of bib t) es ≡ said_of bib t es
unfolding only says_of said_of up_to entries_for
says-said bib t [] a = refl
says-said bib t (e ∷ es) a =
    let ih : only (says_of bib t) es ≡ entries_for bib (up_to t es) = says-said bib t es a.1 in
    rw a.0
    (elim (leb e.stamp t) as (λ b. keep_if (eqb e.key bib & b) e (only (says_of bib t) es) ≡ entries_for bib (elim b [ true ↦ e ∷ up_to t es | false ↦ up_to t es ])) [
      | true ↦ elim (eqb e.key bib) as (λ c. keep_if (c & true) e (only (says_of bib t) es) ≡ elim c [ true ↦ e ∷ entries_for bib (up_to t es) | false ↦ entries_for bib (up_to t es) ])
          [ true ↦ ap (λ (l : List Entry). e ∷ l) ih | false ↦ ih ]
      | false ↦ elim (eqb e.key bib) as (λ c. keep_if (c & false) e (only (says_of bib t) es) ≡ entries_for bib (up_to t es)) [ true ↦ ih | false ↦ ih ]
    ])

-- what fits and what does not
fits-or-not : (places : ℕ) (es : List Entry) → ((length es ≤ places) × (fitting places es ≡ roll 0 es)) ⊎ ((places < length es) × (fitting places es ≡ roll 15 []))
unfolding fitting
fits-or-not places es =
    ⊎_elim
    (λ (le : length es ≤ places). inl (le, rw (le-leb (length es) places le)))
    (λ (lt : places < length es). inr (lt, rw (lt-leb (length es) places lt)))
    (le-or-lt (length es) places)

history-is : (card : List ℕ) (h : Head) (begin bib t places : ℕ) (xs : List Entry) → head_of card ≡ Some h → 1 ≤ bib → beginning card ≡ begin → begin ≤ t
    → area h card ≡ Some xs → history card bib t places ≡ fitting places (by_stamp (only (says_of bib t) xs))
unfolding history history_in history_on
history-is card h begin bib t places xs hq lo bq le aq = rw (hq, ne_eqb bib 0 (λ z. omega arith), bq, le-ltb t begin le, aq)

pub history-tells-the-accepted : HistoryTellsTheAccepted
history-tells-the-accepted h begin rs card b calls s bib t lo le places =
    let es = rs ++ accepted card calls in
    let new = card_after card calls in
    let kn = calls-known h begin rs card b calls s in
    let up : Up (only (says_of bib t) es) = subst Up (only-within (says_of bib t) (for_bib bib) (says-bib bib t) es) (up-only (says_of bib t) (only (for_bib bib) es) (kn.1.up bib)) in
    let a = known-said (says_of bib t) (says-dummy bib t lo) (says-data bib t) h es kn.0 new kn.1 up in
    let ke = (calls-keep h begin rs card (begun-starts h begin rs card b) calls s).0 in
    subst (λ r. ((length (said_of bib t es) ≤ places) × (r ≡ roll 0 (said_of bib t es))) ⊎ ((places < length (said_of bib t es)) × (r ≡ roll 15 [])))
    (sym (history-is new h begin bib t places a.0 ke.state.head lo ke.begins le a.1 ∙ ap (fitting places) (a.2 ∙ says-said bib t es kn.1.posts)))
    (fits-or-not places (said_of bib t es))

known-sector : (es : List Entry) (s : Sector) → (s ≡ Blank) ⊎ ((d : Entry) × (s ≡ Held d) × Is es d) → KnownSector es s
known-sector es s (inl z) = subst (KnownSector es) (sym z) tt
known-sector es s (inr z) =
    subst (KnownSector es) (sym z.1) (⊎_elim (λ (i : is_index z.0 ≡ true). inl i) (λ (d : (is_data z.0 ≡ true) × ((z.0 ≡ dummy) ⊎ Mem z.0 es)). inr d.1) z.2)

pub only-accepted-stand : OnlyAcceptedStand
only-accepted-stand h begin rs card b calls s j lo =
    let new = card_after card calls in
    let kn = calls-known h begin rs card b calls s in
    known-sector (rs ++ accepted card calls) (decode h.n (sector_at new j))
    (⊎_elim (λ (z : zeros (sector_at new j) ≡ true). inl (zeros-blank h.n (sector_at new j) z)) (λ x. inr x) (kn.1.known j lo))

pub accepted-stand : AcceptedStand
accepted-stand h begin rs card b calls s = (calls-known h begin rs card b calls s).1.there

-- the posts and strikes of every bib
abbrev any_bib : Entry → Bool
any_bib e = is_data e & leb 1 e.key

any-dummy : any_bib dummy ≡ false
unfolding is_data
any-dummy = refl

any-data : (d : Entry) → any_bib d ≡ true → is_data d ≡ true
any-data d q = (and-true (is_data d) (leb 1 d.key) q).0

since-any : (h : Head) (c : List ℕ) (g : ℕ → ℕ → Option Entry) (begin s : ℕ) → Keeps h c g begin s → (es : List Entry) (d : List ℕ) → Since c es d → All (λ e. any_bib e ≡ true) es
since-any h c g begin s ke [] d q = tt
since-any h c g begin s ke (e ∷ es) d q = (
  true-and (asks-kind e q.1).1 (le-leb 1 e.key (keeps-passed h c g begin s ke e q.1 q.0 q.2).0),
  since-any h q.0 (more g e) begin e.stamp (keeps-step h c g begin s ke e q.1 q.0 q.2) es d q.3,
)

-- accepted entries rise
since-up : (h : Head) (c : List ℕ) (g : ℕ → ℕ → Option Entry) (begin s : ℕ) → Keeps h c g begin s → (es : List Entry) (d : List ℕ) → Since c es d
    → Up es × All (λ e. s < e.stamp) es
since-up h c g begin s ke [] d q = (tt, tt)
since-up h c g begin s ke (e ∷ es) d q =
    let above = (keeps-passed h c g begin s ke e q.1 q.0 q.2).1 in
    let r = since-up h q.0 (more g e) begin e.stamp (keeps-step h c g begin s ke e q.1 q.0 q.2) es d q.3 in
    ((r.1, r.0), (above, all_map (λ d. e.stamp < d.stamp) (λ d. s < d.stamp) (λ d l. omega arith) es r.1))

-- every accepted entry, read off a card that began with a format
pub calls-said : (h : Head) (card : List ℕ) → Formatted h card → (calls : List Act) → AllSized calls
    → (xs : List Entry) × (area h (card_after card calls) ≡ Some xs) × (by_stamp (only any_bib xs) ≡ accepted card calls)
calls-said h card f calls s =
    let es = accepted card calls in
    let new = card_after card calls in
    let kn = calls-known h 0 [] card (inl (f, refl, refl)) calls s in
    let ke = (formatted-starts h card f).keeps in
    let since = calls-since h card (λ t. said []) 0 0 ke calls s in
    let every = only-every any_bib es (since-any h card (λ t. said []) 0 0 ke es new since) in
    let up : Up (only any_bib es) = subst Up (sym every) (since-up h card (λ t. said []) 0 0 ke es new since).0 in
    let a = known-said any_bib any-dummy any-data h es kn.0 new kn.1 up in
    (a.0, a.1, a.2 ∙ every)

formatted-after : (h : Head) (card : List ℕ) → Formatted h card → (calls : List Act) → AllSized calls → head_of (card_after card calls) ≡ Some h
formatted-after h card f calls s = (calls-keep h 0 [] card (formatted-starts h card f) calls s).0.state.head

pub one-sequence : OneSequence
one-sequence h g card other f e calls others s z q =
    let a = calls-said h card f calls s in
    let b = calls-said g other e others z in
    let hg : h ≡ g = some_inj (sym (formatted-after h card f calls s) ∙ ap head_of q ∙ formatted-after g other e others z) in
    let xs : a.0 ≡ b.0 = some_inj (sym a.1 ∙ ap (λ k. area k (card_after card calls)) hg ∙ ap (area g) q ∙ b.1) in
    (hg, sym a.2 ∙ ap (λ l. by_stamp (only any_bib l)) xs ∙ b.2)

-- a refusal gives no entry
fitting-bare : (places : ℕ) (es : List Entry) → Bare (fitting places es)
unfolding fitting
fitting-bare places es =
    elim (leb (length es) places) as (λ b. Bare (if b (roll 0 es) (roll 15 []))) [ true ↦ λ n. absurd (n refl) | false ↦ λ n. refl ]

on-bare : (bib t places : ℕ) (o : Option (List Entry)) → Bare (history_on bib t places o)
unfolding history_on
on-bare bib t places None = λ n. refl
on-bare bib t places (Some es) = fitting-bare places (by_stamp (only (says_of bib t) es))

in-bare : (card : List ℕ) (bib t places : ℕ) (o : Option Head) → Bare (history_in card bib t places o)
unfolding history_in
in-bare card bib t places None = λ n. refl
in-bare card bib t places (Some h) =
    let on = history_on bib t places (area h card) in
    elim (eqb bib 0) as (λ b. Bare (if b (roll 2 []) (if (ltb t (beginning card)) (roll 13 []) on))) [
      | true ↦ λ n. refl
      | false ↦ elim (ltb t (beginning card)) as (λ b. Bare (if b (roll 13 []) on)) [ true ↦ λ n. refl | false ↦ on-bare bib t places (area h card) ]
    ]

pub history-is-settled : HistoryIsSettled
unfolding history
history-is-settled card bib at out one two new other a b =
    let r = history_in card bib at (length out / 16) (head_of card) in
    rolls-settled r (in-bare card bib at (length out / 16) (head_of card)) out one two new other a b
