-- Look and next tell the truth, whatever calls came before.
use Rattle.std.specs.Prelude.{Option, None, Some}
use Prim.Native.Nat.{ℕ, ◌≤◌, ◌<◌}
use mathlib.Core.Path.{refl, sym, ap, subst, ◌∙◌, ◌≡◌}
use mathlib.Core.Logic.{inl, inr}
use mathlib.Core.List.{List, [], ◌++◌}
use lib.ListN.{length}
use lib.Dec.{eqb}
use borrow.Author.Tests.{ne_eqb, le-ltb, lt-ltb}
use native.Mathlib.Omega.{arith}
use Rattle.rules.specs.declared.Entry.{Entry}
use Rattle.rules.specs.declared.Head.{Head}
use Rattle.rules.specs.declared.Answer.{Answer}
use Rattle.rules.specs.Layout.{beginning}
use Rattle.rules.specs.Walk.{Visit, walk}
use Rattle.rules.specs.Next.{next_in, next}
use Rattle.rules.specs.Plain.{if}
use Rattle.rules.specs.Look.{look_on, look_in, look}
use Rattle.rules.specs.Answers.{refused, sheet}
use Rattle.rules.specs.Write.{refuse, refuse_if}
use Rattle.rules.specs.Records.{roll}
use Rattle.rules.specs.History.{history_in, history}
use Rattle.rules.specs.Season.{season_for, season}
use Rattle.laws.proofs.Lists.{all_map}
use Rattle.tree.proofs.Ends.{ends-here}
use Rattle.tree.proofs.Found.{Found, found-ext}
use Rattle.tree.proofs.Keeps.{Keeps, keeps-next}
use Rattle.laws.proofs.Tells.{given}
use Rattle.tree.proofs.Seasoned.{said}
use Rattle.promises.specs.Promises.{LookTellsTheTruth, ReadsCountThePath, Smallest, NextTellsTheTruth, NothingBeforeTheBeginning}
use Rattle.promises.specs.Calls.{Act, AllSized, card_after, Above, accepted}
use Rattle.promises.specs.Reading.{stands_as_of, last_stamp}
use Rattle.promises.proofs.Begun.{Starts, begun-starts}
use Rattle.promises.proofs.Reading.{after-plain}
use Rattle.promises.proofs.Since.{since-keeps, calls-since, after}

-- the card after the calls answers for the records that it began with and the entries accepted
pub calls-keep : (h : Head) (begin : ℕ) (rs : List Entry) (card : List ℕ) → Starts h begin rs card → (calls : List Act) → AllSized calls
    → Keeps h (card_after card calls) (after (λ t. said rs) (accepted card calls)) begin (last_stamp begin (accepted card calls))
    × ((at : ℕ) → begin < at → Above at (accepted card calls) → last_stamp begin (accepted card calls) < at)
calls-keep h begin rs card st calls s =
    let ke = st.keeps in
    since-keeps h card (λ t. said rs) begin begin ke (accepted card calls) (card_after card calls) (calls-since h card (λ t. said rs) begin begin ke calls s)

pub sheet-reads : (bib reads : ℕ) (o : Option Entry) → (sheet bib reads o).reads ≡ reads
unfolding sheet
sheet-reads bib reads None = refl
sheet-reads bib reads (Some e) = refl

module _ (h : Head) (begin : ℕ) (rs : List Entry) (card : List ℕ) (st : Starts h begin rs card) (calls : List Act) (s : AllSized calls) where
  abbrev es : List Entry
  es = accepted card calls

  abbrev new : List ℕ
  new = card_after card calls

  ke : Keeps h new (after (λ t. said rs) es) begin (last_stamp begin es)
  ke = (calls-keep h begin rs card st calls s).0

  -- what stands from the beginning on, by the plain reading
  pub calls-plain : (t : ℕ) → begin ≤ t → (x : ℕ) → after (λ z. said rs) es t x ≡ stands_as_of t x (rs ++ es)
  calls-plain t le x = after-plain rs es t x (all_map (λ e. e.stamp ≤ begin) (λ e. e.stamp ≤ t) (λ e l. omega arith) rs st.past)

  calls-look : (bib t : ℕ) → 1 ≤ bib → bib < 4294967296 → begin ≤ t
      → (p : List Visit) × (walk h new t bib ≡ Some p) × (look new bib t ≡ sheet bib (length p) (stands_as_of t bib (rs ++ es)))
  unfolding look look_in look_on
  calls-look bib t lo hi le =
      let a = ke.answers t bib le hi in
      let there = ends-here (after (λ z. said rs) es t) t bib 0 4294967296 a.0 a.2 ∙ calls-plain t le bib in
      let begins = ke.begins in
      (a.0, a.1, rw (ke.state.head, ne_eqb bib 0 (λ z. omega arith), le-ltb t (beginning new) (omega arith), a.1, there))

  pub look-truth : (bib t : ℕ) → 1 ≤ bib → bib < 4294967296 → begin ≤ t → look new bib t ≡ sheet bib (look new bib t).reads (stands_as_of t bib (rs ++ es))
  look-truth bib t lo hi le =
      let l = calls-look bib t lo hi le in
      let n : (look new bib t).reads ≡ length l.0 = ap (λ a. a.reads) l.2 ∙ sheet-reads bib (length l.0) (stands_as_of t bib (rs ++ es)) in
      l.2 ∙ ap (λ r. sheet bib r (stands_as_of t bib (rs ++ es))) (sym n)

  reads-truth : (bib t : ℕ) → 1 ≤ bib → bib < 4294967296 → begin ≤ t → (p : List Visit) × (walk h new t bib ≡ Some p) × ((look new bib t).reads ≡ length p)
  reads-truth bib t lo hi le =
      let l = calls-look bib t lo hi le in
      (l.0, l.1, ap (λ a. a.reads) l.2 ∙ sheet-reads bib (length l.0) (stands_as_of t bib (rs ++ es)))

  -- what next gives on the card after the calls, by the plain reading
  pub calls-next : (k t : ℕ) → k < 4294967296 → begin ≤ t
      → (r : Option Entry) × (next new k t ≡ given r) × Found (λ x. stands_as_of t x (rs ++ es)) k 0 4294967296 r
  calls-next k t lt le =
      let n = keeps-next h new (after (λ z. said rs) es) begin (last_stamp begin es) ke k t le lt in
      (n.0, n.1, found-ext (after (λ z. said rs) es t) (λ x. stands_as_of t x (rs ++ es)) k 0 4294967296 n.0 (λ x lo hi. calls-plain t le x) n.2)

  -- before the beginning
  pub look-before : (bib t : ℕ) → t < begin → look new bib t ≡ if (eqb bib 0) (refused 2) (refused 13)
  unfolding look look_in
  look-before bib t lt = let begins = ke.begins in rw (ke.state.head, lt-ltb t (beginning new) (omega arith))

  pub next-before : (k t : ℕ) → t < begin → next new k t ≡ refused 13
  unfolding next next_in
  next-before k t lt = let begins = ke.begins in rw (ke.state.head, lt-ltb t (beginning new) (omega arith))

  season-before : (t : ℕ) → t < begin → (target : List ℕ) (n m td ti : ℕ) → season new t target n m td ti ≡ refuse 13
  unfolding season season_for refuse_if
  season-before t lt target n m td ti = let begins = ke.begins in rw (ke.state.head, lt-ltb t (beginning new) (omega arith))

  history-before : (bib t : ℕ) → 1 ≤ bib → t < begin → (places : ℕ) → history new bib t places ≡ roll 13 []
  unfolding history history_in
  history-before bib t lo lt places =
      let begins = ke.begins in rw (ke.state.head, ne_eqb bib 0 (λ z. omega arith), lt-ltb t (beginning new) (omega arith))

pub look-tells-the-truth : LookTellsTheTruth
look-tells-the-truth h begin rs card b = look-truth h begin rs card (begun-starts h begin rs card b)

pub reads-count-the-path : ReadsCountThePath
reads-count-the-path h begin rs card b = reads-truth h begin rs card (begun-starts h begin rs card b)

pub given-smallest : (g : ℕ → Option Entry) (k : ℕ) (r : Option Entry) → Found g k 0 4294967296 r → Smallest g k (given r)
given-smallest g k r (inl f) = inl (λ b kb bh. f.1 b (omega arith) bh kb, ap given f.0)
given-smallest g k r (inr f) = inr (f.0.key, f.0, f.2, f.4, λ b kb be. f.5 b (omega arith) kb be, ap given f.1)

-- what is found by one reading is by any other that says the same above k
pub found-smallest : (g g' : ℕ → Option Entry) (k : ℕ) (a : Answer) → ((x : ℕ) → k < x → x < 4294967296 → g x ≡ g' x)
    → (r : Option Entry) × (a ≡ given r) × Found g k 0 4294967296 r → Smallest g' k a
found-smallest g g' k a same n = subst (Smallest g' k) (sym n.1) (given-smallest g' k n.0 (found-ext g g' k 0 4294967296 n.0 same n.2))

pub next-tells-the-truth : NextTellsTheTruth
next-tells-the-truth h begin rs card b calls s k t lt le =
    let plain : ℕ → Option Entry = λ x. stands_as_of t x (rs ++ accepted card calls) in
    found-smallest plain plain k (next (card_after card calls) k t) (λ x lo hi. refl) (calls-next h begin rs card (begun-starts h begin rs card b) calls s k t lt le)

pub nothing-before-the-beginning : NothingBeforeTheBeginning
nothing-before-the-beginning h begin rs card b calls s bib t lt target n m td ti =
    let st = begun-starts h begin rs card b in (
      (λ lo. look-before h begin rs card st calls s bib t lt ∙ rw (ne_eqb bib 0 (λ z. omega arith))),
      next-before h begin rs card st calls s bib t lt,
      season-before h begin rs card st calls s t lt target n m td ti,
      (λ places lo. history-before h begin rs card st calls s bib t lo lt places),
    )
