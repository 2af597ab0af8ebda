-- A season card is seen through to the card that it was made from, and a copy of a copy is a copy.
use mathlib.Core.Path.{◌≡◌, refl, sym, ap, ◌∙◌}
use mathlib.Core.Logic.{⊎_elim}
use mathlib.Core.Bool.{true}
use mathlib.Core.List.{List, [], ◌∷◌, ◌++◌}
use Prim.Native.Nat.{ℕ, ◌≤◌, ◌<◌}
use native.Mathlib.Omega.{arith}
use borrow.Author.Tests.{le-leb, lt-leb, le-ltb, leb-true}
use lib.Dec.{leb}
use Rattle.rules.specs.declared.Entry.{Entry}
use Rattle.rules.specs.declared.Head.{Head}
use Rattle.rules.specs.Answers.{sheet}
use Rattle.rules.specs.Format.{meant}
use Rattle.rules.specs.Layout.{beginning}
use Rattle.rules.specs.Look.{look}
use Rattle.rules.specs.Next.{next}
use Rattle.rules.specs.Plain.{only}
use Rattle.rules.specs.Records.{Roll}
use Rattle.rules.specs.Season.{season_for, season, standing_at}
use Rattle.rules.specs.Walk.{left}
use Rattle.rules.specs.Write.{accept, refuse_if}
use Rattle.laws.proofs.Left.{left-upto}
use Rattle.laws.proofs.Lists.{All, all_map, only-true}
use Rattle.laws.proofs.Tools.{le-or-lt}
use Rattle.tree.proofs.Keeps.{Keeps}
use Rattle.tree.proofs.Seasoned.{said, season-passed}
use Rattle.tree.proofs.Standing.{standing-whole, standing-same}
use Rattle.promises.specs.Calls.{Act, AllSized, card_after, accepted, Quiet}
use Rattle.promises.specs.Promises.{SeenThrough, CopiesOfCopies, CopiesAreRefusedAlike, TwiceIsOnce}
use Rattle.promises.specs.Reading.{up_to, stands_as_of, last_stamp}
use Rattle.promises.proofs.Begun.{Starts, begun-starts, season-starts, same-season}
use Rattle.promises.proofs.Reading.{up-to-left, stands_plain, stands-over, stands-still}
use Rattle.promises.proofs.Since.{after}
use Rattle.promises.proofs.Truth.{calls-keep, calls-plain, calls-next, look-truth, found-smallest}

-- the entries left are stamped t or earlier
left-early : (t u : ℕ) → t ≤ u → (es : List Entry) → All (λ e. e.stamp ≤ u) (left t es)
unfolding left
left-early t u le es =
    all_map (λ e. leb e.stamp t ≡ true) (λ e. e.stamp ≤ u) (λ e q. let early = leb-true e.stamp t q in omega arith) (left t es) (only-true (λ e. leb e.stamp t) es)

quiet-left : (t u : ℕ) → t ≤ u → (es : List Entry) → Quiet t u es → left t es ≡ left u es
unfolding left only
quiet-left t u tu [] a = refl
quiet-left t u tu (e ∷ es) a =
    let rest = quiet-left t u tu es a.1 in
    ⊎_elim
    (λ (le : e.stamp ≤ t). rw (le-leb e.stamp t le, le-leb e.stamp u (omega arith)) (ap {B = List Entry} (λ l. e ∷ l) rest))
    (λ (gt : t < e.stamp). ⊎_elim
    (λ (lu : e.stamp ≤ u). absurd (a.0 gt lu))
    (λ (gu : u < e.stamp). rw (lt-leb e.stamp t gt, lt-leb e.stamp u gu) rest)
    (le-or-lt e.stamp u))
    (le-or-lt e.stamp t)

never : (t : ℕ) (es : List Entry) → Quiet t t es
never t [] = tt
never t (e ∷ es) = ((λ a z. omega arith), never t es)

module _ (h : Head) (begin : ℕ) (rs : List Entry) (card : List ℕ) (st : Starts h begin rs card) (calls : List Act) (sized : AllSized calls) where
  abbrev es : List Entry
  es = accepted card calls

  abbrev now : List ℕ
  now = card_after card calls

  ke : Keeps h now (after (λ t. said rs) es) begin (last_stamp begin es)
  ke = (calls-keep h begin rs card st calls sized).0

  module _ (t : ℕ) (small : t < 4294967296) (target : List ℕ) (n m td ti : ℕ) (copy : List ℕ) (q : season now t target n m td ti ≡ accept copy) where
    copy-starts : Starts (meant n m td ti) t (standing_at now t).records copy
    copy-starts = season-starts now ke.state.bytes t small target n m td ti copy q

    since : begin ≤ t
    since = let a = (season-passed now t target n m td ti copy q).2 in let b = ke.begins in omega arith

    -- the records that the copy begins with say what stood
    records-say : (x : ℕ) → 0 < x → x < 4294967296 → said (standing_at now t).records x ≡ stands_as_of t x (rs ++ es)
    records-say x lo hi = (standing-whole h now (after (λ z. said rs) es) begin (last_stamp begin es) ke t since).says x lo hi ∙ calls-plain h begin rs card st calls sized t since x

    -- so that what is accepted on the copy comes over that
    through : (fs : List Entry) (u : ℕ) → t ≤ u → (x : ℕ) → 0 < x → x < 4294967296
        → stands_as_of u x ((standing_at now t).records ++ fs) ≡ stands_as_of u x (up_to t (rs ++ es) ++ fs)
    through fs u le x lo hi =
        let records = (standing_at now t).records in
        let earlier = left t (rs ++ es) in
        let same : said (left u records) x ≡ said (left u earlier) x =
        ap (λ (l : List Entry). said l x) (left-upto u records (all_map (λ e. e.stamp ≤ t) (λ e. e.stamp ≤ u) (λ e l. omega arith) records copy-starts.past))
        ∙ records-say x lo hi ∙ stands_plain t x (rs ++ es)
        ∙ ap (λ (l : List Entry). said l x) (sym (left-upto u earlier (left-early t u le (rs ++ es)))) in
        stands-over u x records earlier fs same ∙ ap (λ (l : List Entry). stands_as_of u x (l ++ fs)) (sym (up-to-left t (rs ++ es)))

pub seen-through : SeenThrough
seen-through h begin rs card b calls sized t small target n m td ti copy q more sized' bib u hi le =
    let st = begun-starts h begin rs card b in
    let cs = copy-starts h begin rs card st calls sized t small target n m td ti copy q in
    let records = (standing_at (card_after card calls) t).records in
    let fs = accepted copy more in
    let new = card_after copy more in
    let over = through h begin rs card st calls sized t small target n m td ti copy q fs u le in (
      (λ lo. look-truth (meant n m td ti) t records copy cs more sized' bib u lo hi le ∙ ap (sheet bib (look new bib u).reads) (over bib lo hi)),
      found-smallest (λ x. stands_as_of u x (records ++ fs)) (λ x. stands_as_of u x (up_to t (rs ++ accepted card calls) ++ fs)) bib (next new bib u)
          (λ x low high. over x (omega arith) high) (calls-next (meant n m td ti) t records copy cs more sized' bib u hi le),
    )

-- nothing was accepted after t and up to u: the copy has, as of u, the records of the first card
module _ (h : Head) (begin : ℕ) (rs : List Entry) (card : List ℕ) (st : Starts h begin rs card) (calls : List Act) (sized : AllSized calls)
    (t u : ℕ) (le : t ≤ u) (small : u < 4294967296) (quiet : Quiet t u (accepted card calls))
    (first : List ℕ) (n m td ti : ℕ) (copy : List ℕ) (q : season (card_after card calls) t first n m td ti ≡ accept copy) where
  abbrev source : List ℕ
  source = card_after card calls

  abbrev records : List Entry
  records = (standing_at source t).records

  first-keeps : Keeps h source (after (λ z. said rs) (accepted card calls)) begin (last_stamp begin (accepted card calls))
  first-keeps = (calls-keep h begin rs card st calls sized).0

  copied : Starts (meant n m td ti) t records copy
  copied = copy-starts h begin rs card st calls sized t (omega arith) first n m td ti copy q

  from : begin ≤ t
  from = since h begin rs card st calls sized t (omega arith) first n m td ti copy q

  same-roll : standing_at copy u ≡ standing_at source u
  same-roll =
      let past : (z : ℕ) → t ≤ z → left z rs ≡ rs
      = λ z tz. left-upto z rs (all_map (λ e. e.stamp ≤ begin) (λ e. e.stamp ≤ z) (λ e l. omega (arith, from)) rs st.past) in
      standing-same (meant n m td ti) copy (λ z. said records) t t copied.keeps
      h source (after (λ z. said rs) (accepted card calls)) begin (last_stamp begin (accepted card calls)) first-keeps u le (omega (arith, from))
      (λ x lo hi.
      records-say h begin rs card st calls sized t (omega arith) first n m td ti copy q x lo hi
      ∙ stands-still t u x rs (accepted card calls) (past t (omega arith) ∙ sym (past u le)) (quiet-left t u le (accepted card calls) quiet)
      ∙ sym (calls-plain h begin rs card st calls sized u (omega (arith, from)) x))

  pub refused-alike : (target : List ℕ) (n' m' td' ti' : ℕ) → season copy u target n' m' td' ti' ≡ season source u target n' m' td' ti'
  unfolding season season_for refuse_if
  refused-alike target n' m' td' ti' =
      let one = copied.keeps.begins in
      let two = first-keeps.begins in
      let low = from in
      rw (copied.keeps.state.head, first-keeps.state.head, le-ltb u (beginning copy) (omega arith), le-ltb u (beginning source) (omega arith), same-roll)

  pub copies-same : (second third : List ℕ) (n' m' td' ti' : ℕ) (again straight : List ℕ) → season copy u second n' m' td' ti' ≡ accept again
      → season source u third n' m' td' ti' ≡ accept straight → again ≡ straight
  copies-same second third n' m' td' ti' again straight a b =
      same-season copy source u (ap (λ (r : Roll). r.records) same-roll) second third n' m' td' ti' again straight a b

pub copies-of-copies : CopiesOfCopies
copies-of-copies h begin rs card b calls sized t u le small quiet first n m td ti copy q =
    copies-same h begin rs card (begun-starts h begin rs card b) calls sized t u le small quiet first n m td ti copy q

pub copies-are-refused-alike : CopiesAreRefusedAlike
copies-are-refused-alike h begin rs card b calls sized t u le small quiet first n m td ti copy q =
    refused-alike h begin rs card (begun-starts h begin rs card b) calls sized t u le small quiet first n m td ti copy q

pub twice-is-once : TwiceIsOnce
twice-is-once h begin rs card b calls sized t small = copies-of-copies h begin rs card b calls sized t t (omega arith) small (never t (accepted card calls))
