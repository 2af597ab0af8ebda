-- A turn of the count, the sizes that keep it within its numbers, and kinds that one byte holds.
use mathlib.Core.Path.{◌≡◌, refl, ap, ap₂, sym, ◌∙◌, subst}
use mathlib.Core.Logic.{⊎_elim}
use mathlib.Core.Bool.{true, false}
use mathlib.Core.List.{List, [], ◌∷◌, ◌++◌}
use Prim.Native.Nat.{ℕ, zero, suc, ◌+◌, ◌-◌, ◌≤◌, ◌<◌}
use native.Mathlib.Numerals.{add-one}
use native.Mathlib.Omega.{arith}
use lib.Dec.{ltb}
use lib.ListN.{length, take, drop, get_or}
use lib.Seq.{drop-cons}
use Rattle.rules.specs.declared.Entry.{Entry}
use Rattle.rules.specs.declared.Head.{Head}
use Rattle.rules.specs.Sector.{is_index}
use Rattle.rules.specs.Bucket.{blanks_of}
use Rattle.rules.specs.Rewrite.{pair, limit_of, kept}
use Rattle.laws.proofs.Tools.{bool_cases}
use Rattle.laws.proofs.Heads.{Lim}
use Rattle.laws.proofs.Halves.{kept-all}
use Rattle.laws.proofs.Blanks.{up_from}
use Rattle.writer.specs.Words.{Narrow}
use Rattle.level.specs.Level.{sent_list, pairs_of, AllSmall}
use Rattle.level.specs.declared.Sent.{Sent}
use Rattle.bucket.specs.Shapes.{Shape}
use Rattle.climb.specs.declared.Renewed.{Renewed}
use Rattle.climb.specs.Levels.{entries_on, kept_on, limit_on, Tally, tally, count_on, Read, AllRead, HandsOn}
use Rattle.climb.proofs.Reading.{reads}
use Rattle.climb.proofs.Rising.{count_room, count-full}

small-append : (es ds : List Entry) → AllSmall es → AllSmall ds → AllSmall (es ++ ds)
small-append [] ds a b = b
small-append (e ∷ es) ds a b = (a.0, small-append es ds a.1 b)

pub kept_small : (hk s : ℕ) (es ds : List Entry) → AllSmall es → AllSmall ds → AllSmall (kept hk s (es ++ ds))
kept_small hk s es ds a b = kept-all Narrow hk s (es ++ ds) (small-append es ds a b)

pub pairs_small : (s td fresh : ℕ) (es : List Entry) → AllSmall (pairs_of s td fresh es)
unfolding pairs_of pair
pairs_small s td fresh es =
    ⊎_elim (λ (t : ltb (length es) td ≡ true). rw t ((omega arith, omega arith), tt))
    (λ (t : ltb (length es) td ≡ false). rw t ((omega arith, omega arith), ((omega arith, omega arith), tt)))
    (bool_cases (ltb (length es) td))

pub take-small : (n : ℕ) (es : List Entry) → AllSmall es → AllSmall (take n es)
take-small zero es a = tt
take-small (suc n) [] a = tt
take-small (suc n) (e ∷ es) a = (a.0, take-small n es a.1)

pub drop-small : (n : ℕ) (es : List Entry) → AllSmall es → AllSmall (drop n es)
drop-small zero es a = a
drop-small (suc n) [] a = tt
drop-small (suc n) (e ∷ es) a = drop-small n es a.1

pub limit-within : (h : Head) (es : List Entry) → Lim h → (2 ≤ limit_of h es) × (limit_of h es ≤ h.m)
unfolding limit_of
limit-within h [] l = (l.td2, l.tdm)
limit-within h (e ∷ es) l =
    ⊎_elim (λ (t : is_index e ≡ true). rw t (omega (arith, l.ti4), l.tim)) (λ (t : is_index e ≡ false). rw t (l.td2, l.tdm)) (bool_cases (is_index e))

pub up-length : (i c : ℕ) → length (up_from i c) ≡ c
up-length i zero = refl
up-length i (suc c) = ap suc (up-length (suc i) c)

-- how many blanks a bucket that is read has
pub blank-count : (h : Head) (card : List ℕ) (b : ℕ) → Shape h card → Read h card b → length (blanks_of h card b) ≡ h.m - length (entries_on h card b)
blank-count h card b sh q = let r = reads h card b sh q in ap length r.blank ∙ up-length _ _

-- the first of the levels left
pub path-at : (path : List ℕ) (i : ℕ) → i < length path → drop i path ≡ get_or path i 0 ∷ drop (i + 1) path
path-at path i lt = rw add-one (drop-cons path i 0 lt)

pub read_at : (h : Head) (card path : List ℕ) (i : ℕ) → i < length path → AllRead h card (drop i path)
    → Read h card (get_or path i 0) × AllRead h card (drop (i + 1) path)
read_at h card path i lt a = subst (AllRead h card) (path-at path i lt) a

pub count_none : (h : Head) (s : ℕ) (card : List ℕ) (t : Tally) → count_on h s card [] t ≡ t
unfolding count_on
count_none h s card t = refl

-- u entries and k sent, in the i-th bucket of the path
module _ (h : Head) (s : ℕ) (card path : List ℕ) (i : ℕ) (p : Sent) (fresh u k : ℕ) (whole : Tally) (sh : Shape h card) (rd : AllRead h card (drop i path))
    (inv : count_on h s card (drop i path) (tally (sent_list p) fresh) ≡ whole) (lt : i < length path) (us : u ≡ length (entries_on h card (get_or path i 0)))
    (ks : k ≡ length (sent_list p)) where
  abbrev here : ℕ
  here = get_or path i 0

  turn : count_on h s card (here ∷ drop (i + 1) path) (tally (sent_list p) fresh) ≡ whole
  turn = subst (λ (l : List ℕ). count_on h s card l (tally (sent_list p) fresh) ≡ whole) (path-at path i lt) inv

  -- room: nothing goes further up
  pub ends-here : u + k ≤ h.m → tally [] fresh ≡ whole
  ends-here le =
      let b = blank-count h card here sh (read_at h card path i lt rd).0 in
      sym (count_room h s here (drop (i + 1) path) p fresh card (omega arith)) ∙ turn

  -- none: the pairs do
  pub goes_on : h.m < u + k → u ≤ h.m → (r : Renewed) → HandsOn s (limit_on h card here) fresh (kept_on h s card here (sent_list p)) r
      → count_on h s card (drop (i + 1) path) (tally (sent_list r.sent) r.fresh) ≡ whole
  goes_on gt le r on =
      let b = blank-count h card here sh (read_at h card path i lt rd).0 in
      ap₂ (λ (hand : List Entry) (f : ℕ). count_on h s card (drop (i + 1) path) (tally hand f)) on.pairs on.next
      ∙ sym (count-full h s here (drop (i + 1) path) p fresh card (omega arith)) ∙ turn
