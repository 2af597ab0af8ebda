-- One level of the function over the path: a bucket with room, or a bucket rewritten.
use mathlib.Core.Path.{◌≡◌, refl, ap, sym, ◌∙◌}
use mathlib.Core.List.{List, [], ◌∷◌}
use Prim.Native.Nat.{ℕ, ◌+◌, ◌-◌, ◌≤◌, ◌<◌}
use native.Mathlib.Omega.{arith}
use lib.ListN.{length, take, drop, get_or, length-drop}
use lib.Seq.{take_all}
use Rattle.rules.specs.declared.Entry.{Entry}
use Rattle.rules.specs.declared.Head.{Head}
use Rattle.rules.specs.Rewrite.{Rise, into}
use Rattle.rules.specs.Write.{rooted}
use Rattle.level.specs.Level.{sent_list, pairs_of, need_of, AllSmall}
use Rattle.level.specs.declared.Sent.{Sent}
use Rattle.climb.specs.declared.Renewed.{Renewed}
use Rattle.climb.specs.Levels.{entries_on, risen, rise_on, topped, kept_on, limit_on, own_card, Read, Ready, HandsOn}
use Rattle.climb.proofs.Rising.{rise-room, rise-full, rise-more, all_read, ready-own}
use Rattle.climb.proofs.Counting.{path-at, blank-count}

-- the levels as the pattern takes them apart
pub front : (l : List ℕ) → 1 ≤ length l → l ≡ get_or l 0 0 ∷ take (length l - 1) (drop 1 l)
front l h =
    let whole : l ≡ drop 0 l = refl in
    whole ∙ path-at l 0 (omega arith) ∙ ap (λ (r : List ℕ). get_or l 0 0 ∷ r) (sym (take_all (length l - 1) (drop 1 l) (simp length-drop (omega arith))))

-- bucket b, which holds u entries and was sent k, and the levels above it
pub record Level (h : Head) (s : ℕ) (card : List ℕ) (b : ℕ) (above : List ℕ) (p : Sent) (fresh u k : ℕ) : Type 0 where
  pub ready : Ready h card (b ∷ above) fresh
  pub used : u ≡ length (entries_on h card b)
  pub most : u ≤ h.m
  pub sent : k ≡ length (sent_list p)
  pub small : AllSmall (sent_list p)
  pub cap : (topped h s (rise_on h s (b ∷ above) (risen (sent_list p) fresh card))).fresh ≤ h.n + 1

module _ {h : Head} {s : ℕ} {card : List ℕ} {b : ℕ} {above : List ℕ} {p : Sent} {fresh u k : ℕ} (v : Level h s card b above p fresh u k) where
  abbrev whole : Rise
  whole = topped h s (rise_on h s (b ∷ above) (risen (sent_list p) fresh card))

  abbrev td : ℕ
  td = limit_on h card b

  abbrev es : List Entry
  es = kept_on h s card b (sent_list p)

  pub here-read : Read h card b
  here-read = v.ready.reads.0

  pub ends-in : u + k ≤ h.m → whole ≡ risen [] fresh (into h b (sent_list p) card)
  unfolding topped rooted
  ends-in le =
      let blanks = blank-count h card b v.ready.shape here-read in
      ap (topped h s) (rise-room h s b above p fresh card (omega (arith, blanks, le, v.used, v.most, v.sent)))

  module _ (gt : h.m < u + k) where
    goes_on : whole ≡ topped h s (rise_on h s above (risen (pairs_of s td fresh es) (fresh + need_of td es) (own_card h td fresh es card)))
    goes_on =
        let blanks = blank-count h card b v.ready.shape here-read in
        ap (topped h s) (rise-full h s b above p fresh card (omega (arith, blanks, gt, v.used, v.most, v.sent)))

    pub fits : fresh + need_of td es ≤ h.n + 1
    fits =
        let more = rise-more h s above (risen (pairs_of s td fresh es) (fresh + need_of td es) (own_card h td fresh es card)) in
        let same = ap (λ (r : Rise). r.fresh) goes_on in
        omega (arith, more, same, v.cap)

    -- the level's new buckets are on the card, and their pairs go on
    module _ {r : Renewed} {now : List ℕ} (on : HandsOn s td fresh es r) (w : now ≡ own_card h td fresh es card) where
      pub next-whole : whole ≡ topped h s (rise_on h s above (risen (sent_list r.sent) r.fresh now))
      next-whole = rw (on.pairs, on.next, w) goes_on

      pub next-ready : Ready h now above r.fresh
      next-ready = rw (on.next, w) (ready-own h card above fresh td es (all_read v.ready) fits)
