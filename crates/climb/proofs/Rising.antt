-- One level of the way up, as the code finds it: with room for what was sent, or rewritten.
use mathlib.Core.Path.{◌≡◌, refl, ap, ◌∙◌, subst}
use mathlib.Core.Logic.{⊎_elim}
use mathlib.Core.Bool.{true, false}
use mathlib.Core.List.{List, [], ◌∷◌}
use Prim.Native.Nat.{ℕ, ◌+◌, ◌-◌, ◌/◌, ◌≤◌, ◌<◌}
use native.Mathlib.Omega.{arith}
use borrow.Author.Tests.{le-leb, lt-leb}
use lib.Dec.{ltb}
use lib.ListN.{length, take, drop}
use Rattle.std.specs.Prelude.{Option, None, Some, is_some}
use Rattle.rules.specs.declared.Entry.{Entry}
use Rattle.rules.specs.declared.Head.{Head}
use Rattle.rules.specs.Plain.{and_then}
use Rattle.rules.specs.Sector.{root_entry}
use Rattle.rules.specs.Bucket.{log, blanks_of, log_blanks, sound_log}
use Rattle.rules.specs.Rewrite.{Rise, into, fill, one_bucket}
use Rattle.rules.specs.Write.{place, place_if, rooted, logged}
use Rattle.laws.proofs.Tools.{bool_cases, true-false, false-true}
use Rattle.laws.proofs.Run.{run_agree}
use Rattle.laws.proofs.Buckets.{raw}
use Rattle.laws.proofs.Into.{block_size, block-else, block-others, block-front}
use Rattle.laws.proofs.Fresh.{place_if-fresh, rooted-fresh}
use Rattle.level.specs.Level.{pairs_of, need_of, if_any, sent_list}
use Rattle.level.specs.declared.Sent.{Sent}
use Rattle.bucket.specs.Shapes.{Shape}
use Rattle.climb.specs.Levels.{entries_on, risen, visit_on, rise_on, topped, kept_on, limit_on, own_card, tally, tally_at, tally_if, count_on, Read, AllRead, AllBelow, Ready}
use Rattle.climb.proofs.Laying.{renew-parts}

-- nothing in hand goes no further
rise-closed : (h : Head) (s : ℕ) (bs : List ℕ) (fresh : ℕ) (card : List ℕ) → rise_on h s bs (risen [] fresh card) ≡ risen [] fresh card
unfolding rise_on place_if
rise-closed h s [] fresh card = refl
rise-closed h s (b ∷ bs) fresh card = rise-closed h s bs fresh card

count-closed : (h : Head) (s : ℕ) (card bs : List ℕ) (fresh : ℕ) → count_on h s card bs (tally [] fresh) ≡ tally [] fresh
unfolding count_on tally_if
count-closed h s card [] fresh = refl
count-closed h s card (b ∷ bs) fresh = count-closed h s card bs fresh

-- something is always sent
sent-place : (h : Head) (s : ℕ) (b : ℕ) (p : Sent) (fresh : ℕ) (card : List ℕ)
    → place_if h s (visit_on h card b) (sent_list p) (risen (sent_list p) fresh card) ≡ place h s (visit_on h card b) (risen (sent_list p) fresh card)
unfolding place_if
sent-place h s b p fresh card = refl

sent-tally : (h : Head) (s : ℕ) (card : List ℕ) (b : ℕ) (p : Sent) (fresh : ℕ) → tally_if h s card b (sent_list p) fresh ≡ tally_at h s card b (sent_list p) fresh
unfolding tally_if
sent-tally h s card b p fresh = refl

module _ (h : Head) (s : ℕ) (b : ℕ) (bs : List ℕ) (p : Sent) (fresh : ℕ) (card : List ℕ) where
  -- room for all: they go in, and that is the end
  pub rise-room : length (sent_list p) ≤ length (blanks_of h card b) → rise_on h s (b ∷ bs) (risen (sent_list p) fresh card) ≡ risen [] fresh (into h b (sent_list p) card)
  unfolding rise_on place
  rise-room le =
      ap (rise_on h s bs) (sent-place h s b p fresh card ∙ rw (le-leb (length (sent_list p)) (length (blanks_of h card b)) le))
      ∙ rise-closed h s bs fresh (into h b (sent_list p) card)

  pub count_room : length (sent_list p) ≤ length (blanks_of h card b) → count_on h s card (b ∷ bs) (tally (sent_list p) fresh) ≡ tally [] fresh
  unfolding count_on tally_at
  count_room le =
      ap (count_on h s card bs) (sent-tally h s card b p fresh ∙ rw (le-leb (length (sent_list p)) (length (blanks_of h card b)) le))
      ∙ count-closed h s card bs fresh

  -- no room: the bucket is rewritten, and its pairs go on
  pub rise-full : length (blanks_of h card b) < length (sent_list p)
      → rise_on h s (b ∷ bs) (risen (sent_list p) fresh card)
      ≡ rise_on h s bs (risen (pairs_of s (limit_on h card b) fresh (kept_on h s card b (sent_list p))) (fresh + need_of (limit_on h card b) (kept_on h s card b (sent_list p)))
      (own_card h (limit_on h card b) fresh (kept_on h s card b (sent_list p)) card))
  unfolding rise_on place kept_on limit_on
  rise-full lt =
      ap (rise_on h s bs)
      (sent-place h s b p fresh card
      ∙ rw (lt-leb (length (sent_list p)) (length (blanks_of h card b)) lt) (renew-parts h s (limit_on h card b) (kept_on h s card b (sent_list p)) (risen (sent_list p) fresh card)))

  pub count-full : length (blanks_of h card b) < length (sent_list p)
      → count_on h s card (b ∷ bs) (tally (sent_list p) fresh)
      ≡ count_on h s card bs (tally (pairs_of s (limit_on h card b) fresh (kept_on h s card b (sent_list p))) (fresh + need_of (limit_on h card b) (kept_on h s card b (sent_list p))))
  unfolding count_on tally_at
  count-full lt =
      ap (count_on h s card bs) (sent-tally h s card b p fresh ∙ rw (lt-leb (length (sent_list p)) (length (blanks_of h card b)) lt))

pub rise-more : (h : Head) (s : ℕ) (bs : List ℕ) (r : Rise) → r.fresh ≤ (topped h s (rise_on h s bs r)).fresh
unfolding rise_on topped
rise-more h s [] r = rooted-fresh h s r.hand r
rise-more h s (b ∷ bs) r =
    let q = place_if h s (visit_on h r.card b) r.hand r in
    let a = place_if-fresh h s (visit_on h r.card b) r.hand r in
    let c = rise-more h s bs q in
    omega arith

-- what stays where entries go into bucket b alone
module _ (h : Head) (card : List ℕ) (sh : Shape h card) (b : ℕ) (one : 1 ≤ b) (most : b ≤ h.n) (es : List Entry) where
  into-shape : Shape h (into h b es card)
  into-shape = record { lim = sh.lim; long = block_size h card sh.long b one most es }

  into-log : log h (into h b es card) ≡ log h card
  unfolding log
  into-log =
      ap (λ z. and_then z sound_log)
      (run_agree h.n (into h b es card) card 1 h.n (λ j p q. block-front h card sh.long b one most es j (omega arith)))

  into-read : (c : ℕ) → (c ≡ b → ⊥) → Read h card c → Read h (into h b es card) c
  unfolding entries_on
  into-read c ne q = let same = block-others h card sh.long b one most es c ne in rw same q

  into-reads : (bs : List ℕ) → AllBelow b bs → AllRead h card bs → AllRead h (into h b es card) bs
  into-reads [] lt a = tt
  into-reads (c ∷ bs) lt a = (into-read c (λ (e : c ≡ b). omega (arith, lt.0)) a.0, into-reads bs lt.1 a.1)

  into-free : (c : ℕ) → 1 ≤ c → (c ≡ b → ⊥) → raw h (into h b es card) c ≡ raw h card c
  into-free c lo ne = block-else h card sh.long b one most es c lo ne

below_more : (f g : ℕ) (bs : List ℕ) → f ≤ g → AllBelow f bs → AllBelow g bs
below_more f g [] le a = tt
below_more f g (b ∷ bs) le a = (omega (arith, a.0), below_more f g bs le a.1)

pub all_read : {h : Head} {card : List ℕ} {b : ℕ} {bs : List ℕ} {fresh : ℕ} → Ready h card (b ∷ bs) fresh → Ready h card bs fresh
all_read rd = record { shape = rd.shape; reads = rd.reads.1; below = rd.below.1; least = rd.least; free = rd.free; logs = rd.logs }

pub none_left : {h : Head} {card bs : List ℕ} {fresh : ℕ} → Ready h card bs fresh → Ready h card [] fresh
none_left rd = record { shape = rd.shape; reads = tt; below = tt; least = rd.least; free = rd.free; logs = rd.logs }

-- a fresh bucket is filled, and the next one is the first fresh
pub ready-into : (h : Head) (card bs : List ℕ) (fresh : ℕ) (es : List Entry) → Ready h card bs fresh → fresh ≤ h.n → Ready h (into h fresh es card) bs (fresh + 1)
ready-into h card bs fresh es rd most =
    let sh = rd.shape in
    let one = rd.least in
    record {
      shape = into-shape h card sh fresh one most es;
      reads = into-reads h card sh fresh one most es bs rd.below rd.reads;
      below = below_more fresh (fresh + 1) bs (omega arith) rd.below;
      least = omega arith;
      free = λ c p q. into-free h card sh fresh one most es c (omega arith) (λ (e : c ≡ fresh). omega arith) ∙ rd.free c (omega arith) q;
      logs = (rd.logs.0, into-log h card sh fresh one most es ∙ rd.logs.1);
    }

pub ready-own : (h : Head) (card bs : List ℕ) (fresh td : ℕ) (es : List Entry) → Ready h card bs fresh → fresh + need_of td es ≤ h.n + 1
    → Ready h (own_card h td fresh es card) bs (fresh + need_of td es)
unfolding own_card
ready-own h card bs fresh td es rd cap =
    let cut = length es - length es / 2 in
    let one : fresh + 1 ≤ h.n + 1 → Ready h (into h fresh es card) bs (fresh + 1) = λ k. ready-into h card bs fresh es rd (omega arith) in
    let two : fresh + 2 ≤ h.n + 1 → Ready h (into h (fresh + 1) (drop cut es) (into h fresh (take cut es) card)) bs (fresh + 2) = λ k.
    let r = ready-into h (into h fresh (take cut es) card) bs (fresh + 1) (drop cut es) (ready-into h card bs fresh (take cut es) rd (omega arith)) (omega arith) in
    subst (λ (f : ℕ). Ready h (into h (fresh + 1) (drop cut es) (into h fresh (take cut es) card)) bs f) (let z : fresh + 1 + 1 ≡ fresh + 2 = omega arith in z) r in
    ⊎_elim (λ (t : ltb (length es) td ≡ true). rw t (one (rw t at cap))) (λ (t : ltb (length es) td ≡ false). rw t (two (rw t at cap)))
    (bool_cases (ltb (length es) td))

-- a second pair, and so two
pub two-sent : (p : Sent) → is_some p.high ≡ true → length (sent_list p) ≡ 2
two-sent p t = go p.high t
  where
    go : (high : Option Entry) → is_some high ≡ true → length (p.low ∷ if_any high) ≡ 2
    go None t = absurd (false-true t)
    go (Some d) t = omega arith

-- above the root: two pairs under a further bucket, or the one bucket itself
module _ (h : Head) (s : ℕ) (p : Sent) (fresh : ℕ) (card : List ℕ) where
  pub root-two : is_some p.high ≡ true
      → topped h s (risen (sent_list p) fresh card)
      ≡ risen [] (fresh + 1) (fill (into h fresh (sent_list p) card) (log_blanks h (into h fresh (sent_list p) card)) (root_entry s fresh ∷ []))
  unfolding topped rooted logged one_bucket
  root-two t = go p.high refl t
    where
      go : (high : Option Entry) → p.high ≡ high → is_some high ≡ true
          → topped h s (risen (sent_list p) fresh card)
          ≡ risen [] (fresh + 1) (fill (into h fresh (sent_list p) card) (log_blanks h (into h fresh (sent_list p) card)) (root_entry s fresh ∷ []))
      go None q t = absurd (false-true t)
      go (Some d) q t = rw q

  pub root-one : is_some p.high ≡ false → topped h s (risen (sent_list p) fresh card) ≡ risen [] fresh (fill card (log_blanks h card) (root_entry s p.low.value ∷ []))
  unfolding topped rooted logged
  root-one t = go p.high refl t
    where
      go : (high : Option Entry) → p.high ≡ high → is_some high ≡ false
          → topped h s (risen (sent_list p) fresh card) ≡ risen [] fresh (fill card (log_blanks h card) (root_entry s p.low.value ∷ []))
      go None q t = rw q
      go (Some d) q t = absurd (true-false t)
