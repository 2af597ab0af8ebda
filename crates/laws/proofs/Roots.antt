-- The bucket that a write's walk starts from, and which it is after an accepted write, on any card with a head.
use mathlib.Core.Path.{◌∙◌, ◌≡◌, ap, refl, sym, subst}
use mathlib.Core.Bool.{true, false}
use Rattle.std.specs.Prelude.{Option, None, Some}
use Prim.Native.Nat.{◌+◌, ◌-◌, ◌/◌, ◌<◌, ◌≤◌, ℕ}
use native.Mathlib.Omega.{arith}
use mathlib.Core.List.{List, [], ◌++◌, ◌∷◌}
use lib.ListN.{drop, length, take}
use lib.Dec.{leb, ltb, eqb}
use borrow.Author.Tests.{eqb-false, le-leb}
use Rattle.rules.specs.declared.Entry.{Entry}
use Rattle.rules.specs.declared.Head.{Head}
use Rattle.rules.specs.Bucket.{blanks_of, log, log_blanks}
use Rattle.rules.specs.Layout.{head_of, size_of}
use Rattle.rules.specs.Plain.{and_then, if, last_of, only}
use Rattle.rules.specs.Rewrite.{Rise, fill, into, kept, key_of, limit_of, one_bucket, pair, renew, two_buckets}
use Rattle.rules.specs.Sector.{is_root, root_entry}
use Rattle.rules.specs.Walk.{Visit, left, walk}
use Rattle.rules.specs.Write.{accept, climb, finish, latest, log_full, logged, place, place_if, plan_on, rooted, top_used}
use Rattle.laws.proofs.Lists.{last_snoc, only-append}
use Rattle.laws.proofs.Entries.{Fine, root-fine}
use Rattle.laws.proofs.Bytes.{Bytes}
use Rattle.laws.proofs.Heads.{head-facts}
use Rattle.laws.proofs.Into.{block-front, block_size}
use Rattle.laws.proofs.Logs.{log-blanks-same, log-grows, log-same}
use Rattle.laws.proofs.Fresh.{climb-mono, fresh_after, rooted-fresh}
use Rattle.laws.proofs.Paths.{walk-log, walk-some}
use Rattle.laws.proofs.Plans.{checked-inv}
use Rattle.laws.proofs.AsMet.{front-met}
use Rattle.laws.proofs.Carries.{climb-next}

unfoldable pub value_of : Option Entry → ℕ
value_of None = 0
value_of (Some e) = e.value

-- the bucket of the log's last root entry; 0 where the log is damaged
unfoldable pub root_now : Head → List ℕ → ℕ
root_now h card = value_of (and_then (log h card) (λ es. last_of (left latest es)))

is-root : (s b : ℕ) → is_root (root_entry s b) ≡ true
unfolding is_root
is-root s b = refl

-- a root entry behind the others is the last, whatever their stamps
last-left : (lg : List Entry) (e : Entry) → e.stamp < 4294967296 → last_of (left latest (lg ++ (e ∷ []))) ≡ Some e
unfolding left only
last-left lg e lt =
    rw (only-append (λ d. leb d.stamp latest) lg (e ∷ []), le-leb e.stamp latest (omega arith)) (last_snoc (only (λ d. leb d.stamp latest) lg) e)

root-logged : (h : Head) (card : List ℕ) (lg : List Entry) (s b : ℕ) → h.n ≤ 4096 → size_of h ≡ length card → log h card ≡ Some lg
    → 1 ≤ length (log_blanks h card) → s < 4294967296 → 1 ≤ b → b ≤ h.n
    → root_now h (fill card (log_blanks h card) (root_entry s b ∷ [])) ≡ b
unfolding root_now value_of
root-logged h card lg s b n4 size q room lt lo hi =
    rw (log-grows h card lg (root_entry s b) size q room (root-fine h.n s b lt lo hi n4) (is-root s b), last-left lg (root_entry s b) lt)

-- one pair in hand is that of the last fresh bucket taken
first_value : List Entry → ℕ
first_value [] = 0
first_value (e ∷ es) = e.value

module _ (h : Head) (s : ℕ) (e : Entry) where
  abbrev Last : ℕ → Rise → Type 0
  Last f r = r.hand ≡ e ∷ [] → (f ≤ e.value) × (e.value + 1 ≡ r.fresh)

  renew-last : (td : ℕ) (ks : List Entry) (r : Rise) → Last r.fresh (renew h s td ks r)
  unfolding renew one_bucket two_buckets pair first_value
  renew-last td ks r =
      let j = length ks - length ks / 2 in
      elim (ltb (length ks) td) as (λ b. Last r.fresh (if b (one_bucket h s ks r) (two_buckets h s (take j ks) (drop j ks) r))) [
        | true ↦ λ q. (let v : r.fresh ≡ e.value = ap first_value q in (omega arith, omega arith))
        | false ↦ λ q. absurd (let z = ap length q in omega arith)
      ]

  place_if-last : (v : Visit) (es : List Entry) (r : Rise) → r.hand ≡ es → Last r.fresh (place_if h s v es r)
  unfolding place_if place
  place_if-last v [] r is = λ q. absurd (let z = ap length (sym is ∙ q) in omega arith)
  place_if-last v (d ∷ es) r is =
      let ks = kept (key_of v.entries) s (v.entries ++ r.hand) in
      let room : Rise = record { hand = []; fresh = r.fresh; card = into h v.number r.hand r.card } in
      elim (leb (length r.hand) (length (blanks_of h r.card v.number))) as (λ b. Last r.fresh (if b room (renew h s (limit_of h v.entries) ks r))) [
        | true ↦ λ q. absurd (let z = ap length q in omega arith)
        | false ↦ renew-last (limit_of h v.entries) ks r
      ]

  climb-last : (v : Visit) (p : List Visit) (r : Rise) → Last r.fresh (climb h s (v ∷ p) r)
  unfolding climb
  climb-last v p r q =
      let below = climb h s p r in
      let up = climb-mono h s p r in
      let l = place_if-last v below.hand below refl q in
      (omega (arith, l.0), l.1)

-- a write of e on any card with a head whose elements are bytes
module _ (h : Head) (card : List ℕ) (hq : head_of card ≡ Some h) (by : Bytes card) (e : Entry) (fine : Fine h.n e) (p : List Visit) (w : walk h card latest e.key ≡ Some p)
    (new : List ℕ) (q : plan_on h card e p ≡ accept new) where
  abbrev s : ℕ
  s = e.stamp

  abbrev up : Rise
  up = climb h s p (record { hand = e ∷ []; fresh = top_used h card h.n + 1; card = card })

  abbrev done : Rise
  done = rooted h s up.hand up

  ends : (done.fresh ≤ h.n + 1) × (log_full h up.card up.hand ≡ false) × (done.card ≡ new)
  unfolding plan_on finish
  ends = checked-inv h (log_full h up.card up.hand) done new q

  within : up.fresh ≤ h.n + 1
  within = let rf = rooted-fresh h s up.hand up in let cap = ends.0 in omega arith

  size : size_of h ≡ length up.card
  size = (climb-next h card hq by e fine e.key [] p w within).0.size

  logs : (lg : List Entry) × (log h up.card ≡ Some lg)
  logs =
      let l = walk-log h card latest e.key p w in
      (l.0, log-same h card up.card (front-met h card hq latest e.key [] p w s (e ∷ []) within) ∙ l.1)

  n4 : h.n ≤ 4096
  n4 = (head-facts card h hq).0.n4096

  room : (d : Entry) (es : List Entry) → up.hand ≡ d ∷ es → 1 ≤ length (log_blanks h up.card)
  unfolding log_full
  room d es is =
      let full : eqb (length (log_blanks h up.card)) 0 ≡ false = rw is at ends.1 in
      let ne = eqb-false (length (log_blanks h up.card)) 0 full in
      one_left (length (log_blanks h up.card)) ne
    where
      one_left : (n : ℕ) → (n ≡ 0 → ⊥) → 1 ≤ n
      one_left n ne = omega (arith, ne)

  path-there : (p ≡ [] → ⊥)
  path-there z = walk-some h card latest e.key (w ∙ ap Some z)

  -- the only pair in hand, where the root itself was rewritten to one bucket
  alone : (d : Entry) → up.hand ≡ d ∷ [] → (top_used h card h.n + 1 ≤ d.value) × (d.value + 1 ≡ up.fresh)
  alone d is = go p path-there is
    where
      go : (p : List Visit) → (p ≡ [] → ⊥) → (climb h s p (record { hand = e ∷ []; fresh = top_used h card h.n + 1; card = card })).hand ≡ d ∷ []
          → (top_used h card h.n + 1 ≤ d.value) × (d.value + 1 ≡ (climb h s p (record { hand = e ∷ []; fresh = top_used h card h.n + 1; card = card })).fresh)
      go [] ne is = absurd (ne refl)
      go (v ∷ p) ne is = climb-last h s d v p (record { hand = e ∷ []; fresh = top_used h card h.n + 1; card = card }) is

  -- no pair is left: the root is the one before; else it is the last bucket taken
  abbrev Roots : List Entry → Rise → Type 0
  Roots [] r = root_now h r.card ≡ root_now h card
  Roots (d ∷ es) r = root_now h r.card + 1 ≡ r.fresh

  rooted-roots : (top : List Entry) → up.hand ≡ top → (rooted h s top up).fresh ≤ h.n + 1 → Roots top (rooted h s top up)
  unfolding rooted logged one_bucket root_now
  rooted-roots [] is cap = ap (λ (l : Option (List Entry)). value_of (and_then l (λ es. last_of (left latest es)))) (log-same h card up.card (front-met h card hq latest e.key [] p w s (e ∷ []) within))
  rooted-roots (d ∷ []) is cap =
      let a = alone d is in
      let is-new = root-logged h up.card logs.0 s d.value n4 size logs.1 (room d [] is) fine.0.stamp (omega (arith, a.0)) (omega (arith, a.1, cap)) in
      omega (arith, a.1, is-new)
  rooted-roots (d ∷ c ∷ es) is cap =
      let f = up.fresh in
      let low = climb-mono h s p (record { hand = e ∷ []; fresh = top_used h card h.n + 1; card = card }) in
      let taken = into h f (d ∷ c ∷ es) up.card in
      let front = block-front h up.card size f (omega arith) (omega arith) (d ∷ c ∷ es) in
      let long = block_size h up.card size f (omega arith) (omega arith) (d ∷ c ∷ es) in
      let left_over = subst (λ (l : List ℕ). 1 ≤ length l) (sym (log-blanks-same h up.card taken front)) (room d (c ∷ es) is) in
      let is-new = root-logged h taken logs.0 s f n4 long (log-same h up.card taken front ∙ logs.1) left_over fine.0.stamp (omega arith) (omega arith) in
      omega (arith, is-new)

  pub root-stays : up.hand ≡ [] → root_now h new ≡ root_now h card
  root-stays is =
      let r : Roots up.hand done = rooted-roots up.hand refl ends.0 in
      subst (λ (c : List ℕ). root_now h c ≡ root_now h card) ends.2 (subst (λ (top : List Entry). Roots top done) is r)

  pub root-moves : (d : Entry) (es : List Entry) → up.hand ≡ d ∷ es → root_now h new + 1 ≡ fresh_after h card e p
  unfolding fresh_after
  root-moves d es is =
      let r : Roots up.hand done = rooted-roots up.hand refl ends.0 in
      let t = subst (λ (top : List Entry). Roots top done) is r in
      subst (λ (c : List ℕ). root_now h c + 1 ≡ done.fresh) ends.2 t
