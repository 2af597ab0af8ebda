-- On any card with a head: when a level of a write has its turn, its bucket is as the walk met it, buckets not yet taken are blank, and head and log are as met.
use mathlib.Core.Path.{◌∙◌, ◌≡◌, ap, refl, sym, subst}
use mathlib.Core.Bool.{false, true}
use Rattle.std.specs.Prelude.{Some}
use Prim.Native.Nat.{◌+◌, ◌-◌, ◌/◌, ◌<◌, ◌≤◌, suc, zero, ℕ}
use native.Mathlib.Omega.{arith}
use mathlib.Core.List.{List, [], ◌++◌, ◌∷◌, append_assoc}
use lib.ListN.{drop, length, take}
use lib.Dec.{leb, ltb}
use Rattle.rules.specs.declared.Entry.{Entry}
use Rattle.rules.specs.declared.Head.{Head}
use Rattle.rules.specs.Bucket.{blanks_of, bucket, sound_bucket}
use Rattle.rules.specs.Layout.{base, head_of, size_of}
use Rattle.rules.specs.Plain.{and_then, if}
use Rattle.rules.specs.Rewrite.{Rise, into, kept, key_of, limit_of, one_bucket, renew, two_buckets}
use Rattle.rules.specs.Sector.{sector_at}
use Rattle.rules.specs.Walk.{Visit, walk}
use Rattle.rules.specs.Write.{climb, place, place_if, top_used}
use Rattle.laws.proofs.Run.{Agree, blanks-agree, run_agree}
use Rattle.laws.proofs.Buckets.{bucket-raw, bucket-within, Clear, buckets-clear, front-clear}
use Rattle.laws.proofs.Fresh.{climb-mono, place_if-fresh}
use Rattle.laws.proofs.Heads.{head-facts}
use Rattle.laws.proofs.Into.{block_size, block-agree}
use Rattle.laws.proofs.Paths.{Along, Apart, along-map, walk-once, walk-reads}
use Rattle.laws.proofs.Used.{used-top}

-- the k sectors from i are as on the card met, where no bucket that is written has any of them
module _ (h : Head) (s : ℕ) (met : List ℕ) (i k : ℕ) where
  abbrev Same : List ℕ → Type 0
  Same card = (size_of h ≡ length card) × Agree card met i k

  -- the fresh buckets from f up to g
  abbrev AllClear : ℕ → ℕ → Type 0
  AllClear f g = (b : ℕ) → f ≤ b → b < g → Clear h i k b

  into-same : (card : List ℕ) (b : ℕ) → 1 ≤ b → b ≤ h.n → Clear h i k b → (es : List Entry) → Same card → Same (into h b es card)
  into-same card b lo hi cl es sm =
      (block_size h card sm.0 b lo hi es, λ j p q. block-agree h card sm.0 b lo hi es i k cl j p q ∙ sm.1 j p q)

  one_same : (ks : List Entry) (r : Rise) → 1 ≤ r.fresh → AllClear r.fresh (one_bucket h s ks r).fresh → (one_bucket h s ks r).fresh ≤ h.n + 1
      → Same r.card → Same (one_bucket h s ks r).card
  unfolding one_bucket
  one_same ks r lo cl cap sm = into-same r.card r.fresh lo (omega arith) (cl r.fresh (omega arith) (omega arith)) ks sm

  two-same : (ls bs : List Entry) (r : Rise) → 1 ≤ r.fresh → AllClear r.fresh (two_buckets h s ls bs r).fresh
      → (two_buckets h s ls bs r).fresh ≤ h.n + 1 → Same r.card → Same (two_buckets h s ls bs r).card
  unfolding two_buckets
  two-same ls bs r lo cl cap sm =
      into-same (into h r.fresh ls r.card) (r.fresh + 1) (omega arith) (omega arith) (cl (r.fresh + 1) (omega arith) (omega arith)) bs
      (into-same r.card r.fresh lo (omega arith) (cl r.fresh (omega arith) (omega arith)) ls sm)

  -- a step from the rise r to the rise to
  abbrev Steps : Rise → Rise → Type 0
  Steps r to = 1 ≤ r.fresh → AllClear r.fresh to.fresh → to.fresh ≤ h.n + 1 → Same r.card → Same to.card

  renew-same : (td : ℕ) (ks : List Entry) (r : Rise) → Steps r (renew h s td ks r)
  unfolding renew
  renew-same td ks r =
      let j = length ks - length ks / 2 in
      elim (ltb (length ks) td) as (λ b. Steps r (if b (one_bucket h s ks r) (two_buckets h s (take j ks) (drop j ks) r)))
      [ true ↦ one_same ks r | false ↦ two-same (take j ks) (drop j ks) r ]

  -- a bucket of the path
  abbrev Aside : Visit → Type 0
  Aside v = (1 ≤ v.number) × (v.number ≤ h.n) × Clear h i k v.number

  place_same : (v : Visit) (r : Rise) → Aside v → Steps r (place h s v r)
  unfolding place
  place_same v r o =
      let ks = kept (key_of v.entries) s (v.entries ++ r.hand) in
      let room : Rise = record { hand = []; fresh = r.fresh; card = into h v.number r.hand r.card } in
      elim (leb (length r.hand) (length (blanks_of h r.card v.number))) as (λ b. Steps r (if b room (renew h s (limit_of h v.entries) ks r))) [
        | true ↦ λ lo cl cap sm. into-same r.card v.number o.0 o.1 o.2 r.hand sm
        | false ↦ renew-same (limit_of h v.entries) ks r
      ]

  place_if-same : (v : Visit) (es : List Entry) (r : Rise) → Aside v → Steps r (place_if h s v es r)
  unfolding place_if
  place_if-same v [] r o lo cl cap sm = sm
  place_if-same v (e ∷ es) r o lo cl cap sm = place_same v r o lo cl cap sm

  climb-same : (p : List Visit) (r : Rise) → Along Aside p → Steps r (climb h s p r)
  unfolding climb
  climb-same [] r o lo cl cap sm = sm
  climb-same (v ∷ p) r o lo cl cap sm =
      let below = climb h s p r in
      let up = climb-mono h s p r in
      let on = place_if-fresh h s v below.hand below in
      place_if-same v below.hand below o.0 (omega arith) (λ b f g. cl b (omega arith) g) cap
      (climb-same p r o.1 lo (λ b f g. cl b f (omega arith)) (omega arith) sm)

-- the lower part of a path
pub along-right : (P : Visit → Type 0) (us p : List Visit) → Along P (us ++ p) → Along P p
along-right P [] p a = a
along-right P (u ∷ us) p a = along-right P us p a.1

apart-right : (us p : List Visit) → Apart (us ++ p) → Apart p
apart-right [] p a = a
apart-right (u ∷ us) p a = apart-right us p a.1

along-both : (P Q : Visit → Type 0) (p : List Visit) → Along P p → Along Q p → Along (λ v. P v × Q v) p
along-both P Q [] a b = tt
along-both P Q (v ∷ p) a b = ((a.0, b.0), along-both P Q p a.1 b.1)

bucket-agree : (h : Head) (a b : List ℕ) (c : ℕ) → Agree a b (base h c) h.m → bucket h a c ≡ bucket h b c
unfolding bucket
bucket-agree h a b zero ag = refl
bucket-agree h a b (suc c) ag = ap (λ z. and_then z sound_bucket) (run_agree h.n a b (base h (suc c)) h.m ag)

blanks-same : (h : Head) (a b : List ℕ) (c : ℕ) → Agree a b (base h c) h.m → blanks_of h a c ≡ blanks_of h b c
unfolding blanks_of
blanks-same h a b c ag = blanks-agree a b (base h c) h.m ag

-- a write along the lower part q of a path, on the card that it meets
module _ (h : Head) (card : List ℕ) (hq : head_of card ≡ Some h) (t x : ℕ) (us q : List Visit) (w : walk h card t x ≡ Some (us ++ q)) (s : ℕ) (es : List Entry) where
  abbrev start : Rise
  start = record { hand = es; fresh = top_used h card h.n + 1; card = card }

  abbrev done : Rise
  done = climb h s q start

  abbrev Reads : Visit → Type 0
  Reads v = bucket h card v.number ≡ Some v.entries

  size : size_of h ≡ length card
  size = (head-facts card h hq).1

  reads : Along Reads q
  reads = along-right Reads us q (walk-reads h card t x (us ++ q) w)

  -- sectors that lie apart from the buckets of q and from the fresh ones are as met
  agrees : (i k : ℕ) → Along (λ v. Clear h i k v.number) q → ((b : ℕ) → top_used h card h.n < b → b < done.fresh → Clear h i k b)
      → done.fresh ≤ h.n + 1 → (size_of h ≡ length done.card) × Agree done.card card i k
  agrees i k below new cap =
      climb-same h s card i k q start
      (along-map (λ v. Reads v × Clear h i k v.number) (λ v. (1 ≤ v.number) × (v.number ≤ h.n) × Clear h i k v.number)
      (λ v z. ((bucket-raw h card v.number v.entries z.0).0, bucket-within h card v.number v.entries size z.0, z.1)) q
      (along-both Reads (λ v. Clear h i k v.number) q reads below))
      (omega arith) (λ b f g. new b (omega arith) g) cap (size, λ j p z. refl)

  -- those of a bucket c that is none of these
  other : (c : ℕ) → 1 ≤ c → Along (λ v. c ≡ v.number → ⊥) q → ((b : ℕ) → top_used h card h.n < b → b < done.fresh → c ≡ b → ⊥)
      → done.fresh ≤ h.n + 1 → (size_of h ≡ length done.card) × Agree done.card card (base h c) h.m
  other c lc below new =
      agrees (base h c) h.m
      (along-map (λ v. Reads v × (c ≡ v.number → ⊥)) (λ v. Clear h (base h c) h.m v.number)
      (λ v z. buckets-clear h c v.number lc (bucket-raw h card v.number v.entries z.0).0 z.1) q
      (along-both Reads (λ v. c ≡ v.number → ⊥) q reads below))
      (λ b f g. buckets-clear h c b lc (omega arith) (new b f g))

  -- the head and the log are as met
  pub front-met : done.fresh ≤ h.n + 1 → (j : ℕ) → j < 1 + h.n → sector_at done.card j ≡ sector_at card j
  front-met cap j lt =
      (agrees 0 (1 + h.n) (along-map Reads (λ v. Clear h 0 (1 + h.n) v.number) (λ v z. front-clear h v.number) q reads) (λ b f g. front-clear h b) cap).1 j (omega arith) (omega arith)

-- what is known of the bucket of v when its turn comes
pub record AsMet (h : Head) (card now : List ℕ) (v : Visit) : Type 0 where
  pub size : size_of h ≡ length now
  pub sectors : (j : ℕ) → base h v.number ≤ j → j < base h v.number + h.m → sector_at now j ≡ sector_at card j
  pub blanks : blanks_of h now v.number ≡ blanks_of h card v.number
  pub reads : bucket h now v.number ≡ Some v.entries

-- v is a bucket on the path to x, q those below it: after the levels below, the bucket of v is as the walk found it
pub as-met : (h : Head) (card : List ℕ) → head_of card ≡ Some h → (t x : ℕ) (us : List Visit) (v : Visit) (q : List Visit)
    → walk h card t x ≡ Some (us ++ (v ∷ q))
    → (s : ℕ) (es : List Entry) → (climb h s q (record { hand = es; fresh = top_used h card h.n + 1; card = card })).fresh ≤ h.n + 1
    → AsMet h card (climb h s q (record { hand = es; fresh = top_used h card h.n + 1; card = card })).card v
as-met h card hq t x us v q w s es cap =
    let size = (head-facts card h hq).1 in
    let Reads : Visit → Type 0 = λ z. bucket h card z.number ≡ Some z.entries in
    let here = (along-right Reads us (v ∷ q) (walk-reads h card t x (us ++ (v ∷ q)) w)).0 in
    let away = (apart-right us (v ∷ q) (walk-once h card t x (us ++ (v ∷ q)) w)).0 in
    let top = used-top h card v.number v.entries size here in
    let lower = subst (λ p. walk h card t x ≡ Some p) (sym (append_assoc us (v ∷ []) q)) w in
    let a = other h card hq t x (us ++ (v ∷ [])) q lower s es v.number (bucket-raw h card v.number v.entries here).0 away (λ b f g e. omega arith) cap in
    let now = (climb h s q (record { hand = es; fresh = top_used h card h.n + 1; card = card })).card in
    record {
      size = a.0;
      sectors = a.1;
      blanks = blanks-same h now card v.number a.1;
      reads = bucket-agree h now card v.number a.1 ∙ here;
    }
