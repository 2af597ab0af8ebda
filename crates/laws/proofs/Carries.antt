-- After an accepted write, on any card with a head: the largest stamp is the entry's, and the highest bucket used is the one before the next fresh.
use mathlib.Core.Path.{◌∙◌, ◌≡◌, ap, ap₂, refl, sym, subst}
use mathlib.Core.Logic.{◌⊎◌, inl, inr, ⊎_elim}
use mathlib.Core.Bool.{Bool, false, not, true}
use Rattle.std.specs.Prelude.{Some}
use Prim.Native.Nat.{◌*◌, ◌+◌, ◌-◌, ◌/◌, ◌<◌, ◌≤◌, suc, zero, ℕ}
use native.Mathlib.Omega.{arith}
use mathlib.Core.List.{List, [], ◌++◌, ◌∷◌, append_assoc}
use lib.ListN.{drop, length, take, length-append, length-take, length-drop, take-append-drop}
use lib.Dec.{leb, ltb, eqb}
use borrow.Author.Tests.{eq-eqb, leb-true, ltb-true, ltb-false}
use Rattle.rules.specs.declared.Entry.{Entry}
use Rattle.rules.specs.declared.Head.{Head}
use Rattle.rules.specs.Bucket.{blanks, blanks_of, bucket, log_blanks, unwritten, sound_bucket}
use Rattle.rules.specs.Layout.{base, beginning, head_of, size_of}
use Rattle.rules.specs.Plain.{◌&◌, ◌or◌, if, zeros}
use Rattle.rules.specs.Rewrite.{Rise, fill, into, kept, key_of, last_copies, limit_of, one_bucket, pair, renew, two_buckets}
use Rattle.rules.specs.Sector.{is_index, root_entry, sector_at, word}
use Rattle.rules.specs.Walk.{Visit, walk}
use Rattle.rules.specs.Write.{accept, climb, finish, latest, log_full, logged, place, place_if, plan, plan_on, rooted, stamp_on, top_used}
use Rattle.laws.proofs.Tools.{bool_cases, eq-or-ne, none-some}
use Rattle.laws.proofs.Lists.{All, all_append, all_left, all_map, all_right, copy-all, copy-snoc-same}
use Rattle.laws.proofs.Mems.{Mem, mem-all, all-mem, mem-right, mem-parts, mem-only}
use Rattle.laws.proofs.Run.{Agree, run_agree}
use Rattle.laws.proofs.Entries.{Fine, Good, Asks, asks-fine, pair-fine}
use Rattle.laws.proofs.Buckets.{bucket-in, bucket-raw, bucket-within, bucket-length, buckets-clear, raw}
use Rattle.laws.proofs.Blocks.{Each, Lies, blank-room, blanks-each, fill-other, length-fill}
use Rattle.laws.proofs.Bytes.{Bytes, bytes-fill, fits-fill, run-good}
use Rattle.laws.proofs.Copies.{copies-says}
use Rattle.laws.proofs.Halves.{kept-all, kept-length}
use Rattle.laws.proofs.Heads.{Lim, head-facts, head-same, head-written}
use Rattle.laws.proofs.Into.{block-agree, block-else, block-raw, block_size}
use Rattle.laws.proofs.Fresh.{fresh_after, place_if-fresh, rooted-fresh}
use Rattle.laws.proofs.Paths.{walk-reads, walk-some}
use Rattle.laws.proofs.Plans.{checked-inv, plan-inv, plan-walk}
use Rattle.laws.proofs.AsMet.{along-right, as-met}
use Rattle.laws.proofs.Stamps.{run-stamps, top-ge}
use Rattle.laws.proofs.Used.{run-blank, top-blank, top-raw, unwritten-each}
use Rattle.laws.proofs.Writes.{call-puts, top-after}
use Rattle.laws.proofs.Puts.{Changed, chain-size, puts-sector}

unwritten-agree : (a b : List ℕ) (i c : ℕ) → Agree a b i c → unwritten a i c ≡ unwritten b i c
unfolding unwritten
unwritten-agree a b i zero h = refl
unwritten-agree a b i (suc c) h =
    ap₂ (λ (s : List ℕ) (r : Bool). zeros s & r) (h i (omega arith) (omega arith)) (unwritten-agree a b (suc i) c (λ j p q. h j (omega arith) (omega arith)))

-- a bucket in which an entry is read is written
cons-none : (x : Entry) (xs : List Entry) → Some [] ≡ Some (x ∷ xs) → ⊥
cons-none x xs q = let z : ◌≡◌ {A = ℕ} 0 1 = cc in omega arith

raw-written : (h : Head) (card : List ℕ) (c : ℕ) (es : List Entry) → raw h card c ≡ Some es → 1 ≤ length es → unwritten card (base h c) h.m ≡ false
raw-written h card c [] q l = absurd (omega arith)
raw-written h card c (x ∷ xs) q l =
    ⊎_elim
    (λ (u : unwritten card (base h c) h.m ≡ true).
    absurd (cons-none x xs (sym (run-blank h.n card (base h c) h.m (λ j a b. unwritten-each card (base h c) h.m j u a b)) ∙ q)))
    (λ (u : unwritten card (base h c) h.m ≡ false). u)
    (bool_cases (unwritten card (base h c) h.m))

-- the highest bucket used, as the buckets say
used-agree : (h : Head) (a b : List ℕ) (n : ℕ) → ((c : ℕ) → 1 ≤ c → c ≤ n → unwritten a (base h c) h.m ≡ unwritten b (base h c) h.m) → top_used h a n ≡ top_used h b n
unfolding top_used
used-agree h a b zero f = refl
used-agree h a b (suc n) f =
    ap₂ (λ (t : Bool) (r : ℕ). elim t as (λ x. ℕ) [ true ↦ r | false ↦ suc n ]) (f (suc n) (omega arith) (omega arith)) (used-agree h a b n (λ c p q. f c p (omega arith)))

used_step : (h : Head) (card : List ℕ) (n : ℕ) (t : Bool) → unwritten card (base h (suc n)) h.m ≡ t
    → top_used h card (suc n) ≡ elim t as (λ x. ℕ) [ true ↦ top_used h card n | false ↦ suc n ]
unfolding top_used
used_step h card n t u = ap (λ (x : Bool). elim x as (λ y. ℕ) [ true ↦ top_used h card n | false ↦ suc n ]) u

used-at : (h : Head) (card : List ℕ) (f n : ℕ) → 1 ≤ f → f ≤ n → unwritten card (base h f) h.m ≡ false
    → ((c : ℕ) → f < c → c ≤ n → unwritten card (base h c) h.m ≡ true) → top_used h card n ≡ f
used-at h card f zero lo le u a = absurd (omega arith)
used-at h card f (suc n) lo le u a =
    ⊎_elim
    (λ (q : f ≡ suc n). used_step h card n false (ap (λ (c : ℕ). unwritten card (base h c) h.m) (sym q) ∙ u) ∙ sym q)
    (λ (ne : f ≡ suc n → ⊥).
    used_step h card n true (a (suc n) (omega arith) (omega arith)) ∙ used-at h card f n lo (omega arith) u (λ c p q. a c p (omega arith)))
    (eq-or-ne f (suc n))

-- the entry that came last is kept, whatever its kind, for its stamp is the call's
or-last : (a b : Bool) → a or b or true ≡ true
or-last true b = refl
or-last false true = refl
or-last false false = refl

abbrev Marked : ℕ → List Entry → Type 0
Marked s cs = (d : Entry) × Mem d cs × (d.stamp ≡ s)

kept-last : (hk s : ℕ) (es : List Entry) (p : Entry) → p.stamp ≡ s → Marked s (kept hk s (es ++ (p ∷ [])))
unfolding kept
kept-last hk s es p ps =
    let xs = es ++ (p ∷ []) in
    let here : Mem p (last_copies xs) = copy-all (λ e. Mem e (last_copies xs)) p.key (last_copies xs) p (all-mem (λ e. Mem e (last_copies xs)) (last_copies xs) (λ d m. m))
    ((copies-says xs).copies p.key ∙ copy-snoc-same p.key es p refl) in
    (p, mem-only (λ e. not (eqb e.kind 2) or eqb e.key hk or eqb e.stamp s) p (last_copies xs) here (rw (eq-eqb p.stamp s ps) (or-last (not (eqb p.kind 2)) (eqb p.key hk))), ps)

kept-marked : (hk s : ℕ) (es hand : List Entry) → All (λ d. d.stamp ≡ s) hand → 1 ≤ length hand → length hand ≤ 2 → Marked s (kept hk s (es ++ hand))
kept-marked hk s es [] a lo hi = absurd (omega arith)
kept-marked hk s es (p ∷ []) a lo hi = kept-last hk s es p a.0
kept-marked hk s es (p ∷ q ∷ []) a lo hi = subst (λ (l : List Entry). Marked s (kept hk s l)) (append_assoc es (p ∷ []) (q ∷ [])) (kept-last hk s (es ++ (p ∷ [])) q a.1.0)
kept-marked hk s es (p ∷ q ∷ x ∷ r) a lo hi = absurd (omega arith)

mem-some : (d : Entry) (es : List Entry) → Mem d es → 1 ≤ length es
mem-some d [] m = absurd m
mem-some d (e ∷ es) m = omega arith

module _ (h : Head) (lim : Lim h) (s : ℕ) (s32 : s < 4294967296) where
  abbrev Own : Entry → Type 0
  Own d = Fine h.n d × (d.stamp ≡ s)

  -- what holds between two levels of a write
  pub record Between (r : Rise) : Type 0 where
    pub size : size_of h ≡ length r.card
    pub bytes : Bytes r.card
    pub used : top_used h r.card h.n + 1 ≡ r.fresh
    pub hands : All Own r.hand
    pub few : length r.hand ≤ 2

  -- an entry with the call's stamp can be read in a bucket
  abbrev Has : List ℕ → Type 0
  Has card = (b : ℕ) × (1 ≤ b) × (b ≤ h.n) × ((cs : List Entry) × (raw h card b ≡ Some cs) × Marked s cs)

  abbrev Next : Rise → Type 0
  Next r = Between r × Has r.card

  module _ (card : List ℕ) (size : size_of h ≡ length card) where
    others : (b : ℕ) → 1 ≤ b → b ≤ h.n → (es : List Entry) → (c : ℕ) → 1 ≤ c → (c ≡ b → ⊥)
        → unwritten (into h b es card) (base h c) h.m ≡ unwritten card (base h c) h.m
    others b lo hi es c lc ne = unwritten-agree (into h b es card) card (base h c) h.m (block-agree h card size b lo hi es (base h c) h.m (buckets-clear h c b lc lo ne))

    -- a fresh bucket takes ks
    pub record Took (f : ℕ) (ks : List Entry) : Type 0 where
      pub long : size_of h ≡ length (into h f ks card)
      pub used : top_used h (into h f ks card) h.n ≡ f
      pub here : raw h (into h f ks card) f ≡ Some ks

    take-fresh : (f : ℕ) → top_used h card h.n + 1 ≡ f → f ≤ h.n → (ks : List Entry) → Good h.n ks → 1 ≤ length ks → length ks ≤ h.m → Took f ks
    unfolding blanks_of
    take-fresh f u fn ks good lo hi =
        let blank = top-raw h card f (omega arith) fn in
        let room = blank-room h.n card (base h f) h.m blank in
        let here = block-raw h card size f (omega arith) fn ks [] good (omega arith) blank in
        record {
          long = block_size h card size f (omega arith) fn ks;
          used = used-at h (into h f ks card) f h.n (omega arith) fn (raw-written h (into h f ks card) f ks here lo)
              (λ c p q. others f (omega arith) fn ks c (omega arith) (λ z. omega arith) ∙ top-blank h card h.n c (omega arith) q);
          here = here;
        }

    -- a bucket in use takes more
    used-old : (b : ℕ) → 1 ≤ b → b ≤ h.n → (es new : List Entry) → raw h card b ≡ Some es → 1 ≤ length es → raw h (into h b new card) b ≡ Some (es ++ new)
        → top_used h (into h b new card) h.n ≡ top_used h card h.n
    used-old b lo hi es new q l r =
        used-agree h (into h b new card) card h.n
        (λ c p z. ⊎_elim
        (λ (e : c ≡ b). ap (λ (k : ℕ). unwritten (into h b new card) (base h k) h.m) e
        ∙ raw-written h (into h b new card) b (es ++ new) r (let n = length-append es new in omega arith)
        ∙ sym (ap (λ (k : ℕ). unwritten card (base h k) h.m) e ∙ raw-written h card b es q l))
        (λ (ne : c ≡ b → ⊥). others b lo hi new c p ne)
        (eq-or-ne c b))

  into-bytes : (b : ℕ) (es : List Entry) (card : List ℕ) → Bytes card → Good h.n es → Bytes (into h b es card)
  unfolding into
  into-bytes b es card by good = bytes-fill h.n card (blanks_of h card b) es by good

  key-small : (ks : List Entry) → Good h.n ks → key_of ks < 4294967296
  unfolding key_of
  key-small [] g = omega arith
  key-small (e ∷ es) g = g.0.0.key

  pair-own : (b : ℕ) (ks : List Entry) → Good h.n ks → 1 ≤ b → b ≤ h.n → Own (pair s b ks)
  unfolding pair
  pair-own b ks g lo hi = (pair-fine h.n s b (key_of ks) ks refl (key-small ks g) s32 lo hi lim.n4096, refl)

  one-next : (ks : List Entry) (r : Rise) → Between r → Good h.n ks → Marked s ks → length ks ≤ h.m → (one_bucket h s ks r).fresh ≤ h.n + 1 → Next (one_bucket h s ks r)
  unfolding one_bucket
  one-next ks r bt good mk hi cap =
      let f = r.fresh in
      let u = bt.used in
      let t = take-fresh r.card bt.size f u (omega arith) ks good (mem-some mk.0 ks mk.1) hi in (
        record { size = t.long; bytes = into-bytes f ks r.card bt.bytes good; used = ap (λ (k : ℕ). k + 1) t.used; hands = (pair-own f ks good (omega arith) (omega arith), tt); few = omega arith },
        (f, omega arith, omega arith, (ks, t.here, mk)),
      )

  two-next : (ls bs : List Entry) (r : Rise) → Between r → Good h.n ls → Good h.n bs → Marked s (ls ++ bs) → 1 ≤ length ls → length ls ≤ h.m → 1 ≤ length bs → length bs ≤ h.m
      → (two_buckets h s ls bs r).fresh ≤ h.n + 1 → Next (two_buckets h s ls bs r)
  unfolding two_buckets
  two-next ls bs r bt gl gb mk l1 lm b1 bm cap =
      let f = r.fresh in
      let u = bt.used in
      let t = take-fresh r.card bt.size f u (omega arith) ls gl l1 lm in
      let card1 = into h f ls r.card in
      let w = take-fresh card1 t.long (f + 1) (ap (λ (k : ℕ). k + 1) t.used) (omega arith) bs gb b1 bm in
      let old : raw h (into h (f + 1) bs card1) f ≡ Some ls = block-else h card1 t.long (f + 1) (omega arith) (omega arith) bs f (omega arith) (λ z. omega arith) ∙ t.here in (
        record {
          size = w.long;
          bytes = into-bytes (f + 1) bs card1 (into-bytes f ls r.card bt.bytes gl) gb;
          used = ap (λ (k : ℕ). k + 1) w.used ∙ (let z : f + 1 + 1 ≡ f + 2 = omega arith in z);
          hands = (pair-own f ls gl (omega arith) (omega arith), (pair-own (f + 1) bs gb (omega arith) (omega arith), tt));
          few = omega arith;
        },
        ⊎_elim
            (λ (m : Mem mk.0 ls). (f, omega arith, omega arith, (ls, old, (mk.0, m, mk.2))))
            (λ (m : Mem mk.0 bs). (f + 1, omega arith, omega arith, (bs, w.here, (mk.0, m, mk.2))))
            (mem-parts mk.0 ls bs mk.1),
      )

  renew-next : (td : ℕ) (ks : List Entry) (r : Rise) → 2 ≤ td → td ≤ h.m → Between r → Good h.n ks → Marked s ks → length ks ≤ h.m + 2 → (renew h s td ks r).fresh ≤ h.n + 1
      → Next (renew h s td ks r)
  unfolding renew
  renew-next td ks r t2 tm bt good mk few =
      let j = length ks - length ks / 2 in
      let m4 = lim.m4 in
      let ab : Good h.n (take j ks ++ drop j ks) = subst (Good h.n) (sym (take-append-drop j ks)) good in
      let lt = length-take j ks in
      let ld = length-drop j ks in
      let go : (b : Bool) → ltb (length ks) td ≡ b → (if b (one_bucket h s ks r) (two_buckets h s (take j ks) (drop j ks) r)).fresh ≤ h.n + 1
      → Next (if b (one_bucket h s ks r) (two_buckets h s (take j ks) (drop j ks) r))
      = λ b. elim b as (λ b. ltb (length ks) td ≡ b → (if b (one_bucket h s ks r) (two_buckets h s (take j ks) (drop j ks) r)).fresh ≤ h.n + 1 → Next (if b (one_bucket h s ks r) (two_buckets h s (take j ks) (drop j ks) r))) [
        | true ↦ λ q. (let less = ltb-true (length ks) td q in one-next ks r bt good mk (omega arith))
        | false ↦ λ q. (let ge = ltb-false (length ks) td q in two-next (take j ks) (drop j ks) r bt (all_left (Fine h.n) (take j ks) (drop j ks) ab) (all_right (Fine h.n) (take j ks) (drop j ks) ab)
            (subst (Marked s) (sym (take-append-drop j ks)) mk) (omega arith) (omega arith) (omega arith) (omega arith))
      ] in
      go (ltb (length ks) td) refl

  limit-in : (es : List Entry) → (2 ≤ limit_of h es) × (limit_of h es ≤ h.m)
  unfolding limit_of
  limit-in [] = (lim.td2, lim.tdm)
  limit-in (x ∷ xs) =
      let t4 = lim.ti4 in
      elim (is_index x) as (λ i. (2 ≤ if i h.ti h.td) × (if i h.ti h.td ≤ h.m)) [ true ↦ (omega arith, lim.tim) | false ↦ (lim.td2, lim.tdm) ]

  sound-some : (es : List Entry) → sound_bucket es ≡ Some es → 1 ≤ length es
  unfolding sound_bucket
  sound-some [] q = absurd (none-some q)
  sound-some (e ∷ es) q = omega arith

  -- one level, its bucket being as the walk met it
  place-next : (v : Visit) (r : Rise) → Between r → 1 ≤ length r.hand → bucket h r.card v.number ≡ Some v.entries → Good h.n v.entries
      → (place h s v r).fresh ≤ h.n + 1 → Next (place h s v r)
  unfolding place
  place-next v r bt some-hand reads good =
      let br = bucket-raw h r.card v.number v.entries reads in
      let hi = bucket-within h r.card v.number v.entries bt.size reads in
      let own = all_map Own (Fine h.n) (λ d o. o.0) r.hand bt.hands in
      let stamps = all_map Own (λ d. d.stamp ≡ s) (λ d o. o.1) r.hand bt.hands in
      let ks = kept (key_of v.entries) s (v.entries ++ r.hand) in
      let new = into h v.number r.hand r.card in
      let room : Rise = record { hand = []; fresh = r.fresh; card = new } in
      let len = bucket-length h r.card v.number v.entries reads in
      let few = bt.few in
      let app = length-append v.entries r.hand in
      let kl = kept-length (key_of v.entries) s (v.entries ++ r.hand) in
      let lm = limit-in v.entries in
      let in-room : length r.hand ≤ length (blanks_of h r.card v.number) → Next room = λ fits.
      (let here = block-raw h r.card bt.size v.number br.0 hi r.hand v.entries own fits br.1 in (
        record {
          size = block_size h r.card bt.size v.number br.0 hi r.hand;
          bytes = into-bytes v.number r.hand r.card bt.bytes own;
          used = ap (λ (k : ℕ). k + 1) (used-old r.card bt.size v.number br.0 hi v.entries r.hand br.1 (sound-some v.entries br.2) here) ∙ bt.used;
          hands = tt;
          few = omega arith;
        },
        (v.number, br.0, hi, (v.entries ++ r.hand, here, first-marked v.entries r.hand stamps some-hand)),
      )) in
      let go : (b : Bool) → leb (length r.hand) (length (blanks_of h r.card v.number)) ≡ b → (if b room (renew h s (limit_of h v.entries) ks r)).fresh ≤ h.n + 1
      → Next (if b room (renew h s (limit_of h v.entries) ks r))
      = λ b. elim b as (λ b. leb (length r.hand) (length (blanks_of h r.card v.number)) ≡ b → (if b room (renew h s (limit_of h v.entries) ks r)).fresh ≤ h.n + 1 → Next (if b room (renew h s (limit_of h v.entries) ks r))) [
        | true ↦ λ q cap. in-room (leb-true (length r.hand) (length (blanks_of h r.card v.number)) q)
        | false ↦ λ q. renew-next (limit_of h v.entries) ks r lm.0 lm.1 bt (kept-all (Fine h.n) (key_of v.entries) s (v.entries ++ r.hand) (all_append (Fine h.n) v.entries r.hand good own))
            (kept-marked (key_of v.entries) s v.entries r.hand stamps some-hand few) (omega arith)
      ] in
      go (leb (length r.hand) (length (blanks_of h r.card v.number))) refl
    where
      first-marked : (es hand : List Entry) → All (λ d. d.stamp ≡ s) hand → 1 ≤ length hand → Marked s (es ++ hand)
      first-marked es [] a lo = absurd (omega arith)
      first-marked es (d ∷ hand) a lo = (d, mem-right d es (d ∷ hand) (inl refl), a.0)

  place_if-next : (v : Visit) (es : List Entry) (r : Rise) → r.hand ≡ es → Between r → (es ≡ [] → Has r.card) → bucket h r.card v.number ≡ Some v.entries → Good h.n v.entries
      → (place_if h s v es r).fresh ≤ h.n + 1 → Next (place_if h s v es r)
  unfolding place_if
  place_if-next v [] r q bt has reads good cap = (bt, has refl)
  place_if-next v (e ∷ es) r q bt has reads good cap = place-next v r bt (let z = ap length q in omega arith) reads good cap

  base-low : (c : ℕ) → 1 + h.n ≤ base h c
  unfolding base
  base-low c = omega arith

  log-lies : (card : List ℕ) → size_of h ≡ length card → Each (Lies card) (blanks card 1 h.n)
  unfolding size_of
  log-lies card size = blanks-each (Lies card) card 1 h.n (λ j p q z. omega arith)

  -- the root logged: the bucket area is as it was
  log-next : (r : Rise) (b : ℕ) → b < 4294967296 → Next r → Next (logged h s b r)
  unfolding logged log_blanks
  log-next r b small nx =
      let card = r.card in
      let new = fill card (blanks card 1 h.n) (root_entry s b ∷ []) in
      let lies : Each (Lies card) (blanks card 1 h.n) = log-lies card nx.0.size in
      let same : (i c : ℕ) → 1 + h.n ≤ i → Agree new card i c = λ i c lo j p q.
      fill-other card (blanks card 1 h.n) (root_entry s b ∷ []) j lies (blanks-each (λ k. j ≡ k → ⊥) card 1 h.n (λ k x y z e. omega arith)) in
      let has = nx.1 in (
        record {
          size = nx.0.size ∙ sym (length-fill card (blanks card 1 h.n) (root_entry s b ∷ []) lies);
          bytes = fits-fill card (blanks card 1 h.n) (root_entry s b ∷ []) nx.0.bytes (record { kind = omega arith; status = omega arith; key = omega arith; stamp = s32; value = small }, tt);
          used = ap (λ (k : ℕ). k + 1) (used-agree h new card h.n (λ c p q. unwritten-agree new card (base h c) h.m (same (base h c) h.m (base-low c)))) ∙ nx.0.used;
          hands = tt;
          few = omega arith;
        },
        (has.0, has.1, has.2, (has.3.0, run_agree h.n new card (base h has.0) h.m (same (base h has.0) h.m (base-low has.0)) ∙ has.3.1, has.3.2)),
      )

  one-small : (ks : List Entry) (r : Rise) → (one_bucket h s ks r).fresh ≤ h.n + 1 → r.fresh < 4294967296
  unfolding one_bucket
  one-small ks r cap = let n4 = lim.n4096 in omega arith

  rooted-next : (top : List Entry) (r : Rise) → r.hand ≡ top → All Own top → length top ≤ 2 → Next r → (rooted h s top r).fresh ≤ h.n + 1 → Next (rooted h s top r)
  unfolding rooted logged
  rooted-next [] r q own few nx cap = nx
  rooted-next (e ∷ []) r q own few nx cap = log-next r e.value own.0.0.0.value nx
  rooted-next (e ∷ d ∷ es) r q own few nx cap =
      let m4 = lim.m4 in
      let n4 = lim.n4096 in
      log-next (one_bucket h s (e ∷ d ∷ es) r) r.fresh (one-small (e ∷ d ∷ es) r cap)
      (one-next (e ∷ d ∷ es) r nx.0 (all_map Own (Fine h.n) (λ x o. o.0) (e ∷ d ∷ es) own) (e, inl refl, own.0.1) (omega arith) cap)

-- a write of e on any card with a head whose elements are bytes
module _ (h : Head) (card : List ℕ) (hq : head_of card ≡ Some h) (by : Bytes card) (e : Entry) (fine : Fine h.n e) (x : ℕ) where
  abbrev start : Rise
  start = record { hand = e ∷ []; fresh = top_used h card h.n + 1; card = card }

  abbrev lim : Lim h
  lim = (head-facts card h hq).0

  abbrev s : ℕ
  s = e.stamp

  hand-there : (climb h s [] start).hand ≡ [] → ⊥
  unfolding climb
  hand-there q = let z = ap length q in omega arith

  pub climb-next : (us p : List Visit) → walk h card latest x ≡ Some (us ++ p) → (climb h s p start).fresh ≤ h.n + 1
      → Between h lim s fine.0.stamp (climb h s p start) × ((p ≡ []) ⊎ Has h lim s fine.0.stamp (climb h s p start).card)
  unfolding climb
  climb-next us [] w cap = (record { size = (head-facts card h hq).1; bytes = by; used = refl; hands = ((fine, refl), tt); few = omega arith }, inl refl)
  climb-next us (v ∷ q) w cap =
      let below = climb h s q start in
      let pf = place_if-fresh h s v below.hand below in
      let ih = climb-next (us ++ (v ∷ [])) q (subst (λ (p : List Visit). walk h card latest x ≡ Some p) (sym (append_assoc us (v ∷ []) q)) w) (omega arith) in
      let met = as-met h card hq latest x us v q w s (e ∷ []) (omega arith) in
      let read = (along-right (λ z. bucket h card z.number ≡ Some z.entries) us (v ∷ q) (walk-reads h card latest x (us ++ (v ∷ q)) w)).0 in
      let good = run-good h.n card by (base h v.number) h.m v.entries (bucket-raw h card v.number v.entries read).1 in
      let nx = place_if-next h lim s fine.0.stamp v below.hand below refl ih.0
      (λ none_left. ⊎_elim
      (λ (z : q ≡ []). absurd (first-hand q z none_left))
      (λ (has : Has h lim s fine.0.stamp below.card). has)
      ih.1)
      met.reads good cap in
      (nx.0, inr nx.1)
    where
      first-hand : (q : List Visit) → q ≡ [] → (climb h s q start).hand ≡ [] → ⊥
      first-hand q z y = hand-there (subst (λ (p : List Visit). (climb h s p start).hand ≡ []) z y)

  pub planned-next : (p : List Visit) → walk h card latest x ≡ Some p → (new : List ℕ) → plan_on h card e p ≡ accept new
      → (top_used h new h.n + 1 ≡ fresh_after h card e p) × Has h lim s fine.0.stamp new × Bytes new
  unfolding plan_on finish fresh_after
  planned-next p w new q =
      let r = climb h s p start in
      let ci = checked-inv h (log_full h r.card r.hand) (rooted h s r.hand r) new q in
      let cap = ci.0 in
      let rf = rooted-fresh h s r.hand r in
      let c = climb-next [] p w (omega arith) in
      let has = ⊎_elim (λ (z : p ≡ []). absurd (no-path z w)) (λ (y : Has h lim s fine.0.stamp r.card). y) c.1 in
      let nx = rooted-next h lim s fine.0.stamp r.hand r refl c.0.hands c.0.few (c.0, has) cap in
      subst (λ (d : List ℕ). (top_used h d h.n + 1 ≡ (rooted h s r.hand r).fresh) × Has h lim s fine.0.stamp d × Bytes d) ci.2 (nx.0.used, nx.1, nx.0.bytes)
    where
      no-path : p ≡ [] → walk h card latest x ≡ Some p → ⊥
      no-path z w = walk-some h card latest x (w ∙ ap Some z)

-- the largest stamp is the entry's
pub stamp-after : (h : Head) (card : List ℕ) → head_of card ≡ Some h → Bytes card → (e : Entry) → Asks e → (new : List ℕ) → plan card e ≡ accept new → stamp_on h new ≡ e.stamp
unfolding stamp_on base
stamp-after h card hq by e asks new q =
    let pw = plan-walk h card e new hq q in
    let inv = plan-inv h card e new pw.0 hq pw.1 q in
    let above = inv.1 in
    let fine = asks-fine h.n e asks inv.0 (omega arith) inv.3 in
    let has = (planned-next h card hq by e fine e.key pw.0 pw.1 new inv.2).1 in
    let high = top-after h card hq by e asks new q in
    let cs = has.3 in
    let low = mem-all (λ d. d.stamp ≤ stamp_on h new) cs.0
    (run-stamps h.n new (stamp_on h new) (base h has.0) h.m cs.0
    (λ j a b. top-ge new (1 + h.n) (h.n * h.m) j (omega arith) (omega (arith, bucket-in h.m h.n has.0 has.1 has.2))) cs.1)
    cs.2.0 cs.2.1 in
    let is = cs.2.2 in
    omega arith

-- its elements are bytes again
pub bytes_after : (h : Head) (card : List ℕ) → head_of card ≡ Some h → Bytes card → (e : Entry) → Asks e → (new : List ℕ) → plan card e ≡ accept new → Bytes new
bytes_after h card hq by e asks new q =
    let pw = plan-walk h card e new hq q in
    let inv = plan-inv h card e new pw.0 hq pw.1 q in
    let above = inv.1 in
    (planned-next h card hq by e (asks-fine h.n e asks inv.0 (omega arith) inv.3) e.key pw.0 pw.1 new inv.2).2

-- the first sector stays, and with it the head and the beginning
module _ (h : Head) (card : List ℕ) (hq : head_of card ≡ Some h) (by : Bytes card) (e : Entry) (asks : Asks e) (new : List ℕ) (q : plan card e ≡ accept new) where
  first-stays : sector_at new 0 ≡ sector_at card 0
  first-stays =
      let puts = call-puts h card hq by e asks new q in
      ⊎_elim
      (λ (same : sector_at new 0 ≡ sector_at card 0). same)
      (λ (x : Changed h (λ d. d.stamp ≤ e.stamp) card new 0). absurd (head-written card h hq x.was))
      (puts-sector h (λ d. d.stamp ≤ e.stamp) card puts.0 new (head-facts card h hq).1 puts.1 0)

  pub head-after : head_of new ≡ Some h
  head-after =
      let size = (head-facts card h hq).1 in
      let size2 = chain-size h (λ d. d.stamp ≤ e.stamp) card new size (call-puts h card hq by e asks new q) in
      head-same card new first-stays (sym size2 ∙ size) ∙ hq

  pub beginning-after : beginning new ≡ beginning card
  unfolding beginning
  beginning-after = ap (λ (s : List ℕ). word s 8) first-stays
