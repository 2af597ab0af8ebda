-- A card that format makes of a blank one answers that nothing stands.
use Prim.Native.Nat.{◌*◌, ◌+◌, ◌-◌, ◌<◌, ◌≤◌, suc, zero, ℕ}
use borrow.Author.Tests.{le-leb, le-ltb, eqb-true}
use lib.Dec.{eqb}
use lib.ListN.{length}
use mathlib.Core.Bool.{false, true, not}
use mathlib.Core.List.{List, [], ◌∷◌, ◌++◌}
use mathlib.Core.Logic.{⊎_elim}
use Rattle.std.specs.Prelude.{None, Some, Option}
use mathlib.Core.Path.{◌∙◌, ◌≡◌, ap, ap₂, refl, subst, sym}
use native.Mathlib.Nat.{mul-le-mul_left}
use native.Mathlib.Omega.{arith}
use Rattle.rules.specs.declared.Entry.{Entry}
use Rattle.rules.specs.declared.Head.{Head}
use Rattle.rules.specs.Bucket.{blanks_of, bucket, log, onto, run, sound_bucket, sound_log, joins}
use Rattle.rules.specs.Format.{dummy, format, format_for, formatted, meant}
use Rattle.rules.specs.Layout.{base, beginning, head_bytes, head_in, head_of, limits, size_of}
use Rattle.rules.specs.Plain.{◌&◌, zeros, and_then, every, keep_if, larger, largest, last_of, only}
use Rattle.rules.specs.Rewrite.{into}
use Rattle.rules.specs.Sector.{encode, is_data, is_index, is_post, is_root, le4, put, root_entry, sector_at, index_entry, word}
use Rattle.rules.specs.Walk.{copy_of, follow, standing}
use Rattle.rules.specs.Write.{accept, refuse_if, stamp_on, stamp_of}
use Rattle.laws.proofs.Blocks.{blank-room}
use Rattle.laws.proofs.Buckets.{raw, run_past}
use Rattle.laws.proofs.Bytes.{Bytes, bytes-append, bytes-encode, bytes-le4, bytes-put, zero-bytes}
use Rattle.laws.proofs.Entries.{Fine, root-fine, index-fine, dummy-fine}
use Rattle.laws.proofs.Codec.{length-encode}
use Rattle.laws.proofs.Heads.{limits-hold, head_read, head-begins, head-length}
use Rattle.laws.proofs.Lists.{upper}
use Rattle.laws.proofs.Plans.{not-false, passed}
use Rattle.laws.proofs.Run.{blanks-agree, decode-put, run_agree}
use Rattle.laws.proofs.Sectors.{length-put, sector-put-other, sector-put-same}
use Rattle.laws.proofs.Tools.{and-true, le-or-lt}
use Rattle.laws.proofs.Used.{run-blank}
use Rattle.laws.proofs.Stamps.{stamp-blank}
use Rattle.laws.proofs.Writes.{chain-top, format-chain}
use Rattle.laws.proofs.Zeros.{zero-sector}
use Rattle.laws.proofs.Into.{block-blanks}
use Rattle.tree.proofs.Keeps.{Keeps, now-ends}
use Rattle.tree.proofs.Ready.{Fresh, Ready, fresh-bucket}
use Rattle.tree.proofs.State.{State}
use Rattle.tree.proofs.Tree.{Tree}

abbrev idx : Entry
idx = index_entry 0 0 2

-- nothing stands
abbrev pub nothing : ℕ → Option Entry
nothing x = None

dummy-none : (x : ℕ) → standing (copy_of x (dummy ∷ [])) ≡ None
unfolding standing copy_of only last_of is_post
dummy-none x = elim (eqb 0 x) as (λ b. standing (last_of (keep_if b dummy [])) ≡ None) [ true ↦ refl | false ↦ refl ]

-- a head's bytes are bytes
pub bytes-head : (h : Head) (begin : ℕ) → h.n ≤ 4096 → h.m ≤ 32 → h.td ≤ h.m → h.ti ≤ h.m → begin < 4294967296 → Bytes (head_bytes h begin)
unfolding head_bytes
bytes-head h begin n4096 m32 tdm tim small = (
  omega arith,
  (
    omega arith,
    (
      omega arith,
      (
        omega arith,
        bytes-append (le4 h.n) (le4 begin ++ (0 ∷ 0 ∷ 0 ∷ 0 ∷ [])) (bytes-le4 h.n (omega arith))
            (bytes-append (le4 begin) (0 ∷ 0 ∷ 0 ∷ 0 ∷ []) (bytes-le4 begin small) (omega arith, (omega arith, (omega arith, (omega arith, tt))))),
      ),
    ),
  ),
)

module _ (h : Head) (lim : limits h ≡ true) (card : List ℕ) (size : size_of h ≡ length card) (bytes0 : Bytes card)
    (front0 : (j : ℕ) → j < 1 + h.n → zeros (sector_at card j) ≡ true) (blank0 : (c : ℕ) → 1 ≤ c → c ≤ h.n → raw h card c ≡ Some [])
    (stamps0 : (j : ℕ) → 1 + h.n ≤ j → stamp_of (sector_at card j) ≡ 0) (room1 : 1 ≤ length (blanks_of h card 1)) (room2 : 1 ≤ length (blanks_of h card 2))
    (n2 : 2 ≤ h.n) (n4096 : h.n ≤ 4096) (m4 : 4 ≤ h.m) (m32 : h.m ≤ 32) (tdm : h.td ≤ h.m) (tim : h.ti ≤ h.m) where
  abbrev card1 : List ℕ
  card1 = put card 0 (head_bytes h 0)

  abbrev root : Entry
  root = root_entry 0 1

  abbrev card2 : List ℕ
  card2 = put card1 1 (encode root)

  big : 16 * (1 + (h.n + h.n * h.m)) ≡ length card
  unfolding size_of
  big = omega (arith, size)

  len1 : length card1 ≡ length card
  len1 = length-put card 0 (head_bytes h 0) (head-length h 0) (omega (arith, big))

  len2 : length card2 ≡ length card
  len2 = length-put card1 1 (encode root) (length-encode root) (omega (arith, big, len1)) ∙ len1

  fine-root : Fine h.n root
  fine-root = root-fine h.n 0 1 (omega arith) (omega arith) (omega arith) n4096

  bytes2 : Bytes card2
  bytes2 = bytes-put card1 1 (encode root) (bytes-put card 0 (head_bytes h 0) bytes0 (bytes-head h 0 n4096 m32 tdm tim (omega arith))) (bytes-encode root fine-root.0)

  -- what the format writes first leaves the rest as it was
  same1 : (j : ℕ) → 1 ≤ j → sector_at card1 j ≡ sector_at card j
  same1 j lo = sector-put-other card 0 j (head_bytes h 0) (head-length h 0) (omega (arith, big)) (λ z. omega arith)

  same2 : (j : ℕ) → 2 ≤ j → sector_at card2 j ≡ sector_at card j
  same2 j lo = sector-put-other card1 1 j (encode root) (length-encode root) (omega (arith, big, len1)) (λ z. omega arith) ∙ same1 j (omega arith)

  blank2 : (c : ℕ) → 1 ≤ c → c ≤ h.n → raw h card2 c ≡ Some []
  unfolding base
  blank2 c p q = run_agree h.n card2 card (base h c) h.m (λ j a b. same2 j (omega arith)) ∙ blank0 c p q

  past : (c : ℕ) → h.n < c → raw h card2 c ≡ Some []
  unfolding base
  past c gt = run_past h.n card2 (base h c) h.m (let k : h.n ≤ c - 1 = omega arith in omega (arith, big, len2, mul-le-mul_left h.m k))

  ready2 : Ready h card2 1
  ready2 = record {
    bytes = bytes2;
    size = size ∙ sym len2;
    blank = blank2;
    whole = λ c p. ([], ⊎_elim (λ (le : c ≤ h.n). blank2 c p le) (λ (gt : h.n < c). past c gt) (le-or-lt c h.n));
  }

  rooms2 : (c : ℕ) → blanks_of h card2 c ≡ blanks_of h card c
  unfolding blanks_of base
  rooms2 c = blanks-agree card2 card (base h c) h.m (λ j a b. same2 j (omega arith))

  log2 : log h card2 ≡ Some (root ∷ [])
  unfolding log sound_log every is_root run onto
  log2 = log-one h.n refl
    where
      rest : (c : ℕ) → c + 2 ≤ 1 + h.n → run h.n card2 2 c ≡ Some []
      rest c le = run-blank h.n card2 2 c (λ j p q. ap zeros (same2 j p) ∙ front0 j (omega arith))

      log-one : (n : ℕ) → h.n ≡ n → and_then (run h.n card2 1 n) sound_log ≡ Some (root ∷ [])
      log-one zero e = absurd (omega arith)
      log-one (suc c) e = rw (decode-put h.n card1 root fine-root.1 1 1 refl (omega (arith, big, len1)), rest c (omega arith))

  sound-idx : sound_bucket (idx ∷ []) ≡ Some (idx ∷ [])
  unfolding sound_bucket every joins is_index
  sound-idx = refl

  sound-dummy : sound_bucket (dummy ∷ []) ≡ Some (dummy ∷ [])
  unfolding sound_bucket every joins is_index is_data
  sound-dummy = refl

  abbrev card3 : List ℕ
  card3 = into h 1 (idx ∷ []) card2

  abbrev card4 : List ℕ
  card4 = into h 2 (dummy ∷ []) card3

  fb1 : Fresh h card2 card3 1 (idx ∷ [])
  fb1 = fresh-bucket h card2 1 1 (idx ∷ []) ready2 (omega arith) (omega arith) (omega arith) (subst (λ z. 1 ≤ length z) (sym (rooms2 1)) room1) (index-fine h.n n2, tt) sound-idx

  rooms3 : blanks_of h card3 2 ≡ blanks_of h card2 2
  rooms3 = block-blanks h card2 ready2.size 1 (omega arith) (omega arith) (idx ∷ []) 2 (omega arith) (λ z. omega arith)

  fb2 : Fresh h card3 card4 2 (dummy ∷ [])
  fb2 = fresh-bucket h card3 2 2 (dummy ∷ []) fb1.ready (omega arith) (omega arith) (omega arith) (subst (λ z. 1 ≤ length z) (sym (rooms3 ∙ rooms2 2)) room2) (dummy-fine h.n, tt) sound-dummy

  front4 : (j : ℕ) → j < 1 + h.n → sector_at card4 j ≡ sector_at card2 j
  front4 j lt = fb2.front j lt ∙ fb1.front j lt

  first4 : sector_at card4 0 ≡ head_bytes h 0
  first4 =
      front4 0 (omega arith) ∙ sector-put-other card1 1 0 (encode root) (length-encode root) (omega (arith, big, len1)) (λ z. omega arith)
      ∙ sector-put-same card 0 (head_bytes h 0) (head-length h 0) (omega (arith, big))

  begins4 : beginning card4 ≡ 0
  unfolding beginning
  begins4 = ap (λ (s : List ℕ). word s 8) first4 ∙ head-begins h 0

  head4 : head_of card4 ≡ Some h
  unfolding head_of
  head4 =
      ap₂ head_in first4 (sym fb2.ready.size)
      ∙ head_read h 0 (size_of h) lim refl

  tree4 : Tree (bucket h card4) nothing 1 1 0 4294967296
  unfolding follow only largest larger upper is_index is_data
  tree4 = (
    idx ∷ [],
    fb2.same 1 (idx ∷ []) fb1.here,
    (refl, ((refl, omega arith, omega arith, refl), tt)),
    λ x p q. (
      idx,
      rw (le-leb 0 x (omega arith)),
      rw (le-ltb x 0 (omega arith))
          (dummy ∷ [], fb2.here, (refl, ((refl, omega arith, omega arith, refl), tt)), λ y a b. dummy-none y),
    ),
  )

  state4 : State h card4 nothing 1
  unfolding last_of log
  state4 = record {
    bytes = fb2.ready.bytes;
    head = head4;
    logs = root ∷ [];
    log_is = ap (λ z. and_then z sound_log) (run_agree h.n card4 card2 1 h.n (λ j p q. front4 j (omega arith))) ∙ log2;
    last = root;
    last-is = refl;
    tree = tree4;
    whole = fb2.ready.whole;
    tall = (2, dummy ∷ [], fb2.here, omega arith, omega arith);
  }

  top4 : stamp_on h card4 ≡ 0
  top4 =
      let le = chain-top h 0 card2 card4 ready2.size (format-chain h (λ d. d.stamp ≤ 0) (omega arith) (omega arith) card2 n2 ready2.size) (λ j lo hi. let a = ap stamp_of (same2 j (omega arith)) in let b = stamps0 j lo in omega arith) in
      omega arith

  pub begun : Keeps h card4 (λ t. nothing) 0 0
  unfolding state4
  begun = record {
    height = 1;
    now = nothing;
    state = state4;
    calm = λ t x le. refl;
    top = top4;
    logs-upto = (omega arith, tt);
    begins = begins4;
    since = omega arith;
    small = omega arith;
    answers = λ t x le lt. now-ends h card4 nothing 1 state4 t (omega (arith, top4)) (omega arith, tt) x lt;
  }

pub format-inv : (card : List ℕ) (h : Head) (new : List ℕ) → format_for card h ≡ accept new
    → (limits h ≡ true) × (length card ≡ size_of h) × (zeros card ≡ true) × (formatted h card ≡ new)
unfolding format_for
format-inv card h new q =
    let fits = eqb (length card) (size_of h) in
    let a = passed (not (limits h & fits)) 8 (refuse_if (not (zeros card)) 9 (accept (formatted h card))) new q in
    let b = passed (not (zeros card)) 9 (accept (formatted h card)) new a.1 in
    let c = and-true (limits h) fits (not-false (limits h & fits) a.0) in
    let same : accept (formatted h card) ≡ accept new = b.1 in
    (c.0, eqb-true (length card) (size_of h) c.1, not-false (zeros card) b.0, cc)

-- a card that format makes of a blank one answers that nothing stands
pub format-keeps : (card : List ℕ) (n m td ti : ℕ) (new : List ℕ) → format card n m td ti ≡ accept new
    → Keeps (meant n m td ti) new (λ t. nothing) 0 0
unfolding format formatted blanks_of
format-keeps card n m td ti new q =
    let h = meant n m td ti in
    let i = format-inv card h new q in
    let l = limits-hold h i.0 in
    let m4 = l.m4 in
    let n2 = l.n2 in
    let blank : (c : ℕ) → 1 ≤ c → c ≤ h.n → raw h card c ≡ Some [] = λ c p q. run-blank h.n card (base h c) h.m (λ j x y. zero-sector card j i.2) in
    let room : (c : ℕ) → 1 ≤ c → c ≤ h.n → length (blanks_of h card c) ≡ h.m = λ c p q. blank-room h.n card (base h c) h.m (blank c p q) in
    let r1 = room 1 (omega arith) (omega arith) in
    let r2 = room 2 (omega arith) (omega arith) in
    subst (λ z. Keeps h z (λ t. nothing) 0 0) i.3
    (begun h i.0 card (sym i.1) (zero-bytes card i.2) (λ j lt. zero-sector card j i.2) blank (λ j lo. stamp-blank (sector_at card j) (zero-sector card j i.2)) (omega arith) (omega arith)
    l.n2 l.n4096 l.m4 l.m32 l.tdm l.tim)
