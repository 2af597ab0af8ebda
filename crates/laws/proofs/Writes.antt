-- An accepted write on any card with a head, and a format: what they put, and that no stamp is above the call's.
use Prim.Native.Nat.{◌<◌, ◌≤◌, ℕ, ◌+◌, ◌*◌}
use lib.ListN.{length}
use mathlib.Core.List.{List, [], ◌∷◌}
use mathlib.Core.Logic.{⊎_elim}
use Rattle.std.specs.Prelude.{Some}
use mathlib.Core.Path.{◌∙◌, ◌≡◌, ap}
use native.Mathlib.Omega.{arith}
use Rattle.rules.specs.declared.Entry.{Entry}
use Rattle.rules.specs.declared.Head.{Head}
use Rattle.rules.specs.Bucket.{bucket}
use Rattle.rules.specs.Layout.{base, head_of, size_of}
use Rattle.rules.specs.Rewrite.{pair, into}
use Rattle.rules.specs.Sector.{sector_at, decode, index_entry}
use Rattle.rules.specs.Write.{accept, plan, stamp_on, stamp_of}
use Rattle.rules.specs.Format.{dummy}
use Rattle.laws.proofs.Buckets.{bucket-within, bucket-raw}
use Rattle.laws.proofs.Bytes.{Bytes, run-good}
use Rattle.laws.proofs.Entries.{Fine, index-fine, dummy-fine, Asks, asks-fine}
use Rattle.laws.proofs.Codec.{decode-encode}
use Rattle.laws.proofs.Heads.{head-facts}
use Rattle.laws.proofs.Lists.{All, all_map, all_both}
use Rattle.laws.proofs.Plans.{plan-inv, plan-walk}
use Rattle.laws.proofs.Paths.{along-map, walk-reads}
use Rattle.laws.proofs.Puts.{Puts, Changed, puts-sector, plan-chain, Chain, chain_more, chain-size, into-chain}
use Rattle.laws.proofs.Stamps.{top-le, bucket-stamps, top-ge, held-stamp}

pair-upto : (s b : ℕ) (ks : List Entry) → (pair s b ks).stamp ≤ s
unfolding pair
pair-upto s b ks = omega arith

-- what an accepted call puts, on any card with a head whose elements are bytes
pub call-puts : (h : Head) (card : List ℕ) → head_of card ≡ Some h → Bytes card → (e : Entry) → Asks e → (new : List ℕ) → plan card e ≡ accept new
    → (is : List ℕ) × Puts h (λ d. d.stamp ≤ e.stamp) card is new
call-puts h card hq by e a new q =
    let hf = head-facts card h hq in
    let size = hf.1 in
    let pw = plan-walk h card e new hq q in
    let inv = plan-inv h card e new pw.0 hq pw.1 q in
    let above = inv.1 in
    let fe = asks-fine h.n e a inv.0 (omega arith) inv.3 in
    let up = bucket-stamps h card size (stamp_on h card) (omega arith) in
    let Q : Entry → Type 0 = λ d. d.stamp ≤ e.stamp in
    plan-chain h hf.0.n4096 Q e (pair-upto e.stamp) card size (fe, omega arith) pw.0
    (along-map (λ v. bucket h card v.number ≡ Some v.entries) (λ v. (1 ≤ v.number) × (v.number ≤ h.n) × All (λ d. Fine h.n d × Q d) v.entries)
    (λ v z. let br = bucket-raw h card v.number v.entries z in (
      br.0,
      bucket-within h card v.number v.entries size z,
      all_both (Fine h.n) Q v.entries (run-good h.n card by (base h v.number) h.m v.entries br.1)
          (all_map (λ d. d.stamp ≤ stamp_on h card) Q (λ d k. omega arith) v.entries (up v.number v.entries z)),
    ))
    pw.0 (walk-reads h card 4294967295 e.key pw.0 pw.1))
    new inv.2

-- entries stamped s or earlier put on a card with no later stamp in its buckets leave none there
pub chain-top : (h : Head) (s : ℕ) (card new : List ℕ) → size_of h ≡ length card → Chain h (λ d. d.stamp ≤ s) card new
    → ((j : ℕ) → 1 + h.n ≤ j → j < 1 + h.n + h.n * h.m → stamp_of (sector_at card j) ≤ s) → stamp_on h new ≤ s
unfolding stamp_on
chain-top h s card new size ch old =
    top-le new s (1 + h.n) (h.n * h.m)
    (λ j lo hi. ⊎_elim
    (λ (same : sector_at new j ≡ sector_at card j). let a = ap stamp_of same in let b = old j lo hi in omega arith)
    (λ (x : Changed h (λ d. d.stamp ≤ s) card new j).
    let f = x.area lo in
    let le = f.1 in
    let is = held-stamp h.n (sector_at new j) x.entry (ap (decode h.n) x.here ∙ decode-encode h.n x.entry f.0.1) in
    omega arith)
    (puts-sector h (λ d. d.stamp ≤ s) card ch.0 new size ch.1 j))

-- so no stamp in the buckets is above the call's
pub top-after : (h : Head) (card : List ℕ) → head_of card ≡ Some h → Bytes card → (e : Entry) → Asks e → (new : List ℕ) → plan card e ≡ accept new
    → stamp_on h new ≤ e.stamp
unfolding stamp_on
top-after h card hq by e a new q =
    let pw = plan-walk h card e new hq q in
    let above = (plan-inv h card e new pw.0 hq pw.1 q).1 in
    chain-top h e.stamp card new (head-facts card h hq).1 (call-puts h card hq by e a new q)
    (λ j lo hi. let old = top-ge card (1 + h.n) (h.n * h.m) j lo hi in omega arith)

-- what format puts into buckets 1 and 2
pub format-chain : (h : Head) (Q : Entry → Type 0) → Q (index_entry 0 0 2) → Q dummy → (card : List ℕ) → 2 ≤ h.n → size_of h ≡ length card
    → Chain h Q card (into h 2 (dummy ∷ []) (into h 1 (index_entry 0 0 2 ∷ []) card))
format-chain h Q qi qd card n2 size =
    let next = into h 1 (index_entry 0 0 2 ∷ []) card in
    let one = into-chain h Q card size 1 (omega arith) (omega arith) (index_entry 0 0 2 ∷ []) ((index-fine h.n n2, qi), tt) in
    chain_more h Q card next (into h 2 (dummy ∷ []) next) one
    (into-chain h Q next (chain-size h Q card next size one) 2 (omega arith) n2 (dummy ∷ []) ((dummy-fine h.n, qd), tt))
