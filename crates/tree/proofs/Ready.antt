-- The card between two writes of one call: its buckets from f on are blank.
use mathlib.Core.Path.{◌∙◌, ◌≡◌, ap, sym}
use Rattle.std.specs.Prelude.{Some}
use Prim.Native.Nat.{◌+◌, ◌<◌, ◌≤◌, ℕ}
use native.Mathlib.Omega.{arith}
use mathlib.Core.List.{List, [], ◌++◌}
use lib.ListN.{length}
use Rattle.rules.specs.declared.Entry.{Entry}
use Rattle.rules.specs.declared.Head.{Head}
use Rattle.rules.specs.Bucket.{blanks_of, bucket, sound_bucket}
use Rattle.rules.specs.Layout.{size_of}
use Rattle.rules.specs.Rewrite.{into}
use Rattle.rules.specs.Sector.{sector_at}
use Rattle.rules.specs.Write.{top_used}
use Rattle.laws.proofs.Entries.{Good}
use Rattle.laws.proofs.Buckets.{bucket-raw, bucket-within, raw, raw-bucket}
use Rattle.laws.proofs.Bytes.{Bytes, bytes-fill}
use Rattle.laws.proofs.Into.{block-else, block_size, block-raw, block-whole, block-front, block-others}
use Rattle.laws.proofs.Tools.{none-some}
use Rattle.laws.proofs.Used.{top-raw}

pub record Ready (h : Head) (card : List ℕ) (f : ℕ) : Type 0 where
  pub bytes : Bytes card
  pub size : size_of h ≡ length card
  pub blank : (c : ℕ) → f ≤ c → c ≤ h.n → raw h card c ≡ Some []
  pub whole : (c : ℕ) → 1 ≤ c → (es : List Entry) × (raw h card c ≡ Some es)

-- a fresh bucket is filled
pub record Fresh (h : Head) (card card' : List ℕ) (b : ℕ) (ks : List Entry) : Type 0 where
  pub ready : Ready h card' (b + 1)
  pub front : (j : ℕ) → j < 1 + h.n → sector_at card' j ≡ sector_at card j
  pub here : bucket h card' b ≡ Some ks
  pub others : (c : ℕ) → (c ≡ b → ⊥) → bucket h card' c ≡ bucket h card c
  pub same : (c : ℕ) (cs : List Entry) → bucket h card c ≡ Some cs → bucket h card' c ≡ Some cs

pub fresh-bucket : (h : Head) (card : List ℕ) (f b : ℕ) (ks : List Entry) → Ready h card f → f ≤ b → 1 ≤ b → b ≤ h.n
    → length ks ≤ length (blanks_of h card b)
    → Good h.n ks → sound_bucket ks ≡ Some ks → Fresh h card (into h b ks card) b ks
unfolding sound_bucket into
fresh-bucket h card f b ks rdy fb lo hi room good sound =
    let bl = rdy.blank b fb hi in
    record {
      ready = record {
        bytes = bytes-fill h.n card (blanks_of h card b) ks rdy.bytes good;
        size = block_size h card rdy.size b lo hi ks;
        blank = λ c p q. block-else h card rdy.size b lo hi ks c (omega arith) (λ z. omega arith) ∙ rdy.blank c (omega arith) q;
        whole = block-whole h card rdy.size b lo hi ks [] good room bl rdy.whole;
      };
      front = block-front h card rdy.size b lo hi ks;
      others = block-others h card rdy.size b lo hi ks;
      here = raw-bucket h (into h b ks card) b ks lo (block-raw h card rdy.size b lo hi ks [] good room bl) sound;
      same = λ c cs q. block-others h card rdy.size b lo hi ks c
          (λ z. let r = bucket-raw h card c cs q in
          let e : cs ≡ [] = cc (r.1, ap (raw h card) z, bl) in
          none-some (ap sound_bucket (sym e) ∙ r.2)) ∙ q;
    }

-- entries are added to a bucket
pub record Joined (h : Head) (card card' : List ℕ) (f b : ℕ) (es : List Entry) : Type 0 where
  pub ready : Ready h card' f
  pub here : bucket h card' b ≡ Some es
  pub others : (c : ℕ) → (c ≡ b → ⊥) → bucket h card' c ≡ bucket h card c

pub join-bucket : (h : Head) (card : List ℕ) (f b : ℕ) (es new : List Entry) → Ready h card f → 1 ≤ f → bucket h card b ≡ Some es
    → length new ≤ length (blanks_of h card b) → Good h.n new → sound_bucket (es ++ new) ≡ Some (es ++ new)
    → Joined h card (into h b new card) f b (es ++ new)
unfolding sound_bucket into
join-bucket h card f b es new rdy lf q fits good sound =
    let r = bucket-raw h card b es q in
    let hi = bucket-within h card b es rdy.size q in
    record {
      ready = record {
        bytes = bytes-fill h.n card (blanks_of h card b) new rdy.bytes good;
        size = block_size h card rdy.size b r.0 hi new;
        blank = λ c p z. block-else h card rdy.size b r.0 hi new c (omega arith)
            (λ cb. let bl = rdy.blank c p z in
            let e : es ≡ [] = cc (r.1, ap (raw h card) cb, bl) in
            none-some (ap sound_bucket (sym e) ∙ r.2)) ∙ rdy.blank c p z;
        whole = block-whole h card rdy.size b r.0 hi new es good fits r.1 rdy.whole;
      };
      others = block-others h card rdy.size b r.0 hi new;
      here = raw-bucket h (into h b new card) b (es ++ new) r.0 (block-raw h card rdy.size b r.0 hi new es good fits r.1) sound;
    }

-- so the card is ready from one past it
pub ready-top : (h : Head) (card : List ℕ) → Bytes card → size_of h ≡ length card → ((c : ℕ) → 1 ≤ c → (es : List Entry) × (raw h card c ≡ Some es))
    → Ready h card (top_used h card h.n + 1)
ready-top h card bytes size whole = record { bytes = bytes; size = size; blank = λ c p q. top-raw h card c (omega arith) q; whole = whole }
