-- A card in order: its head, its log, and a tree that holds what stands.
use mathlib.Core.Path.{◌≡◌}
use mathlib.Core.Logic.{⊎_elim}
use Rattle.std.specs.Prelude.{Option, Some}
use Prim.Native.Nat.{◌+◌, ◌<◌, ◌≤◌, min, ℕ}
use native.Mathlib.Omega.{arith}
use mathlib.Core.List.{List, [], ◌∷◌}
use lib.ListN.{length}
use borrow.Author.Tests.{le-leb, le-ltb, lt-leb, lt-ltb}
use Rattle.rules.specs.declared.Entry.{Entry}
use Rattle.rules.specs.declared.Head.{Head}
use Rattle.rules.specs.Bucket.{bucket, log}
use Rattle.rules.specs.Layout.{base, head_of}
use Rattle.rules.specs.Plain.{larger, largest, last_of, only}
use Rattle.rules.specs.Walk.{follow, path, path_from, path_in, walk}
use Rattle.laws.proofs.Tools.{le-or-lt}
use Rattle.laws.proofs.Lists.{upper}
use Rattle.laws.proofs.Bytes.{Bytes, run-good}
use Rattle.laws.proofs.Buckets.{bucket-raw, raw}
use Rattle.laws.proofs.Logs.{log-raw}
use Rattle.laws.proofs.Left.{left-latest}
use Rattle.tree.proofs.Tree.{Early, Kids, Reading, Tree}

pub record State (h : Head) (card : List ℕ) (g : ℕ → Option Entry) (k : ℕ) : Type 0 where
  pub bytes : Bytes card
  pub head : head_of card ≡ Some h
  pub logs : List Entry
  pub log_is : log h card ≡ Some logs
  pub last : Entry
  pub last-is : last_of logs ≡ Some last
  pub tree : Tree (bucket h card) g k last.value 0 4294967296
  pub whole : (c : ℕ) → 1 ≤ c → (es : List Entry) × (raw h card c ≡ Some es)
  -- some bucket's number is above the height, and above the number of log entries: so neither the walk's N nor the log runs out
  pub tall : (b : ℕ) × (es : List Entry) × (bucket h card b ≡ Some es) × (k + 1 ≤ b) × (length logs < b)

pub early-max : (h : Head) (card : List ℕ) → Bytes card → Early 4294967295 (bucket h card)
early-max h card b c es q = left-latest h.n es (run-good h.n card b (base h c) h.m es (bucket-raw h card c es q).1)

-- two pairs in a root of their own
pub kids-pair : (rd : Reading) (g : ℕ → Option Entry) (k hi : ℕ) (p q : Entry) → p.key ≡ 0 → p.key < q.key → q.key < hi
    → Tree rd g k p.value 0 q.key → Tree rd g k q.value q.key hi → Kids rd g k (p ∷ q ∷ []) 0 hi
unfolding follow only largest larger upper
kids-pair rd g k hi p q pk pq qh tp tq x lx xh =
    ⊎_elim
    (λ (le : q.key ≤ x). (
      q,
      rw (le-leb p.key x (omega arith), le-leb q.key x le, le-leb p.key q.key (omega arith)),
      rw (le-ltb x p.key (omega arith), le-ltb x q.key le) tq,
    ))
    (λ (gt : x < q.key). (
      p,
      rw (le-leb p.key x (omega arith), lt-leb q.key x gt),
      rw (le-ltb x p.key (omega arith), lt-ltb x q.key gt)
          (let m : min q.key hi ≡ q.key = omega arith in rw (m, pk) tp),
    ))
    (le-or-lt q.key x)

-- the walk in a card in order
pub state-walk : (h : Head) (card : List ℕ) (g : ℕ → Option Entry) (k : ℕ) (st : State h card g k) (x : ℕ)
    → walk h card 4294967295 x ≡ path (bucket h card) 4294967295 x h.n st.last.value 0
unfolding walk path_in path_from
state-walk h card g k st x =
    rw (st.log_is, left-latest h.n st.logs (run-good h.n card st.bytes 1 h.n st.logs (log-raw h card st.logs st.log_is).0), st.last-is)
