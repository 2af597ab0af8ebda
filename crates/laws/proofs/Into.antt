-- Entries put at the blanks of a bucket: they come behind its entries, and nothing else changes.
use mathlib.Core.Path.{◌∙◌, ◌≡◌, ap, refl, sym}
use mathlib.Core.Logic.{◌⊎◌, inl, inr, ⊎_elim}
use mathlib.Core.Bool.{false, true}
use Rattle.std.specs.Prelude.{Some}
use Prim.Native.Nat.{◌+◌, ◌<◌, ◌≤◌, suc, zero, ℕ}
use native.Mathlib.Omega.{arith}
use mathlib.Core.List.{List, ◌++◌}
use lib.ListN.{length}
use Rattle.rules.specs.declared.Entry.{Entry}
use Rattle.rules.specs.declared.Head.{Head}
use Rattle.rules.specs.Bucket.{blanks_of, bucket, sound_bucket}
use Rattle.rules.specs.Layout.{base, size_of}
use Rattle.rules.specs.Plain.{and_then, zeros}
use Rattle.rules.specs.Rewrite.{into}
use Rattle.rules.specs.Sector.{sector_at}
use Rattle.laws.proofs.Tools.{eq-or-ne}
use Rattle.laws.proofs.Run.{run_agree, Agree, blanks-agree}
use Rattle.laws.proofs.Buckets.{bucket-in, raw, Clear, buckets-clear}
use Rattle.laws.proofs.Blocks.{Each, Lies, blanks-each, fill-other, fill-run, length-fill}
use Rattle.laws.proofs.Entries.{Good}

-- no sector that is written is written again
abbrev pub Stays : List ℕ → List ℕ → Type 0
Stays card card' = (j : ℕ) → zeros (sector_at card j) ≡ false → sector_at card' j ≡ sector_at card j

-- entries put at the blanks of bucket b
module _ (h : Head) (card : List ℕ) (size : size_of h ≡ length card) (b : ℕ) (lo : 1 ≤ b) (hi : b ≤ h.n) (new : List Entry) where
  here-each : (P : ℕ → Type 0) → ((j : ℕ) → base h b ≤ j → j < base h b + h.m → zeros (sector_at card j) ≡ true → P j) → Each P (blanks_of h card b)
  unfolding blanks_of
  here-each P f = blanks-each P card (base h b) h.m f

  here-lies : Each (Lies card) (blanks_of h card b)
  unfolding size_of base
  here-lies = here-each (Lies card) (λ j p q z. omega (arith, bucket-in h.m h.n b lo hi))

  pub block_size : size_of h ≡ length (into h b new card)
  unfolding into
  block_size = size ∙ sym (length-fill card (blanks_of h card b) new here-lies)

  pub block-raw : (es : List Entry) → Good h.n new → length new ≤ length (blanks_of h card b) → raw h card b ≡ Some es
      → raw h (into h b new card) b ≡ Some (es ++ new)
  unfolding into blanks_of size_of base
  block-raw es good fits eq = fill-run h.n card (base h b) h.m es new good (omega (arith, bucket-in h.m h.n b lo hi)) fits eq

  -- a sector that is not one of these blanks is as it was
  block-sector : (j : ℕ) → Each (λ i. j ≡ i → ⊥) (blanks_of h card b) → sector_at (into h b new card) j ≡ sector_at card j
  unfolding into
  block-sector j n = fill-other card (blanks_of h card b) new j here-lies n

  block_out : (j : ℕ) → (j < base h b) ⊎ (base h b + h.m ≤ j) → sector_at (into h b new card) j ≡ sector_at card j
  block_out j out = block-sector j (here-each (λ i. j ≡ i → ⊥) (λ i p q z e. ⊎_elim (λ (l : j < base h b). omega arith) (λ (g : base h b + h.m ≤ j). omega arith) out))

  pub block-agree : (i k : ℕ) → Clear h i k b → Agree (into h b new card) card i k
  block-agree i k cl j p q = block_out j (⊎_elim (λ (l : i + k ≤ base h b). inl (omega arith)) (λ (g : base h b + h.m ≤ i). inr (omega arith)) cl)

  -- another bucket is as it was, its blanks too
  pub block-else : (c : ℕ) → 1 ≤ c → (c ≡ b → ⊥) → raw h (into h b new card) c ≡ raw h card c
  block-else c lc ne = run_agree h.n (into h b new card) card (base h c) h.m (block-agree (base h c) h.m (buckets-clear h c b lc lo ne))

  pub block-blanks : (c : ℕ) → 1 ≤ c → (c ≡ b → ⊥) → blanks_of h (into h b new card) c ≡ blanks_of h card c
  unfolding blanks_of
  block-blanks c lc ne = blanks-agree (into h b new card) card (base h c) h.m (block-agree (base h c) h.m (buckets-clear h c b lc lo ne))

  pub block-whole : (es : List Entry) → Good h.n new → length new ≤ length (blanks_of h card b) → raw h card b ≡ Some es
      → ((c : ℕ) → 1 ≤ c → (cs : List Entry) × (raw h card c ≡ Some cs)) → (c : ℕ) → 1 ≤ c
      → (cs : List Entry) × (raw h (into h b new card) c ≡ Some cs)
  block-whole es good fits eq w c lc =
      ⊎_elim
      (λ (e : c ≡ b). (es ++ new, ap (raw h (into h b new card)) e ∙ block-raw es good fits eq))
      (λ (ne : c ≡ b → ⊥). ((w c lc).0, block-else c lc ne ∙ (w c lc).1))
      (eq-or-ne c b)

  -- the head and the log are as before
  pub block-front : (j : ℕ) → j < 1 + h.n → sector_at (into h b new card) j ≡ sector_at card j
  unfolding base
  block-front j lt = block_out j (inl (omega arith))

  pub block-others : (c : ℕ) → (c ≡ b → ⊥) → bucket h (into h b new card) c ≡ bucket h card c
  unfolding bucket
  block-others zero ne = refl
  block-others (suc c) ne = ap (λ z. and_then z sound_bucket) (block-else (suc c) (omega arith) ne)
