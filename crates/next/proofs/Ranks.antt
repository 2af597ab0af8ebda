-- The least key above x by its rank, and the lesser of two that were found.
use mathlib.Core.Path.{◌≡◌, refl}
use mathlib.Core.Bool.{Bool, true, false}
use mathlib.Core.List.{List}
use Prim.Native.Nat.{ℕ, suc, ◌+◌, ◌*◌, ◌-◌, ◌≤◌, ◌<◌, ◌%◌, max}
use native.Mathlib.Numerals.{add-one}
use native.Mathlib.Omega.{arith}
use lib.Dec.{leb, ltb}
use borrow.Author.Tests.{leb-true, leb-false}
use Rattle.std.specs.Prelude.{Option, Some}
use Rattle.rules.specs.declared.Entry.{Entry}
use Rattle.rules.specs.Plain.{if}
use Rattle.rules.specs.Sector.{sector_at, fields}
use Rattle.scan.specs.Next.{under, above, above_at}
use Rattle.bucket.specs.Places.{found_at}
use Rattle.next.specs.Ranks.{rank_above}

-- the rank of the entry at a place: 0 for none, which is place 0
pub data Ranked (part : List ℕ) : ℕ → ℕ → Type 0 where
  unranked : Ranked part 0 0
  ranked : (i : ℕ) → (fields (sector_at part i)).key ≤ 4294967295 → Ranked part (suc i) (64 * (4294967295 - (fields (sector_at part i)).key) + suc i)

-- what the best becomes: its place h, its rank, its entry
abbrev pub Best : List ℕ → ℕ → ℕ → Option Entry → Type 0
Best part most b f = (h : ℕ) × (h ≤ most) × Ranked part h b × (f ≡ found_at part h)

module _ (part : List ℕ) (i x t : ℕ) (few : i < 32) (fits : (fields (sector_at part i)).key ≤ 4294967295) where
  abbrev e : Entry
  e = fields (sector_at part i)

  here : Best part (i + 1) (64 * (4294967295 - e.key) + (i + 1)) (Some e)
  unfolding found_at
  here = rw add-one (suc i, omega arith, ranked i fits, refl)

  nearer : (h b : ℕ) → h ≤ i → Ranked part h b → Best part (i + 1) (max b (64 * (4294967295 - e.key) + (i + 1))) (under (found_at part h) e)
  unfolding found_at under
  nearer h b le unranked = let z : max 0 (64 * (4294967295 - e.key) + (i + 1)) ≡ 64 * (4294967295 - e.key) + (i + 1) = omega arith in rw z here
  nearer h b le (ranked j k) = go (leb e.key (fields (sector_at part j)).key) refl
    where
      go : (c : Bool) → leb e.key (fields (sector_at part j)).key ≡ c
          → Best part (i + 1) (max (64 * (4294967295 - (fields (sector_at part j)).key) + suc j) (64 * (4294967295 - e.key) + (i + 1))) (if c (Some e) (Some (fields (sector_at part j))))
      go true q = let near = leb-true e.key (fields (sector_at part j)).key q in let top : max (64 * (4294967295 - (fields (sector_at part j)).key) + suc j) (64 * (4294967295 - e.key) + (i + 1)) ≡ 64 * (4294967295 - e.key) + (i + 1) = omega arith in rw top here
      go false q = let far = leb-false e.key (fields (sector_at part j)).key q in let top : max (64 * (4294967295 - (fields (sector_at part j)).key) + suc j) (64 * (4294967295 - e.key) + (i + 1)) ≡ 64 * (4294967295 - (fields (sector_at part j)).key) + suc j = omega arith in rw top (suc j, omega arith, ranked j k, refl)

  stays : (h b : ℕ) → h ≤ i → Ranked part h b → Best part (i + 1) (max b 0) (found_at part h)
  stays h b le r = let z : max b 0 ≡ b = omega arith in rw z (h, omega arith, r, refl)

  pub above-turn : (h b more : ℕ) → h ≤ i → Ranked part h b → more ≡ max b (rank_above x t e (i + 1)) → Best part (i + 1) more (above_at x t (found_at part h) e)
  unfolding above_at above rank_above
  above-turn h b more le r is = rw is (go (leb e.stamp t) (ltb x e.key))
    where
      go : (s k : Bool) → Best part (i + 1) (max b (if s (if k (64 * (4294967295 - e.key) + (i + 1)) 0) 0)) (if s (if k (under (found_at part h) e) (found_at part h)) (found_at part h))
      go true true = nearer h b le r
      go true false = stays h b le r
      go false k = stays h b le r

-- a rank has its place
pub place_is : (part : List ℕ) (h b : ℕ) → h ≤ 32 → Ranked part h b → b % 64 ≡ h
place_is part h b le unranked = refl
place_is part h b le (ranked i k) = omega arith
