-- A place chosen is the entry that the rule picks, and the scans with these decisions are the search of a bucket and of the log.
use mathlib.Core.Path.{◌≡◌, refl, ap, ap₂, sym, ◌∙◌}
use mathlib.Core.Bool.{Bool, true, false}
use mathlib.Core.List.{List}
use Prim.Native.Nat.{ℕ, zero, suc, ◌+◌, ◌*◌, ◌≤◌, ◌<◌, ◌%◌, max}
use native.Mathlib.Numerals.{add-one}
use native.Mathlib.Omega.{arith}
use lib.ListN.{length}
use lib.Dec.{leb, eqb}
use borrow.Author.Tests.{le-leb, leb-true, leb-false}
use Rattle.std.specs.Prelude.{Option, None, Some, Result, Ok, Err, ok_or}
use Rattle.rules.specs.declared.refusal.Damage.{Damage}
use Rattle.rules.specs.declared.Entry.{Entry}
use Rattle.rules.specs.declared.Head.{Head}
use Rattle.rules.specs.declared.Sector.{Sector}
use Rattle.rules.specs.declared.Sector.TheVariants.{Held}
use Rattle.rules.specs.Bucket.{joins}
use Rattle.rules.specs.Plain.{if, ◌&◌}
use Rattle.rules.specs.Sector.{decode, sector_at, is_index, is_data, is_root}
use Rattle.laws.proofs.Bytes.{held-inv}
use Rattle.scan.specs.declared.Way.{Way}
use Rattle.scan.specs.declared.Way.TheVariants.{Down}
use Rattle.scan.specs.Look.{log_of}
use Rattle.scan.specs.Scan.{Found, sectors, scan_in, over, below, same, choose, pick, way_of, search, pick_root, root_in, search_log}
use Rattle.scan.proofs.Loops.{first-scan}
use Rattle.scan.proofs.Parts.{sectors-part}
use Rattle.bucket.specs.Places.{found_at, key_at, data_fits, index_fits, is_copy, rank}

-- in a data bucket an entry is taken where it is a copy of x that counts
pub pick-copy : (x t : ℕ) (best : Option Entry) (e : Entry) → pick false x t best e ≡ if (is_copy x t e) (Some e) best
unfolding pick choose same is_copy
pick-copy x t best e = both (leb e.stamp t) (eqb e.key x)
  where
    both : (a b : Bool) → if a (if b (Some e) best) best ≡ if (a & b) (Some e) best
    both true b = refl
    both false b = refl

-- sector i holds e
module _ (n : ℕ) (part : List ℕ) (i hit : ℕ) (e : Entry) (held : decode n (sector_at part i) ≡ Held e) where
  here : Some e ≡ found_at part (i + 1)
  unfolding found_at
  here = rw add-one (ap (λ (d : Entry). Some d) (sym (held-inv n (sector_at part i) e held).0))

  key_here : e.key ≡ key_at part (i + 1)
  unfolding key_at
  key_here = rw add-one (ap (λ (d : Entry). d.key) (sym (held-inv n (sector_at part i) e held).0))

  -- a yes or no chooses between it and the best so far
  pub choice : (b : Bool) → if b (Some e) (found_at part hit) ≡ found_at part (if b (i + 1) hit)
  choice true = here
  choice false = refl

  pub log-place : (t : ℕ) → pick_root t (found_at part hit) e ≡ found_at part (if (leb e.stamp t) (i + 1) hit)
  unfolding pick_root
  log-place t = choice (leb e.stamp t)

over-place : (part : List ℕ) (hit low : ℕ) (e : Entry) → low ≡ key_at part hit → over (found_at part hit) e ≡ if (leb low e.key) (Some e) (found_at part hit)
unfolding over found_at key_at
over-place part zero low e is = rw (is, le-leb 0 e.key (omega arith))
over-place part (suc i) low e is = rw is

-- a place h up to `most`, its rank b and its entry f
abbrev pub Ranked : List ℕ → ℕ → ℕ → Option Entry → Type 0
Ranked part most b f = (h : ℕ) × (h ≤ most) × (b ≡ 64 * key_at part h + h) × (f ≡ found_at part h)

-- the rank of the entry in sector i, whose place is i + 1, against that of the best so far
module _ (n : ℕ) (part : List ℕ) (i hit : ℕ) (e : Entry) (held : decode n (sector_at part i) ≡ Held e) (before : hit ≤ i) (few : i < 32) where
  stays : (more : ℕ) → more ≡ 64 * key_at part hit + hit → Ranked part (i + 1) more (found_at part hit)
  stays more is = (hit, omega arith, is, refl)

  pub rank-turn : (x t best more : ℕ) → best ≡ 64 * key_at part hit + hit → more ≡ max best (rank x t e (i + 1)) → Ranked part (i + 1) more (pick true x t (found_at part hit) e)
  unfolding pick choose below rank
  rank-turn x t best more is top = late (leb e.stamp t) (leb e.key x) top
    where
      same_key : e.key ≡ key_at part (i + 1)
      same_key = key_here n part i hit e held

      nearer : (b : Bool) → leb (key_at part hit) e.key ≡ b → more ≡ max best (64 * e.key + (i + 1)) → Ranked part (i + 1) more (if b (Some e) (found_at part hit))
      nearer true q top = let le = leb-true (key_at part hit) e.key q in (i + 1, omega arith, omega (arith, same_key), here n part i hit e held)
      nearer false q top = let lt = leb-false (key_at part hit) e.key q in stays more (omega arith)

      late : (a b : Bool) → more ≡ max best (if a (if b (64 * e.key + (i + 1)) 0) 0)
          → Ranked part (i + 1) more (if a (if b (over (found_at part hit) e) (found_at part hit)) (found_at part hit))
      late true true top = rw (over-place part hit (key_at part hit) e refl) (nearer (leb (key_at part hit) e.key) refl top)
      late true false top = stays more (omega arith)
      late false b top = stays more (omega arith)

-- a rank has its place
pub place_is : (k h r : ℕ) → h ≤ 32 → r ≡ 64 * k + h → r % 64 ≡ h
place_is k h r le is = omega arith

-- the header read and tested, and the scan of the whole bucket
module _ (k x t n m : ℕ) (b : List ℕ) (s : Sector) (four : 4 ≤ m) (d : s ≡ decode n (sector_at b 0)) (h : Entry) (held : s ≡ Held h) (same : h.key ≡ k) where
  -- the scan of a bucket of one class or the other
  abbrev way : Bool → ℕ → Result Way Damage
  way index key = way_of index (scan_in (λ (e : Entry). if index (is_index e) (is_data e) & leb key e.key) (pick index x t) (sectors n b 0 m) None)

  told : (index : Bool) → is_index h ≡ index → way index k ≡ search k x t (sectors n b 0 m)
  unfolding joins
  told index is = ap₂ way (sym is) (sym same) ∙ first-scan k x t n m b s four d h held same

  pub search-index : is_index h ≡ true → way_of true (scan_in (index_fits k) (pick true x t) (sectors n b 0 m) None) ≡ search k x t (sectors n b 0 m)
  unfolding index_fits
  search-index is = told true is

  pub search-data : is_index h ≡ false → way_of false (scan_in (data_fits k) (pick false x t) (sectors n b 0 m) None) ≡ search k x t (sectors n b 0 m)
  unfolding data_fits
  search-data is = told false is

-- the log's part has the log's sectors
pub log-found : (h : Head) (card part : List ℕ) (t : ℕ) (r : Found) → 16 * (1 + h.n) ≤ length card → part ≡ log_of h card
    → r ≡ scan_in is_root (pick_root t) (sectors h.n part 0 h.n) None → r ≡ search_log t (sectors h.n card 1 h.n)
unfolding log_of search_log
log-found h card part t r long at-log found =
    (rw at-log at found) ∙ ap (λ (l : List Sector). scan_in is_root (pick_root t) l None) (sectors-part h.n card 1 h.n 0 h.n long (omega arith))

-- a log without a root entry is damage
pub root-or : (r : Option Entry) → ok_or r (record {}) ≡ root_in (Ok r)
unfolding root_in
root-or None = refl
root-or (Some e) = refl

-- an index bucket without a key to follow is damage
pub down-none : (r : Option Entry) (d : Damage) → ok_or r (record {}) ≡ Err d → Err d ≡ way_of true (Ok r)
unfolding way_of
down-none None d q = refl
down-none (Some e) d q = let z : ◌≡◌ {A = ℕ} 0 1 = cc in absurd (omega arith)

pub down-some : (r : Option Entry) (e : Entry) → ok_or {E = Damage} r (record {}) ≡ Ok e → Ok (Down e) ≡ way_of true (Ok r)
unfolding way_of
down-some None e q = let z : ◌≡◌ {A = ℕ} 0 1 = cc in absurd (omega arith)
down-some (Some d) e q = cc
