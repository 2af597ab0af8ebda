-- One pass over the sectors of a bucket or of the log: what the loop has, and what it gives.
use Rattle.std.specs.Prelude.{ℕ, zero, suc, Bool, true, false, Option, None, Some, Result, Ok, Err, List, [], ◌∷◌, leb, eqb}
use Rattle.rules.specs.declared.Entry.{Entry}
use Rattle.rules.specs.declared.Sector.{Sector}
use Rattle.rules.specs.declared.Sector.TheVariants.{Blank, Held, Damaged}
use Rattle.rules.specs.Bucket.{joins}
use Rattle.rules.specs.Plain.{if}
use Rattle.rules.specs.Sector.{decode, sector_at, is_index, is_root}
use Rattle.rules.specs.declared.refusal.Damage.{Damage}
use Rattle.scan.specs.declared.Way.{Way}
use Rattle.scan.specs.declared.Way.TheVariants.{Down, End}

-- what a scan gives
abbrev pub Found : Type 0
Found = Result (Option Entry) Damage

abbrev pub damaged : {A : Type 0} → Result A Damage
damaged = Err (record {})

-- the c sectors from sector i of some bytes, on a card of n buckets
unfoldable pub sectors : ℕ → List ℕ → ℕ → ℕ → List Sector
sectors n part i zero = []
sectors n part i (suc c) = decode n (sector_at part i) ∷ sectors n part (suc i) c

-- no sector is written
unfoldable pub all_blank : List Sector → Bool
all_blank [] = true
all_blank (Blank ∷ ss) = all_blank ss
all_blank (Held e ∷ ss) = false
all_blank (Damaged ∷ ss) = false

-- a run of entries that pass the test, and then blanks; each entry is weighed against the best so far
unfoldable pub scan_in : (Entry → Bool) → (Option Entry → Entry → Option Entry) → List Sector → Option Entry → Found
scan_in ok pick [] best = Ok best
scan_in ok pick (Blank ∷ ss) best = if (all_blank ss) (Ok best) damaged
scan_in ok pick (Held e ∷ ss) best = if (ok e) (scan_in ok pick ss (pick best e)) damaged
scan_in ok pick (Damaged ∷ ss) best = damaged

-- the larger key, of one key the later copy
unfoldable pub over : Option Entry → Entry → Option Entry
over None e = Some e
over (Some o) e = if (leb o.key e.key) (Some e) (Some o)

-- in an index bucket the largest key not above x, in a data bucket x itself; the last copy
unfoldable pub below : ℕ → Option Entry → Entry → Option Entry
below x best e = if (leb e.key x) (over best e) best

unfoldable pub same : ℕ → Option Entry → Entry → Option Entry
same x best e = if (eqb e.key x) (Some e) best

unfoldable pub choose : Bool → ℕ → Option Entry → Entry → Option Entry
choose index x best e = if index (below x best e) (same x best e)

-- among those stamped t or earlier
unfoldable pub pick : Bool → ℕ → ℕ → Option Entry → Entry → Option Entry
pick index x t best e = if (leb e.stamp t) (choose index x best e) best

-- what an index bucket's or a data bucket's scan says
unfoldable pub way_of : Bool → Found → Result Way Damage
way_of index (Err d) = damaged
way_of true (Ok None) = damaged
way_of true (Ok (Some e)) = Ok (Down e)
way_of false (Ok copy) = Ok (End copy)

-- the bucket of these sectors, which k was followed to, on the way to x as of t
unfoldable pub search : ℕ → ℕ → ℕ → List Sector → Result Way Damage
search k x t [] = damaged
search k x t (Blank ∷ ss) = damaged
search k x t (Held h ∷ ss) =
    if (eqb h.key k) (way_of (is_index h) (scan_in (joins h) (pick (is_index h) x t) (Held h ∷ ss) None)) damaged
search k x t (Damaged ∷ ss) = damaged

-- the last root entry stamped t or earlier
unfoldable pub pick_root : ℕ → Option Entry → Entry → Option Entry
pick_root t best e = if (leb e.stamp t) (Some e) best

unfoldable pub search_log : ℕ → List Sector → Found
search_log t ss = scan_in is_root (pick_root t) ss None

-- the entry that a log has to have
unfoldable pub root_in : Found → Result Entry Damage
root_in (Err d) = damaged
root_in (Ok None) = damaged
root_in (Ok (Some e)) = Ok e
