-- The walk to a key as of a stamp.
use Rattle.std.specs.Prelude.{ℕ, zero, suc, List, [], ◌∷◌, leb, eqb}
use Rattle.std.specs.Prelude.{Option, None, Some}
use Rattle.rules.specs.declared.Entry.{Entry}
use Rattle.rules.specs.declared.Head.{Head}
use Rattle.rules.specs.Plain.{if, only, last_of, largest}
use Rattle.rules.specs.Sector.{is_index, is_post}
use Rattle.rules.specs.Bucket.{bucket, log}

-- "Entries stamped after t are ignored"
unfoldable pub left : ℕ → List Entry → List Entry
left t es = only (λ e. leb e.stamp t) es

-- "the largest key not above the key sought, its last copy"
unfoldable pub follow : ℕ → List Entry → Option Entry
follow x es = largest (only (λ e. leb e.key x) es)

-- the last copy of the key x
unfoldable pub copy_of : ℕ → List Entry → Option Entry
copy_of x es = last_of (only (λ e. eqb e.key x) es)

-- one bucket on the path, with all its entries
pub record Visit : Type 0 where
  pub number : ℕ
  pub entries : List Entry

-- what a bucket read on the way says: damage, the data bucket is reached, or the entry to follow
pub data Turn : Type 0 where
  broken : Turn
  arrived : Turn
  down : Entry → Turn

-- "no index key left that is not above the key sought [..] is damage"
unfoldable pub down_to : Option Entry → Turn
down_to None = broken
down_to (Some e) = down e

-- "a bucket whose header is not the key followed to it [..] is damage": k is that key
unfoldable pub turn : ℕ → ℕ → ℕ → List Entry → Turn
turn t x k [] = broken
turn t x k (h ∷ es) = if (eqb h.key k) (if (is_index h) (down_to (follow x (left t (h ∷ es)))) arrived) broken

unfoldable pub met : Visit → Option (List Visit) → Option (List Visit)
met v None = None
met v (Some p) = Some (v ∷ p)

unfoldable pub go : Visit → Turn → (ℕ → ℕ → Option (List Visit)) → Option (List Visit)
go v broken on = None
go v arrived on = Some (v ∷ [])
go v (down e) on = met v (on e.value e.key)

unfoldable pub go_in : ℕ → ℕ → ℕ → ℕ → Option (List Entry) → (ℕ → ℕ → Option (List Visit)) → Option (List Visit)
go_in t x b k None on = None
go_in t x b k (Some es) on = go (record { number = b; entries = es }) (turn t x k es) on

-- the path from bucket b, of f buckets at most, root first; none is damage
unfoldable pub path : (ℕ → Option (List Entry)) → ℕ → ℕ → ℕ → ℕ → ℕ → Option (List Visit)
path rd t x zero b k = None
path rd t x (suc f) b k = go_in t x b k (rd b) (path rd t x f)

-- "Start at the bucket of the last root entry left"; "No entry left in the log [..] is damage"
unfoldable pub path_from : (ℕ → Option (List Entry)) → ℕ → ℕ → ℕ → Option Entry → Option (List Visit)
path_from rd t x f None = None
path_from rd t x f (Some r) = path rd t x f r.value 0

unfoldable pub path_in : (ℕ → Option (List Entry)) → ℕ → ℕ → ℕ → Option (List Entry) → Option (List Visit)
path_in rd t x f None = None
path_in rd t x f (Some es) = path_from rd t x f (last_of (left t es))

-- the walk to x as of t; "N buckets read without reaching data, is damage"
unfoldable pub walk : Head → List ℕ → ℕ → ℕ → Option (List Visit)
walk h card t x = path_in (bucket h card) t x h.n (log h card)

-- the entries of the data bucket, the path's last
unfoldable pub data_of : List Visit → List Entry
data_of [] = []
data_of (v ∷ []) = v.entries
data_of (v ∷ w ∷ p) = data_of (w ∷ p)

-- "the last copy of the key decides; a strike or no copy means none"
unfoldable pub standing : Option Entry → Option Entry
standing None = None
standing (Some e) = if (is_post e) (Some e) None

unfoldable pub stands_on : ℕ → ℕ → List Visit → Option Entry
stands_on t x p = standing (copy_of x (left t (data_of p)))
