-- The way up as the code goes it: by bucket numbers, the lowest level first, each bucket read from the card when its turn comes.
use Rattle.std.specs.Prelude.{ℕ, ◌+◌, ◌-◌, ◌/◌, ◌≤◌, ◌<◌, ◌≡◌, Bool, true, false, List, [], ◌∷◌, ◌++◌, leb, ltb, length, take, drop}
use Rattle.std.specs.Prelude.{Option, None, Some}
use Rattle.rules.specs.declared.Entry.{Entry}
use Rattle.rules.specs.declared.Head.{Head}
use Rattle.rules.specs.Plain.{if}
use Rattle.rules.specs.Bucket.{bucket, log, blanks_of}
use Rattle.rules.specs.Walk.{Visit}
use Rattle.rules.specs.Rewrite.{Rise, kept, key_of, limit_of, into}
use Rattle.rules.specs.Write.{place_if, rooted}
use Rattle.laws.proofs.Buckets.{raw}
use Rattle.bucket.specs.Shapes.{Shape}
use Rattle.level.specs.Level.{sent_list, pairs_of, need_of, AllSmall}
use Rattle.climb.specs.declared.Renewed.{Renewed}
use Rattle.climb.specs.declared.Needs.{Needs}

abbrev pub or_empty : Option (List Entry) → List Entry
or_empty None = []
or_empty (Some es) = es

unfoldable pub entries_on : Head → List ℕ → ℕ → List Entry
entries_on h card b = or_empty (bucket h card b)

abbrev pub visit_on : Head → List ℕ → ℕ → Visit
visit_on h card b = record { number = b; entries = entries_on h card b }

abbrev pub risen : List Entry → ℕ → List ℕ → Rise
risen hand fresh card = record { hand = hand; fresh = fresh; card = card }

-- the rule's levels, lowest first
unfoldable pub rise_on : Head → ℕ → List ℕ → Rise → Rise
rise_on h s [] r = r
rise_on h s (b ∷ bs) r = rise_on h s bs (place_if h s (visit_on h r.card b) r.hand r)

-- with the new root above them, if there is one
unfoldable pub topped : Head → ℕ → Rise → Rise
topped h s r = rooted h s r.hand r

-- what a rewrite of bucket b with the hand keeps, and the fewest that make two buckets
unfoldable pub kept_on : Head → ℕ → List ℕ → ℕ → List Entry → List Entry
kept_on h s card b hand = kept (key_of (entries_on h card b)) s (entries_on h card b ++ hand)

unfoldable pub limit_on : Head → List ℕ → ℕ → ℕ
limit_on h card b = limit_of h (entries_on h card b)

-- the new buckets from `fresh` on, filled
unfoldable pub own_card : Head → ℕ → ℕ → List Entry → List ℕ → List ℕ
own_card h td fresh es card =
    if (ltb (length es) td) (into h fresh es card)
    (into h (fresh + 1) (drop (length es - length es / 2) es) (into h fresh (take (length es - length es / 2) es) card))

-- a level's hand and next fresh bucket, without its card: what a count of the fresh buckets carries
pub record Tally : Type 0 where
  pub hand : List Entry
  pub fresh : ℕ

abbrev pub tally : List Entry → ℕ → Tally
tally hand fresh = record { hand = hand; fresh = fresh }

unfoldable pub tally_at : Head → ℕ → List ℕ → ℕ → List Entry → ℕ → Tally
tally_at h s card b hand fresh =
    if (leb (length hand) (length (blanks_of h card b))) (tally [] fresh)
    (tally (pairs_of s (limit_on h card b) fresh (kept_on h s card b hand)) (fresh + need_of (limit_on h card b) (kept_on h s card b hand)))

unfoldable pub tally_if : Head → ℕ → List ℕ → ℕ → List Entry → ℕ → Tally
tally_if h s card b [] fresh = tally [] fresh
tally_if h s card b (e ∷ es) fresh = tally_at h s card b (e ∷ es) fresh

unfoldable pub count_on : Head → ℕ → List ℕ → List ℕ → Tally → Tally
count_on h s card [] t = t
count_on h s card (b ∷ bs) t = count_on h s card bs (tally_if h s card b t.hand t.fresh)

-- a root over two pairs takes one bucket more; any pair left is a new root
unfoldable pub fresh_over : List Entry → ℕ → ℕ
fresh_over [] f = f
fresh_over (e ∷ []) f = f
fresh_over (e ∷ d ∷ es) f = f + 1

unfoldable pub is_open : List Entry → Bool
is_open [] = false
is_open (e ∷ es) = true

unfoldable pub needs_of : Tally → Needs
needs_of t = record { fresh = fresh_over t.hand t.fresh; root = is_open t.hand }

-- the bucket numbers of a path, which lies root first, in the order of the way up
unfoldable pub upward : List Visit → List ℕ → List ℕ
upward [] above = above
upward (v ∷ p) above = upward p (v.number ∷ above)

-- bucket b is read
abbrev pub Read : Head → List ℕ → ℕ → Type 0
Read h card b = bucket h card b ≡ Some (entries_on h card b)

abbrev pub AllRead : Head → List ℕ → List ℕ → Type 0
AllRead h card [] = Unit {0}
AllRead h card (b ∷ bs) = Read h card b × AllRead h card bs

abbrev pub AllBelow : ℕ → List ℕ → Type 0
AllBelow f [] = Unit {0}
AllBelow f (b ∷ bs) = (b < f) × AllBelow f bs

-- what a level that is rewritten to hold es hands on
pub record HandsOn (s td fresh : ℕ) (es : List Entry) (r : Renewed) : Type 0 where
  pub pairs : sent_list r.sent ≡ pairs_of s td fresh es
  pub next : r.fresh ≡ fresh + need_of td es
  pub most : r.fresh ≤ fresh + 2
  pub small : AllSmall (sent_list r.sent)

-- a card on which the levels bs can be written: they and the log are read, and from `fresh` on every bucket is blank
pub record Ready (h : Head) (card bs : List ℕ) (fresh : ℕ) : Type 0 where
  pub shape : Shape h card
  pub reads : AllRead h card bs
  pub below : AllBelow fresh bs
  pub least : 1 ≤ fresh
  pub free : (c : ℕ) → fresh ≤ c → c ≤ h.n → raw h card c ≡ Some []
  pub logs : (es : List Entry) × (log h card ≡ Some es)
