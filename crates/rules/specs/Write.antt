-- Post and strike: what is refused, and else the card afterwards.
use Rattle.std.specs.Prelude.{ℕ, zero, suc, ◌+◌, ◌*◌, max, Bool, true, false, not, List, [], ◌∷◌, ◌++◌, length, get_or, leb, ltb, eqb}
use Rattle.std.specs.Prelude.{Option, None, Some}
use Rattle.rules.specs.declared.Entry.{Entry}
use Rattle.rules.specs.declared.Head.{Head}
use Rattle.rules.specs.declared.Answer.{Answer}
use Rattle.rules.specs.Plain.{if, ◌&◌, ◌or◌, is_none}
use Rattle.rules.specs.Sector.{sector_at, word, is_post, status_fits, post_entry, strike_entry, root_entry}
use Rattle.rules.specs.Layout.{head_of, base}
use Rattle.rules.specs.Bucket.{blanks_of, log_blanks, unwritten}
use Rattle.rules.specs.Walk.{Visit, walk, stands_on}
use Rattle.rules.specs.Answers.{refused}
use Rattle.rules.specs.Rewrite.{Rise, kept, key_of, fill, into, one_bucket, renew, limit_of}

-- a call is refused with a number, or accepted with the card it leaves
pub data Plan : Type 0 where
  refuse : ℕ → Plan
  accept : List ℕ → Plan

unfoldable pub refuse_if : Bool → ℕ → Plan → Plan
refuse_if true c p = refuse c
refuse_if false c p = p

-- "the card and every other lent byte are unchanged" by a refusal
unfoldable pub plan_card : List ℕ → Plan → List ℕ
plan_card card (refuse c) = card
plan_card card (accept new) = new

unfoldable pub plan_answer : Plan → Answer
plan_answer (refuse c) = refused c
plan_answer (accept new) = refused 0

-- "the largest stamp field of any bucket sector with nonzero kind, or 0 where there is none", of the c sectors from sector i
unfoldable pub stamp_of : List ℕ → ℕ
stamp_of s = if (eqb (get_or s 0 0) 0) 0 (word s 8)

unfoldable pub top_stamp : List ℕ → ℕ → ℕ → ℕ
top_stamp card i zero = 0
top_stamp card i (suc c) = max (stamp_of (sector_at card i)) (top_stamp card (suc i) c)

unfoldable pub stamp_on : Head → List ℕ → ℕ
stamp_on h card = top_stamp card (1 + h.n) (h.n * h.m)

-- "the highest bucket with a nonzero byte", of the buckets 1..b; 0 where none has
unfoldable pub top_used : Head → List ℕ → ℕ → ℕ
top_used h card zero = 0
top_used h card (suc b) = elim (unwritten card (base h (suc b)) h.m) [ true ↦ top_used h card b | false ↦ suc b ]

-- "If the parent has room for all pairs, they are written there. Otherwise none is, and the parent is reorganised with them";
-- so is the data bucket with the new entry
unfoldable pub place : Head → ℕ → Visit → Rise → Rise
place h s v r =
    if (leb (length r.hand) (length (blanks_of h r.card v.number)))
    (record { hand = []; fresh = r.fresh; card = into h v.number r.hand r.card })
    (renew h s (limit_of h v.entries) (kept (key_of v.entries) s (v.entries ++ r.hand)) r)

unfoldable pub place_if : Head → ℕ → Visit → List Entry → Rise → Rise
place_if h s v [] r = r
place_if h s v (e ∷ es) r = place h s v r

-- "and so on upward until a level has room or the root itself is rewritten"; the path lies root first
unfoldable pub climb : Head → ℕ → List Visit → Rise → Rise
climb h s [] r = r
climb h s (v ∷ p) r = let below = climb h s p r in place_if h s v below.hand below

-- "A new root gets a root log entry with the call's stamp", at the first blank of the log
unfoldable pub logged : Head → ℕ → ℕ → Rise → Rise
logged h s b r = record { hand = []; fresh = r.fresh; card = fill r.card (log_blanks h r.card) (root_entry s b ∷ []) }

-- "A root rewritten to one bucket is the new root; to two, a further bucket takes both pairs and is the root"
unfoldable pub rooted : Head → ℕ → List Entry → Rise → Rise
rooted h s [] r = r
rooted h s (e ∷ []) r = logged h s e.value r
rooted h s (e ∷ d ∷ es) r = logged h s r.fresh (one_bucket h s (e ∷ d ∷ es) r)

-- "no blank log sector for a new root": es are the pairs of a root rewritten
unfoldable pub log_full : Head → List ℕ → List Entry → Bool
log_full h card [] = false
log_full h card (e ∷ es) = eqb (length (log_blanks h card)) 0

-- 6: "more fresh buckets needed than remain, or no blank log sector for a new root"
unfoldable pub checked : Head → Bool → Rise → Plan
checked h full r = refuse_if (ltb (h.n + 1) r.fresh or full) 6 (accept r.card)

unfoldable pub finish : Head → ℕ → Rise → Plan
finish h s r = checked h (log_full h r.card r.hand) (rooted h s r.hand r)

-- "fresh buckets are numbered from one past the highest bucket with a nonzero byte"
unfoldable pub plan_on : Head → List ℕ → Entry → List Visit → Plan
plan_on h card e p =
    finish h e.stamp (climb h e.stamp p (record { hand = e ∷ []; fresh = top_used h card h.n + 1; card = card }))

-- "Writes walk with t = 4294967295"
abbrev pub latest : ℕ
latest = 4294967295

-- 4, then 5: a strike where nothing stands
unfoldable pub plan_at : Head → List ℕ → Entry → Option (List Visit) → Plan
plan_at h card e None = refuse 4
plan_at h card e (Some p) = refuse_if (not (is_post e) & is_none (stands_on latest e.key p)) 5 (plan_on h card e p)

-- 1, 2, 14 ("a status above 3, or a nonzero time beside status 1 to 3"), 3, then 4 and on
unfoldable pub plan_for : List ℕ → Entry → Option Head → Plan
plan_for card e None = refuse 1
plan_for card e (Some h) =
    refuse_if (eqb e.key 0) 2
    (refuse_if (not (status_fits e.status e.value)) 14
    (refuse_if (leb e.stamp (stamp_on h card)) 3
    (plan_at h card e (walk h card latest e.key))))

unfoldable pub plan : List ℕ → Entry → Plan
plan card e = plan_for card e (head_of card)

unfoldable pub post : List ℕ → ℕ → ℕ → ℕ → ℕ → Plan
post card bib at status time = plan card (post_entry bib at status time)

unfoldable pub strike : List ℕ → ℕ → ℕ → Plan
strike card bib at = plan card (strike_entry bib at)
