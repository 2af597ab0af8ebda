-- What a walk's end has against an entry, the path of a walk that came to data, and what a path that was tried gives.
use Rattle.std.specs.Prelude.{ℕ, ◌+◌, ◌≤◌, ◌<◌, Bool, false, ◌≡◌, Option, None, Some, Result, Ok, Err, List, [], ◌∷◌, eqb, ltb, length, drop}
use Rattle.rules.specs.declared.Head.{Head}
use Rattle.rules.specs.declared.Entry.{Entry}
use Rattle.rules.specs.declared.refusal.Refusal.{Refusal}
use Rattle.rules.specs.declared.refusal.Refusal.TheVariants.{NothingStands, Damage}
use Rattle.rules.specs.Plain.{if, ◌&◌, ◌or◌}
use Rattle.rules.specs.Refusals.{number}
use Rattle.rules.specs.Sector.{is_post}
use Rattle.rules.specs.Walk.{Visit, walk}
use Rattle.rules.specs.Layout.{head_of}
use Rattle.rules.specs.Bucket.{log_blanks}
use Rattle.rules.specs.Write.{Plan, refuse, accept, plan_on, plan_at, latest, top_used}
use Rattle.laws.proofs.Entries.{Fine}
use Rattle.laws.proofs.Roots.{root_now}
use Rattle.climb.specs.declared.Needs.{Needs}
use Rattle.climb.specs.Levels.{upward, needs_of, count_on, tally}
use Rattle.trail.specs.declared.Astray.{Astray}
use Rattle.trail.specs.declared.Astray.TheVariants.{Damaged}
use Rattle.trail.specs.declared.Astray.TheVariants as Ways
use Rattle.write.specs.declared.Task.{Task}
use Rattle.write.specs.declared.Verdict.{Verdict}
use Rattle.write.specs.declared.Entered.{Entered}
use Rattle.write.specs.declared.Barred.{Barred}
use Rattle.write.specs.declared.Barred.TheVariants.{Refused, Deep}

-- something stands where the last copy is a post
unfoldable pub stands : Option Entry → Bool
stands None = false
stands (Some e) = is_post e

-- a strike needs that
unfoldable pub admitted : Entry → Option Entry → Result (Unit {0}) Refusal
admitted e copy = if (is_post e or stands copy) (Ok tt) (Err NothingStands)

-- a walk that came to no data
abbrev pub barred_by : Astray → Barred
barred_by Damaged = Refused Damage
barred_by Ways.Deep = Deep

abbrev pub path_or : Option (List Visit) → List Visit
path_or None = []
path_or (Some p) = p

unfoldable pub walked : Head → List ℕ → ℕ → List Visit
walked h card x = path_or (walk h card latest x)

abbrev pub Came : Head → List ℕ → ℕ → Type 0
Came h card x = walk h card latest x ≡ Some (walked h card x)

-- what is known where a write begins: the head, the entry, which can be written, the highest bucket used and the root
pub record Begins (h : Head) (card : List ℕ) (task : Task) : Type 0 where
  pub head : head_of card ≡ Some h
  pub fine : Fine h.n task.entry
  pub used : task.used ≡ top_used h card h.n
  pub root : task.root ≡ root_now h card

-- a write that nothing refuses: the walk came to data, its path lies in the lent one from the start on, and there is room for what
-- was counted
pub record Ready (h : Head) (card : List ℕ) (e : Entry) (path : List ℕ) (start : ℕ) (needs : Needs) : Type 0 where
  pub came : Came h card e.key
  pub goes_on : plan_at h card e (walk h card latest e.key) ≡ plan_on h card e (walked h card e.key)
  pub levels : drop start path ≡ upward (walked h card e.key) []
  pub most : start ≤ length path
  pub counted : needs ≡ needs_of (count_on h e.stamp card (upward (walked h card e.key) []) (tally (e ∷ []) (top_used h card h.n + 1)))
  pub room : (ltb (h.n + 1) needs.fresh or (needs.root & eqb (length (log_blanks h card)) 0)) ≡ false

-- what a verdict says, or what bars one, of a path of so many places
abbrev pub Judged : Result Verdict Barred → ℕ → Head → List ℕ → Entry → List ℕ → Type 0
Judged (Ok v) places h card e path = Ready h card e path v.start v.needs
Judged (Err (Refused r)) places h card e path = plan_at h card e (walk h card latest e.key) ≡ refuse (number r)
Judged (Err Deep) places h card e path = places < h.n

-- the plan was followed: the card is its card, and the two numbers are that card's; or it refuses, and the card is as it was
abbrev pub Did : Result Entered Refusal → Head → List ℕ → List ℕ → Plan → Type 0
Did (Ok done) h card after p = (p ≡ accept after) × (done.used ≡ top_used h after h.n) × (done.root ≡ root_now h after)
Did (Err r) h card after p = (p ≡ refuse (number r)) × (after ≡ card)

-- a path of so many places was tried: the plan was followed, or the card is as it was
abbrev pub Tried : Result Entered Barred → ℕ → Head → List ℕ → List ℕ → Plan → Type 0
Tried (Ok done) places h card after p = Did (Ok done) h card after p
Tried (Err (Refused r)) places h card after p = Did (Err r) h card after p
Tried (Err Deep) places h card after p = (after ≡ card) × (places < h.n)
