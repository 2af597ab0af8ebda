-- What an accepted plan has passed.
use mathlib.Core.Path.{◌≡◌, refl}
use mathlib.Core.Bool.{Bool, true, false, not}
use Rattle.std.specs.Prelude.{Option, None, Some}
use mathlib.Core.List.{List}
use Prim.Native.Nat.{ℕ, zero, suc, ◌+◌, ◌≤◌, ◌<◌}
use native.Mathlib.Omega.{arith}
use lib.Dec.{leb, ltb, eqb}
use borrow.Author.Tests.{leb-false, ltb-false, eqb-false}
use Rattle.rules.specs.declared.Entry.{Entry}
use Rattle.rules.specs.declared.Head.{Head}
use Rattle.rules.specs.Plain.{◌&◌, ◌or◌, is_none}
use Rattle.rules.specs.Sector.{is_post, status_fits}
use Rattle.rules.specs.Layout.{head_of}
use Rattle.rules.specs.Walk.{Visit, walk, stands_on}
use Rattle.rules.specs.Rewrite.{Rise}
use Rattle.rules.specs.Write.{Plan, refuse, accept, refuse_if, stamp_on, latest, plan_on, plan_at, plan_for, plan, checked}

pub no-accept : (c : ℕ) (new : List ℕ) → refuse c ≡ accept new → ⊥
no-accept c new e = let z : ◌≡◌ {A = ℕ} 0 1 = cc in omega arith

pub passed : (b : Bool) (c : ℕ) (p : Plan) (new : List ℕ) → refuse_if b c p ≡ accept new → (b ≡ false) × (p ≡ accept new)
unfolding refuse_if
passed true c p new q = absurd (no-accept c new q)
passed false c p new q = (refl, q)

or-false : (a b : Bool) → a or b ≡ false → (a ≡ false) × (b ≡ false)
or-false true b q = (q, cc)
or-false false b q = (refl, q)

pub not-false : (a : Bool) → not a ≡ false → a ≡ true
not-false true q = refl
not-false false q = cc

pub from_one : (x : ℕ) → (x ≡ 0 → ⊥) → 1 ≤ x
from_one zero n = absurd (n refl)
from_one (suc x) n = omega arith

at-walk : (h : Head) (card : List ℕ) (e : Entry) (new : List ℕ) (w : Option (List Visit)) → plan_at h card e w ≡ accept new
    → (p : List Visit) × (w ≡ Some p)
unfolding plan_at
at-walk h card e new None y = absurd (no-accept 4 new y)
at-walk h card e new (Some p) y = (p, refl)

-- a plan that is accepted has a walk that arrives
pub plan-walk : (h : Head) (card : List ℕ) (e : Entry) (new : List ℕ) → head_of card ≡ Some h → plan card e ≡ accept new
    → (p : List Visit) × (walk h card latest e.key ≡ Some p)
unfolding plan plan_for
plan-walk h card e new hq q =
    let w = walk h card latest e.key in
    let odd = not (status_fits e.status e.value) in
    let late = refuse_if (leb e.stamp (stamp_on h card)) 3 (plan_at h card e w) in
    let q1 : refuse_if (eqb e.key 0) 2 (refuse_if odd 14 late) ≡ accept new = rw hq at q in
    let a = passed (eqb e.key 0) 2 (refuse_if odd 14 late) new q1 in
    let f = passed odd 14 late new a.1 in
    let b = passed (leb e.stamp (stamp_on h card)) 3 (plan_at h card e w) new f.1 in
    at-walk h card e new w b.1

-- and its bib is from 1, its stamp above every stamp in the buckets, and its status fits
pub plan-inv : (h : Head) (card : List ℕ) (e : Entry) (new : List ℕ) (p : List Visit) → head_of card ≡ Some h → walk h card latest e.key ≡ Some p
    → plan card e ≡ accept new → (1 ≤ e.key) × (stamp_on h card < e.stamp) × (plan_on h card e p ≡ accept new) × (status_fits e.status e.value ≡ true)
unfolding plan plan_for plan_at
plan-inv h card e new p hq wq q =
    let idle = not (is_post e) & is_none (stands_on latest e.key p) in
    let on = refuse_if idle 5 (plan_on h card e p) in
    let late = leb e.stamp (stamp_on h card) in
    let odd = not (status_fits e.status e.value) in
    let q1 : refuse_if (eqb e.key 0) 2 (refuse_if odd 14 (refuse_if late 3 on)) ≡ accept new = rw (hq, wq) at q in
    let a = passed (eqb e.key 0) 2 (refuse_if odd 14 (refuse_if late 3 on)) new q1 in
    let f = passed odd 14 (refuse_if late 3 on) new a.1 in
    let b = passed late 3 on new f.1 in
    let c = passed idle 5 (plan_on h card e p) new b.1 in
    (from_one e.key (eqb-false e.key 0 a.0), leb-false e.stamp (stamp_on h card) b.0, c.1, not-false (status_fits e.status e.value) f.0)

-- the fresh buckets needed remain, and so does a blank of the log
pub checked-inv : (h : Head) (full : Bool) (r : Rise) (new : List ℕ) → checked h full r ≡ accept new
    → (r.fresh ≤ h.n + 1) × (full ≡ false) × (r.card ≡ new)
unfolding checked
checked-inv h full r new q =
    let a = passed (ltb (h.n + 1) r.fresh or full) 6 (accept r.card) new q in
    let b = or-false (ltb (h.n + 1) r.fresh) full a.0 in
    let same : accept r.card ≡ accept new = a.1 in
    (ltb-false (h.n + 1) r.fresh b.0, b.1, cc)
