-- `write::lay` follows the rule's plan along the path that was judged, and tells the numbers of the card it leaves.
use mathlib.Core.Path.{◌≡◌, ap, sym, subst, ◌∙◌}
use Rattle.level.specs.Level.{AllSmall}
use mathlib.Core.Bool.{false}
use mathlib.Core.List.{List}
use Prim.Native.Nat.{ℕ, ◌+◌, ◌≤◌}
use native.Mathlib.Omega.{arith}
use borrow.Author.Rules.{rules}
use lib.Dec.{ltb, eqb}
use lib.ListN.{length, drop}
use Rattle.rules.specs.declared.Head.{Head}
use Rattle.rules.specs.Plain.{◌&◌, ◌or◌}
use Rattle.rules.specs.Bucket.{log_blanks}
use Rattle.rules.specs.Write.{accept}
use Rattle.laws.proofs.Used.{used-within}
use Rattle.laws.proofs.Bytes.{Bytes, get-bytes}
use Rattle.bucket.proofs.Room.{shape_of}
use Rattle.climb.specs.declared.Needs.{Needs}
use Rattle.climb.specs.Levels as levels
use Rattle.write.specs.declared.Task.{Task}
use Rattle.write.specs.declared.Verdict.{Verdict}
use Rattle.write.specs.Plans.{walked, Begins, Ready}
use Rattle.write.proofs.Laid.{full, start-ready, plan-room, top, top_within, some-fresh, used-left, root-left}
use Rattle.write.proofs.Codes.{tail}
use Rattle.write.proofs.lay.Goals as goal

-- a write that was judged
module _ {h : Head} {card path : List ℕ} {task : Task} {v : Verdict} (begins : Begins h card task) (go : Ready h card task.entry path v.start v.needs) where
  -- the path that was lent is the walk's, and the buckets above `used` are blank
  ready : levels.Ready h card (drop v.start path) (task.used + 1)
  ready = rw (go.levels, begins.used) (start-ready h card begins.head task.entry (walked h card task.entry.key) go.came)

  room : full h card begins.head task.entry (walked h card task.entry.key) go.came ≡ false
  room = subst (λ (y : Needs). (ltb (h.n + 1) y.fresh or (y.root & eqb (length (log_blanks h card)) 0)) ≡ false) go.counted go.room

  -- the buckets needed are some, and few
  few : (1 ≤ v.needs.fresh) × (v.needs.fresh ≤ 4097)
  few = rw go.counted (some-fresh h card begins.head task.entry _ go.came room)

pub overflow_add-fresh : goal.overflow_add-fresh
overflow_add-fresh c =
    let a = c.args in
    omega (arith, used-within a.head a.card.now a.head.n, c.requires.0.used, (shape_of a.card.now a.head c.requires.0.head).lim.n4096)

pub rise-requires-clause-ready : goal.rise-requires-clause-ready
rise-requires-clause-ready c =
    let fine = c.requires.0.fine.0 in
    (rw (tail c.args.path.now c.args.v.start) (ready c.requires.0 c.requires.1), subst AllSmall (sym c.sent_first.ensures) ((fine.kind, fine.status), tt))

pub rise-requires-clause-card_bound : goal.rise-requires-clause-card_bound
rise-requires-clause-card_bound c =
    let a = c.args in
    let lim = top_within a.head a.card.now c.requires.0.head a.task.entry _ c.requires.1.came (room c.requires.0 c.requires.1) in
    rw (tail a.path.now a.v.start, c.sent_first.ensures, c.requires.1.levels, c.requires.0.used) lim

pub overflow_sub-result : goal.overflow_sub-result
overflow_sub-result c = (few c.requires.0 c.requires.1).0

pub root_after-requires : goal.root_after-requires
root_after-requires c = few c.requires.0 c.requires.1

pub returns : goal.returns
returns c =
    let a = c.args in
    let b = c.requires.0 in
    let g = c.requires.1 in
    let by : Bytes a.card.now = get-bytes a.card.now (λ i. search rules) in
    let is = plan-room a.head a.card.now b.head a.task.entry _ g.came (room b g) in
    let after = c.rise.new.card in
    let left : (top a.head a.card.now b.head a.task.entry (walked a.head a.card.now a.task.entry.key) g.came).card ≡ after
    = rw (c.rise.ensures, tail a.path.now a.v.start, c.sent_first.ensures, g.levels, b.used) in (
      g.goes_on ∙ is ∙ ap accept left,
      rw (g.counted, ← left) (used-left a.head a.card.now b.head a.task.entry _ g.came by b.fine (room b g)),
      rw (c.root_after.ensures, g.counted, ← left) (root-left a.head a.card.now b.head a.task.entry _ g.came by b.fine (room b g) a.task.root b.root),
    )
