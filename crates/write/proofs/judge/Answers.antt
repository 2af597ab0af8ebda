-- `write::judge` knows what refuses a write, or that nothing does, where the path has places enough.
use mathlib.Core.Path.{◌≡◌, ap, sym, subst, ◌∙◌}
use mathlib.Core.List.{List, [], ◌∷◌}
use native.Mathlib.Omega.{arith}
use Prim.Native.Nat.{ℕ, ◌+◌, ◌≤◌}
use lib.ListN.{length, drop, length-drop}
use Rattle.std.specs.Prelude.{Option, Ok}
use Rattle.std.proofs.lemmas.Result.{err_from_is_err_and}
use Rattle.rules.specs.declared.Entry.{Entry}
use Rattle.rules.specs.declared.Head.{Head}
use Rattle.trail.specs.declared.Trail.{Trail}
use Rattle.rules.specs.Walk.{walk}
use Rattle.rules.specs.Write.{latest}
use Rattle.laws.proofs.Used.{used-within}
use Rattle.climb.specs.declared.Needs.{Needs}
use Rattle.climb.specs.Levels.{needs_of}
use Rattle.climb.specs.Levels as levels
use Rattle.trail.specs.Trail.{Went, track, track_from}
use Rattle.trail.proofs.Tracks.{track_in, track-walk}
use Rattle.level.specs.Level.{AllSmall}
use Rattle.write.specs.declared.Task.{Task}
use Rattle.write.specs.Plans.{walked, Begins, Came}
use Rattle.write.proofs.Laid.{full, counted, start-ready, plan-full}
use Rattle.write.proofs.Codes.{at-refused, at-goes-on, at-came, came-path, barred, tail}
use Rattle.write.proofs.judge.Goals as goal
use Rattle.write.proofs.judge.Goals.{After-walk_down}

-- the walk down is the rule's walk
went : (q : After-walk_down) →
    let a = q.args in
    let card = a.card.now in
    Went q.walk_down.result (length a.path.now) card.head.n q.walk_down.new.path (track_in a.task.entry.key [] (walk card.head card.bytes.now latest a.task.entry.key))
went q =
    let a = q.args in
    let card = a.card.now in
    subst (Went _ _ _ _) (ap (track_from card.head card.bytes.now a.task.entry.key) q.requires.0.root ∙ track-walk card.head card.bytes.now a.task.entry.key) q.walk_down.ensures

pub returns-in_err-trail : goal.returns-in_err-trail
returns-in_err-trail c =
    let card = c.args.card.now in
    let w = went (goal.at.returns-in_err-trail c).After-walk_down in
    let p = err_from_is_err_and c.from_residual.result c.from_residual.ensures.1 in
    rw (p.1, p.2) (barred card.head card.bytes.now c.args.task.entry _ _ _ _ w c.in_err-trail.was, w.long)

-- it came to data: where its path starts, and its track
end : (q : After-walk_down) (t : Trail) → q.walk_down.result ≡ Ok t →
    let card = q.args.card.now in
    let e = q.args.task.entry in
    (t.start ≤ length q.args.path.now) × (Ok (track (drop t.start q.walk_down.new.path) t.copy) ≡ track_in e.key [] (walk card.head card.bytes.now latest e.key))
end q t is = (rw is at (went q)).ends

-- the levels left on it, and the last copy of the key
module _ {h : Head} {card : List ℕ} {task : Task} (begins : Begins h card task) (left : List ℕ) (copy : Option Entry)
    (q : Ok (track left copy) ≡ track_in task.entry.key [] (walk h card latest task.entry.key)) where
  came : Came h card task.entry.key
  came = at-came h card task.entry _ _ q

  levels_met : left ≡ levels.upward (walked h card task.entry.key) []
  levels_met = came-path h card task.entry _ _ q

  ready : levels.Ready h card left (task.used + 1)
  ready = rw (levels_met, begins.used) (start-ready h card begins.head task.entry (walked h card task.entry.key) came)

  -- what was counted along it is what the rule's path needs
  needed : (needs : Needs) (sent : List Entry) → sent ≡ task.entry ∷ [] → needs ≡ needs_of (levels.count_on h task.entry.stamp card left (levels.tally sent (task.used + 1)))
      → needs ≡ needs_of (counted h card begins.head task.entry (walked h card task.entry.key) came)
  needed needs sent one is = is ∙ rw (one, levels_met, begins.used)

pub returns-in_err-admit : goal.returns-in_err-admit
returns-in_err-admit c =
    let q = (goal.at.returns-in_err-admit c).After-walk_down in
    let p = err_from_is_err_and c.from_residual-in_err-admit.result c.from_residual-in_err-admit.ensures.1 in
    let card = c.args.card.now in
    let out = at-refused card.head card.bytes.now c.args.task.entry _ _ (end q _ c.in_ok-trail.was).1 _ (sym c.admit.ensures ∙ c.in_err-admit.was) in
    rw (p.1, p.2) (out, (went q).long)

pub overflow_add-task : goal.overflow_add-task
overflow_add-task c =
    let card = c.args.card.now in
    omega (arith, used-within card.head card.bytes.now card.head.n, c.requires.0.used, card.shape.lim.n4096)

pub count-needs-requires-clause-read : goal.count-needs-requires-clause-read
count-needs-requires-clause-read c =
    let q = (goal.at.count-needs-requires-clause-read c).After-walk_down in
    let fine = c.requires.0.fine.0 in
    (rw (tail q.walk_down.new.path c.in_ok-trail.trail.start) (ready c.requires.0 _ _ (end q _ c.in_ok-trail.was).1).reads, subst AllSmall (sym c.sent_first.ensures) ((fine.kind, fine.status), tt))

pub count-needs-requires-clause-bounds : goal.count-needs-requires-clause-bounds
count-needs-requires-clause-bounds c =
    let q = (goal.at.count-needs-requires-clause-bounds c).After-walk_down in
    let card = c.args.card.now in
    (rw (tail q.walk_down.new.path c.in_ok-trail.trail.start) (simp length-drop (omega (arith, (went q).long, c.requires.1))), omega (arith, used-within card.head card.bytes.now card.head.n, c.requires.0.used, card.shape.lim.n4096))

pub too_full-requires : goal.too_full-requires
too_full-requires c = (ready c.requires.0 _ _ (end (goal.at.too_full-requires c).After-walk_down _ c.in_ok-trail.was).1).logs

pub returns-then-too_full : goal.returns-then-too_full
returns-then-too_full c =
    let q = (goal.at.returns-then-too_full c).After-walk_down in
    let card = c.args.card.now in
    let a = c.args in
    let is = c.in_ok-trail.was in
    let counts = rw (tail q.walk_down.new.path c.in_ok-trail.trail.start) at c.count-needs.ensures in
    let test : full card.head card.bytes.now c.requires.0.head a.task.entry (walked card.head card.bytes.now a.task.entry.key) (came c.requires.0 _ _ (end q _ is).1) ≡ c.too_full.result
    = sym (c.too_full.ensures ∙ rw (needed c.requires.0 _ _ (end q _ is).1 _ _ c.sent_first.ensures counts)) in (
      at-goes-on card.head card.bytes.now a.task.entry _ _ (end q _ is).1 (sym c.admit.ensures ∙ c.in_ok-admit.was)
          ∙ plan-full card.head card.bytes.now c.requires.0.head a.task.entry _ (came c.requires.0 _ _ (end q _ is).1) (test ∙ c.if-too_full.true),
      (went q).long,
    )

pub returns : goal.returns
returns c =
    let q = (goal.at.returns c).After-walk_down in
    let card = c.args.card.now in
    let is = c.in_ok-trail.was in
    let counts = rw (tail q.walk_down.new.path c.in_ok-trail.trail.start) at c.count-needs.ensures in (
      record {
        came = came c.requires.0 _ _ (end q _ is).1;
        goes_on = at-goes-on card.head card.bytes.now c.args.task.entry _ _ (end q _ is).1 (sym c.admit.ensures ∙ c.in_ok-admit.was);
        levels = levels_met c.requires.0 _ _ (end q _ is).1;
        most = omega (arith, (end q _ is).0, (went q).long);
        counted = needed c.requires.0 _ _ (end q _ is).1 _ _ c.sent_first.ensures counts;
        room = sym c.too_full.ensures ∙ c.if-too_full.false;
      },
      (went q).long,
    )
