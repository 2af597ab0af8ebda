-- What is left from sector i on, with the entry whose rank is kept, gives what the whole scan gives.
use Prim.Native.Nat.{◌+◌, ◌%◌, max}
use mathlib.Core.Path.{◌≡◌, refl, ap, sym, ◌∙◌}
use native.Mathlib.Nat.{sub-zero}
use native.Mathlib.Omega.{arith}
use Rattle.std.specs.Prelude.{Ok}
use Rattle.scan.proofs.Loops.{scan-end, scan-held, scan-misfit, scan-blank, scan-hole, scan-damage}
use Rattle.bucket.specs.Places.{found_at, key_at, rank}
use Rattle.bucket.proofs.Places.{rank-turn, place_is}
use Rattle.bucket.proofs.scan_index.Goals as goal
use Rattle.bucket.proofs.scan_index.Goals.{At-loop-i, else-loop-i-test, then-loop-i-test+in-Blank}

pub loop-i-init : goal.loop-i-init
unfolding found_at key_at
loop-i-init c = (0, omega arith, refl, rw sub-zero)

-- the place kept
kept : (q : At-loop-i) → q.loop-i.best % 64 ≡ q.loop-i.invariant.0
kept q = let l = q.loop-i in place_is _ l.invariant.0 l.best (omega (arith, l.auto.i-end, l.invariant.1, q.requires.1)) l.invariant.2

pub loop-i-preserved : goal.loop-i-preserved
loop-i-preserved c =
    let l = c.loop-i in
    let a = c.args in
    let more : c.max-best.result ≡ max l.best (rank a.x a.t c.in-Held.e (l.i + 1)) = omega (arith, c.max-best.ensures, c.rank.ensures) in
    let best = rank-turn a.n a.part.now l.i l.invariant.0 _ (sym c.in-Held.ensures) l.invariant.1 (omega (arith, c.loop-i-test.true, c.requires.1)) a.x a.t l.best _ l.invariant.2 more in
    let rest = scan-held _ _ _ a.n a.count l.i a.part.now _ l.invariant.3 c.loop-i-test.true _ c.in-Held.ensures c.if-index_fits.ensures in
    (best.0, best.1, best.2, rw (← best.3) rest)

pub returns : goal.returns
returns c =
    let a = c.args in
    let l = c.loop-i in
    ap Ok (c.entry_at.ensures ∙ ap (found_at a.part.now) (c.place_of.ensures ∙ kept (goal.at.returns c).At-loop-i)) ∙ elim c.loop-i-test.branch [
      | else-loop-i-test w ↦ scan-end _ _ _ a.n a.count l.i a.part.now _ l.invariant.3 (omega (arith, w.loop-i-test.false))
      | then-loop-i-test+in-Blank w ↦ scan-blank _ _ _ a.n a.count l.i a.part.now _ l.invariant.3 w.loop-i-test.true w.in-Blank.ensures w.if-blank_behind.ensures
    ]

-- the place kept lies in the part
pub entry_at-requires : goal.entry_at-requires
entry_at-requires c = omega (arith, c.place_of.ensures, kept (goal.at.entry_at-requires c).At-loop-i, c.loop-i.auto.i-end, c.loop-i.invariant.1, c.requires.0)

pub returns-in_default : goal.returns-in_default
returns-in_default c =
    let a = c.args in
    scan-misfit _ _ _ a.n a.count c.loop-i.i a.part.now _ c.loop-i.invariant.3 c.loop-i-test.true _ c.in-Held.ensures c.if-index_fits.ensures

pub returns-in_default-2 : goal.returns-in_default-2
returns-in_default-2 c =
    let a = c.args in
    scan-hole _ _ _ a.n a.count c.loop-i.i a.part.now _ c.loop-i.invariant.3 c.loop-i-test.true c.in-Blank.ensures c.if-blank_behind.ensures

pub returns-in_default-3 : goal.returns-in_default-3
returns-in_default-3 c =
    let a = c.args in
    scan-damage _ _ _ a.n a.count c.loop-i.i a.part.now _ c.loop-i.invariant.3 c.loop-i-test.true (sym c.in_default.is ∙ c.at.ensures)
