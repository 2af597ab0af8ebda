-- `bucket::entry_at` reads the entry at a place.
use mathlib.Core.Path.{◌≡◌, ap, sym, ◌∙◌}
use Prim.Native.Nat.{suc}
use native.Mathlib.Omega.{arith}
use Rattle.std.specs.Prelude.{Some}
use Rattle.bucket.specs.Places.{found_at}
use Rattle.bucket.proofs.entry_at.Goals as goal

pub returns-in_err-i : goal.returns-in_err-i
unfolding found_at
returns-in_err-i c =
    let none : c.args.place ≡ 0 = omega (arith, c.in_err-i.ensures) in
    rw (c.from_residual.ensures, none)

pub returns : goal.returns
unfolding found_at
returns c =
    let k : c.args.place ≡ suc c.in_ok-i.i = omega (arith, c.in_ok-i.ensures) in
    ap Some c.fields_at.ensures ∙ ap (found_at c.args.part.now) (sym k)
