-- `climb::write_log` writes a root entry at the first blank of the log.
use mathlib.Core.Path.{◌≡◌, ap, sym, ◌∙◌}
use mathlib.Core.List.{List, [], ◌∷◌}
use Prim.Native.Nat.{ℕ, ◌+◌, ◌-◌}
use native.Mathlib.Omega.{arith}
use Rattle.rules.specs.declared.Entry.{Entry}
use Rattle.level.specs.Level.{used_of}
use Rattle.laws.proofs.Heads.{log-fits}
use Rattle.rules.specs.Sector.{put, encode, root_entry}
use Rattle.rules.specs.Rewrite.{fill}
use Rattle.laws.proofs.Blanks.{up_from}
use Rattle.climb.proofs.Laying.{fill-up, log-reads}
use Rattle.climb.proofs.write_log.Goals as goal

pub write_entry-requires : goal.write_entry-requires
write_entry-requires c =
    let fits = log-fits c.args.head c.args.card.now c.requires.0.long in
    (omega (arith, c.if-room.true, fits), rw c.root.ensures (omega arith, omega arith))

pub returns-then-room : goal.returns-then-room
returns-then-room c =
    let a = c.args in
    let e : Entry = root_entry a.stamp a.root in
    let lg = log-reads a.head a.card.now c.requires.1.0 c.requires.0 c.requires.1.1 in
    let is : c.used-used.result ≡ lg.count = c.used-used.ensures.1 ∙ ap (λ (p : List ℕ). used_of 0 p 0 a.head.n) c.log.ensures.0 ∙ lg.used in
    c.write_entry.ensures ∙ ap (λ (d : Entry). put a.card.now (1 + c.used-used.result) (encode d)) c.root.ensures ∙ ap (λ (k : ℕ). put a.card.now (1 + k) (encode e)) is
    ∙ sym (ap (λ (l : List ℕ). fill a.card.now l (e ∷ [])) lg.blank ∙ fill-up a.card.now (1 + lg.count) (a.head.n - lg.count) (e ∷ []) (omega (arith, c.if-room.true)))

pub returns-else-room : goal.returns-else-room
unfolding fill
returns-else-room c =
    let a = c.args in
    let e : Entry = root_entry a.stamp a.root in
    let lg = log-reads a.head a.card.now c.requires.1.0 c.requires.0 c.requires.1.1 in
    let is : c.used-used.result ≡ lg.count = c.used-used.ensures.1 ∙ ap (λ (p : List ℕ). used_of 0 p 0 a.head.n) c.log.ensures.0 ∙ lg.used in
    let none : a.head.n - lg.count ≡ 0 = omega (arith, c.if-room.false) in
    sym (ap (λ (l : List ℕ). fill a.card.now l (e ∷ [])) (lg.blank ∙ ap (up_from (1 + lg.count)) none))
