-- `format::lay_out` puts the head and three entries into blank sectors, as the rule does.
use mathlib.Core.Path.{◌≡◌, ap, ap₂, sym, ◌∙◌}
use mathlib.Core.List.{List}
use Prim.Native.Nat.{ℕ, ◌+◌}
use native.Mathlib.Omega.{arith}
use lib.ListN.{length}
use Rattle.rules.specs.declared.Entry.{Entry}
use Rattle.rules.specs.Sector.{put, encode}
use Rattle.laws.proofs.Heads.{limits-hold}
use Rattle.format.proofs.Blank.{rooted, indexed, enough, long-headed, long-rooted, long-indexed, formatted-is}
use Rattle.format.proofs.lay_out.Goals as goal
use Rattle.format.proofs.lay_out.Goals.{After-write_entry, After-write_entry-2}

pub overflow_add-first : goal.overflow_add-first
overflow_add-first c = let l = limits-hold c.args.head c.requires.0 in omega (arith, l.n4096)

pub overflow_add-second : goal.overflow_add-second
overflow_add-second c = let l = limits-hold c.args.head c.requires.0 in omega (arith, l.n4096, l.m32)

pub write_head-requires : goal.write_head-requires
write_head-requires c =
    let a = c.args in
    let l = limits-hold a.head c.requires.0 in
    let e = enough a.head a.card.now c.requires.0 c.requires.1 c.requires.2 in
    (omega arith, omega (arith, l.m32), omega (arith, l.m32, l.tdm), omega (arith, l.m32, l.tim), omega (arith, l.n4096))

-- the card after the root entry, and after the entry of bucket 1
rooted_at : (q : After-write_entry) → q.write_entry.new.card ≡ rooted q.args.head q.args.card.now
rooted_at q = q.write_entry.ensures ∙ ap₂ (λ (x : List ℕ) (e : Entry). put x 1 (encode e)) q.write_head.ensures q.root.ensures

indexed_at : (q : After-write_entry-2) → q.write_entry-2.new.card ≡ indexed q.args.head q.args.card.now
indexed_at q = q.write_entry-2.ensures ∙ ap₂ (λ (x : List ℕ) (e : Entry). put x (1 + q.args.head.n) (encode e)) (q.write_entry.ensures ∙ ap₂ (λ (x : List ℕ) (e : Entry). put x 1 (encode e)) q.write_head.ensures q.root.ensures) q.index.ensures

pub write_entry-requires : goal.write_entry-requires
write_entry-requires c =
    let a = c.args in
    let l = limits-hold a.head c.requires.0 in
    let e = enough a.head a.card.now c.requires.0 c.requires.1 c.requires.2 in
    let w = ap length c.write_head.ensures ∙ long-headed a.head a.card.now c.requires.0 c.requires.1 c.requires.2 in
    (omega (arith, l.m4), rw c.root.ensures (omega arith, omega arith))

pub write_entry-requires-2 : goal.write_entry-requires-2
write_entry-requires-2 c =
    let a = c.args in
    let l = limits-hold a.head c.requires.0 in
    let e = enough a.head a.card.now c.requires.0 c.requires.1 c.requires.2 in
    let w = ap length (rooted_at (goal.at.write_entry-requires-2 c).After-write_entry) ∙ long-rooted a.head a.card.now c.requires.0 c.requires.1 c.requires.2 in
    (omega (arith, l.m4), rw c.index.ensures (omega arith, omega arith))

pub write_entry-requires-3 : goal.write_entry-requires-3
write_entry-requires-3 c =
    let a = c.args in
    let l = limits-hold a.head c.requires.0 in
    let e = enough a.head a.card.now c.requires.0 c.requires.1 c.requires.2 in
    let w = ap length (indexed_at (goal.at.write_entry-requires-3 c).After-write_entry-2) ∙ long-indexed a.head a.card.now c.requires.0 c.requires.1 c.requires.2 in
    (omega (arith, l.m4), rw c.strike.ensures (omega arith, omega arith))

pub returns : goal.returns
returns c =
    let a = c.args in
    c.write_entry-3.ensures
    ∙ ap₂ (λ (x : List ℕ) (e : Entry). put x (1 + a.head.n + a.head.m) (encode e)) (indexed_at (goal.at.returns c).After-write_entry-2) c.strike.ensures
    ∙ sym (formatted-is a.head a.card.now c.requires.0 c.requires.1 c.requires.2)
