-- `season::build` lays a season card down, as the rule does: head, dummy, records, index levels, root entry.
use mathlib.Core.Path.{◌≡◌, ap, sym, subst, ◌∙◌}
use mathlib.Core.List.{List}
use Prim.Native.Nat.{ℕ, ◌+◌, ◌-◌, ◌*◌, ◌≤◌}
use native.Mathlib.Omega.{arith}
use lib.ListN.{length}
use Rattle.rules.specs.declared.Entry.{Entry}
use Rattle.rules.specs.Sector.{put, encode, root_entry}
use Rattle.rules.specs.Layout.{head_bytes}
use Rattle.rules.specs.Format.{dummy}
use Rattle.laws.proofs.Heads.{limits-hold, bucket-fits, first-base}
use Rattle.bucket.specs.Shapes.{Shape}
use Rattle.rules.specs.Season.{quota, standing_at}
use Rattle.season.specs.Storeys.{over, laid, fresh, Room}
use Rattle.season.proofs.Counts.{over-some}
use Rattle.season.proofs.Rooms.{level-room}
use Rattle.season.proofs.Built.{quota-fits, data-fits, built-is, records-again, levels-fit, data-laid, fresh-some}
use Rattle.season.proofs.build.Goals as goal
use Rattle.season.proofs.build.Goals.{After-lay_records, After-write_entry, Start}

-- what is known at the start: the target's shape, that it has the buckets that are needed, its front and first sectors
shape_at : (o : Start) → Shape o.args.head o.args.target.now
shape_at o = record { lim = limits-hold o.args.head o.requires.head_value.0; long = sym o.requires.head_value.1 }

quotas-at : (o : Start) → (3 ≤ quota o.args.head) × (quota o.args.head ≤ o.args.head.m)
quotas-at o = quota-fits o.args.head (shape_at o).lim.m4

enough-at : (o : Start) → fresh (quota o.args.head) (o.args.count + 1) ≤ o.args.head.n + 1
enough-at o = rw o.requires.count_value.2 at o.requires.count_value.3

front_at : (o : Start) → 16 * (1 + o.args.head.n) + 64 ≤ length o.args.target.now
front_at o =
    let a = o.args in
    let sh = shape_at o in
    let f = bucket-fits a.head a.target.now 1 sh.long (omega arith) (omega (arith, sh.lim.n2)) in
    omega (arith, first-base a.head, sh.lim.m4)

-- the shape stays
begun-shape : (q : After-write_entry) → Shape q.args.head q.args.target.now → Shape q.args.head q.write_entry.new.card
begun-shape q sh = record { lim = sh.lim; long = omega (arith, sh.long, q.write_entry.auto.card, q.write_head.auto.card) }

records-shape : (q : After-lay_records) → Shape q.args.head q.args.target.now → Shape q.args.head q.lay_records.new.target
records-shape q sh = record { lim = sh.lim; long = omega (arith, sh.long, q.write_entry.auto.card, q.write_head.auto.card, q.lay_records.auto.target) }

-- the data level
laid-at : (q : After-lay_records) → let a = q.args in
    q.lay_records.new.target
    ≡ laid a.head.m (quota a.head) (1 + a.head.n) 1 (put (put a.target.now 0 (head_bytes a.head a.at)) (1 + a.head.n) (encode dummy))
    (standing_at a.card.now a.at).records
laid-at q =
    let a = q.args in
    data-laid a.head a.at a.target.now _ _ _ _ _ _ q.write_head.ensures (rw q.strike.ensures at q.write_entry.ensures) q.quota-q.ensures
    (records-again a.card.now a.at a.count q.requires.count_value.0) q.lay_records.ensures

pub quota-q-requires : goal.quota-q-requires
quota-q-requires c = (shape_at (goal.at.quota-q-requires c).Start).lim.m32

pub overflow_add-first : goal.overflow_add-first
overflow_add-first c = omega (arith, (shape_at (goal.at.overflow_add-first c).Start).lim.n4096)

pub write_head-requires : goal.write_head-requires
write_head-requires c =
    let l = (shape_at (goal.at.write_head-requires c).Start).lim in
    let f = front_at (goal.at.write_head-requires c).Start in
    (omega arith, omega (arith, l.m32), omega (arith, l.m32, l.tdm), omega (arith, l.m32, l.tim), omega (arith, l.n4096))

pub write_entry-requires : goal.write_entry-requires
write_entry-requires c =
    let f = front_at (goal.at.write_entry-requires c).Start in
    rw c.strike.ensures (omega (arith, c.write_head.auto.card), (omega arith, omega arith))

pub lay_records-requires : goal.lay_records-requires
lay_records-requires c =
    let o = (goal.at.lay_records-requires c).Start in
    let a = o.args in
    let qs = quotas-at o in
    let room =
    level-room a.head _ (quota a.head) 1 (a.count + 1) (begun-shape (goal.at.lay_records-requires c).After-write_entry (shape_at o)) (omega (arith, qs)) qs.1 (omega arith)
    (data-fits (quota a.head) _ (a.count + 1) (enough-at o)) in
    let here = subst (λ (i : ℕ). Room a.head.m (quota a.head) i (a.count + 1) c.write_entry.new.card) (first-base a.head) room in
    (rw c.quota-q.ensures here, o.requires.count_value.1)

pub over-c-requires : goal.over-c-requires
over-c-requires c =
    let o = (goal.at.over-c-requires c).Start in
    let qs = quotas-at o in
    let e = c.quota-q.ensures in
    (omega (arith, qs), omega (arith, qs, (shape_at o).lim.m32), omega (arith, o.requires.count_value.1))

pub tower-requires : goal.tower-requires
tower-requires c =
    let records = (goal.at.tower-requires c).After-lay_records in
    let o = (goal.at.tower-requires c).Start in
    let a = o.args in
    let qs = quotas-at o in
    let e = c.quota-q.ensures in
    let many : c.over-c.result ≡ over (quota a.head) (a.count + 1) = c.over-c.ensures ∙ ap (λ (q : ℕ). over q (a.count + 1)) e in
    let s = over-some (quota a.head) (a.count + 1) (omega (arith, qs)) (omega arith) in (
      records-shape records (shape_at o),
      omega (arith, qs),
      omega (arith, qs),
      omega arith,
      omega arith,
      levels-fit (quota a.head) (a.head.n + 1) (a.count + 1) _ _ e c.over-c.ensures (enough-at o),
    )

pub overflow_sub-next : goal.overflow_sub-next
overflow_sub-next c =
    let o = (goal.at.overflow_sub-next c).Start in
    let f = fresh-some (quota o.args.head) (o.args.count + 1) in
    omega (arith, o.requires.count_value.2)

pub overflow_cast-next : goal.overflow_cast-next
overflow_cast-next c = let o = (goal.at.overflow_cast-next c).Start in omega (arith, o.requires.count_value.3, (shape_at o).lim.n4096)

pub write_entry-requires-2 : goal.write_entry-requires-2
write_entry-requires-2 c =
    let o = (goal.at.write_entry-requires-2 c).Start in
    let f = front_at o in
    let root = ap (λ (e : Entry). e.kind) c.root-root.ensures in
    let bare = ap (λ (e : Entry). e.status) c.root-root.ensures in
    (omega (arith, (shape_at o).long, (records-shape (goal.at.write_entry-requires-2 c).After-lay_records (shape_at o)).long, c.tower.auto.target), (omega arith, omega arith))

pub returns : goal.returns
returns c =
    let records = (goal.at.returns c).After-lay_records in
    let o = (goal.at.returns c).Start in
    let a = o.args in
    let whole =
    built-is a.head a.at a.target.now (shape_at o) o.requires.head_value.2 (standing_at a.card.now a.at).records a.count _ _ _ _ o.requires.count_value.0 c.quota-q.ensures
    c.over-c.ensures (enough-at o) (laid-at records) c.tower.ensures in
    c.write_entry-2.ensures ∙ ap (λ (e : Entry). put c.tower.new.target 1 (encode e)) c.root-root.ensures
    ∙ ap (λ (t : List ℕ). put t 1 (encode (root_entry a.at (a.next - 1)))) whole
