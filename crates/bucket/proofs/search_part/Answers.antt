-- The header decides, or the scan of a bucket of its class does.
use mathlib.Core.Path.{◌≡◌, ap, ◌∙◌, sym}
use mathlib.Core.Bool.{true, false}
use Rattle.std.proofs.lemmas.Result.{err_from_is_err_and}
use Rattle.std.specs.Prelude.{None}
use Rattle.scan.specs.Scan.{sectors, scan_in, pick, way_of, search}
use Rattle.scan.proofs.Loops.{first-none, first-other}
use Rattle.bucket.specs.Places.{index_fits, data_fits}
use Rattle.bucket.proofs.Places.{search-index, search-data, down-none, down-some}
use Rattle.bucket.proofs.search_part.Goals as goal
use Rattle.bucket.proofs.search_part.Goals.{After-is_index}

pub returns-in_default : goal.returns-in_default
returns-in_default c =
    first-none _ _ _ c.args.n c.args.m c.args.part.now _ c.requires.le_m.0 c.at.ensures c.in_default.not-Held

pub returns-then-astray : goal.returns-then-astray
returns-then-astray c =
    first-other _ _ _ c.args.n c.args.m c.args.part.now _ c.requires.le_m.0 c.at.ensures _ c.in-Held.is c.if-astray.true

-- the scan of an index bucket
index : (q : After-is_index) → q.is_index.result ≡ true →
    let a = q.args in
    way_of true (scan_in (index_fits a.header) (pick true a.key a.stamp) (sectors a.n a.part.now 0 a.m) None) ≡ search a.header a.key a.stamp (sectors a.n a.part.now 0 a.m)
index q is =
    search-index _ _ _ q.args.n q.args.m q.args.part.now _ q.requires.le_m.0 q.at.ensures _ q.in-Held.is q.if-astray.false (sym q.is_index.ensures ∙ is)

-- the scan of a data bucket
data_scan : (q : After-is_index) → q.is_index.result ≡ false →
    let a = q.args in
    way_of false (scan_in (data_fits a.header) (pick false a.key a.stamp) (sectors a.n a.part.now 0 a.m) None) ≡ search a.header a.key a.stamp (sectors a.n a.part.now 0 a.m)
data_scan q is =
    search-data _ _ _ q.args.n q.args.m q.args.part.now _ q.requires.le_m.0 q.at.ensures _ q.in-Held.is q.if-astray.false (sym q.is_index.ensures ∙ is)

pub returns-in_err-scan_index : goal.returns-in_err-scan_index
unfolding way_of
returns-in_err-scan_index c =
    let p = err_from_is_err_and c.from_residual.result c.from_residual.ensures.1 in
    p.1 ∙ ap (way_of true) (sym c.in_err-scan_index.was ∙ c.scan_index.ensures) ∙ index (goal.at.returns-in_err-scan_index c).After-is_index c.if-is_index.true

pub returns-in_err-down : goal.returns-in_err-down
returns-in_err-down c =
    let p = err_from_is_err_and c.from_residual-in_err-down.result c.from_residual-in_err-down.ensures.1 in
    p.1 ∙ down-none _ _ (sym c.ok_or.ensures.value ∙ c.in_err-down.was)
    ∙ ap (way_of true) (sym c.in_ok-scan_index.was ∙ c.scan_index.ensures) ∙ index (goal.at.returns-in_err-down c).After-is_index c.if-is_index.true

pub returns-then-is_index : goal.returns-then-is_index
returns-then-is_index c =
    down-some _ _ (sym c.ok_or.ensures.value ∙ c.in_ok-down.was)
    ∙ ap (way_of true) (sym c.in_ok-scan_index.was ∙ c.scan_index.ensures) ∙ index (goal.at.returns-then-is_index c).After-is_index c.if-is_index.true

pub returns-in_err-copy : goal.returns-in_err-copy
unfolding way_of
returns-in_err-copy c =
    let p = err_from_is_err_and c.from_residual-in_err-copy.result c.from_residual-in_err-copy.ensures.1 in
    p.1 ∙ ap (way_of false) (sym c.in_err-copy.was ∙ c.scan_data.ensures) ∙ data_scan (goal.at.returns-in_err-copy c).After-is_index c.if-is_index.false

pub returns : goal.returns
unfolding way_of
returns c =
    ap (way_of false) (sym c.in_ok-copy.was ∙ c.scan_data.ensures) ∙ data_scan (goal.at.returns c).After-is_index c.if-is_index.false
