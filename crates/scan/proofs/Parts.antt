-- A bucket handed over as a part of the card has the card's sectors; where the walk goes is a bucket of the card; the keys of next rise.
use mathlib.Core.Path.{◌≡◌, refl, ap, ap₂, sym, ◌∙◌, subst}
use mathlib.Core.Bool.{Bool, true, false}
use Prim.Native.Nat.{ℕ, zero, suc, ◌+◌, ◌*◌, ◌-◌, ◌≤◌, ◌<◌}
use native.Mathlib.Omega.{arith}
use mathlib.Core.List.{List, [], ◌∷◌}
use lib.ListN.{length, take, drop, length-drop, take-append-drop}
use lib.Seq.{length-take-le, take-append-le, drop-append-le, drop-drop}
use lib.Dec.{leb, ltb, eqb}
use borrow.Author.Tests.{leb-true, eqb-true, ltb-true}
use Rattle.std.specs.Prelude.{Option, None, Some, Result, Ok, Err}
use Rattle.rules.specs.declared.refusal.Damage.{Damage}
use Rattle.rules.specs.declared.Entry.{Entry}
use Rattle.rules.specs.declared.Head.{Head}
use Rattle.rules.specs.declared.Sector.{Sector}
use Rattle.rules.specs.declared.Sector.TheVariants.{Blank, Held, Damaged}
use Rattle.rules.specs.Bucket.{joins}
use Rattle.rules.specs.Layout.{base}
use Rattle.rules.specs.Plain.{if, ◌&◌, zeros}
use Rattle.rules.specs.Sector.{sector_at, legal, other_row, fields, decode, is_index, is_root}
use Rattle.laws.proofs.Tools.{and-true}
use Rattle.scan.specs.declared.Way.{Way}
use Rattle.scan.specs.declared.Way.TheVariants.{Down, End}
use Rattle.scan.specs.declared.Leg.{Leg}
use Rattle.scan.specs.declared.Leg.TheVariants.{Stand, Over}
use Rattle.scan.specs.Scan.{Found, damaged, root_in, sectors, all_blank, scan_in, over, below, choose, pick, way_of, search, pick_root, search_log}
use Rattle.scan.specs.Look.{search_at, part_of}
use Rattle.scan.specs.Next.{under, above, above_at, pick_up, weigh, stand_in, sectors_of, leg_of, stride, leg_scan, leg_from, leg}

-- a sector of a part of the card
pub sector-part : (card : List ℕ) (o m j : ℕ) → 16 * (o + m) ≤ length card → j < m → sector_at (take (16 * m) (drop (16 * o) card)) j ≡ sector_at card (o + j)
unfolding sector_at
sector-part card o m j long lt =
    let rest = drop (16 * o) card in
    let p = take (16 * m) rest in
    let lr : length rest ≡ length card - 16 * o = length-drop (16 * o) card in
    let lp : length p ≡ 16 * m = length-take-le (16 * m) rest (omega arith) in
    let ld : length (drop (16 * j) p) ≡ length p - 16 * j = length-drop (16 * j) p in
    sym (take-append-le 16 (drop (16 * j) p) (drop (16 * m) rest) (omega arith))
    ∙ ap (take 16) (sym (drop-append-le (16 * j) p (drop (16 * m) rest) (omega arith)))
    ∙ ap (λ (l : List ℕ). take 16 (drop (16 * j) l)) (take-append-drop (16 * m) rest)
    ∙ ap (take 16) (drop-drop (16 * j) (16 * o) card)
    ∙ ap (λ (i : ℕ). take 16 (drop i card)) (let z : 16 * o + 16 * j ≡ 16 * (o + j) = omega arith in z)

pub sectors-part : (n : ℕ) (card : List ℕ) (o m i c : ℕ) → 16 * (o + m) ≤ length card → i + c ≤ m
    → sectors n (take (16 * m) (drop (16 * o) card)) i c ≡ sectors n card (o + i) c
unfolding sectors
sectors-part n card o m i zero long le = refl
sectors-part n card o m i (suc c) long le =
    ap₂ (λ (s : List ℕ) (r : List Sector). decode n s ∷ r) (sector-part card o m i long (omega arith))
    (sectors-part n card o m (suc i) c long (omega arith)
    ∙ ap (λ (k : ℕ). sectors n card k c) (let z : o + suc i ≡ suc (o + i) = omega arith in z))

-- the sectors of bucket b are those of its part
pub part-sectors : (h : Head) (card : List ℕ) (b : ℕ) → 16 * (base h b + h.m) ≤ length card
    → sectors h.n (part_of h card b) 0 h.m ≡ sectors_of h card b
unfolding part_of sectors_of
part-sectors h card b long =
    sectors-part h.n card (base h b) h.m 0 h.m long (omega arith)
    ∙ ap (λ (i : ℕ). sectors h.n card i h.m) (let z : base h b + 0 ≡ base h b = omega arith in z)

-- the bucket's scan is the scan of its part
pub search-part : (h : Head) (card : List ℕ) (x t b k : ℕ) → 1 ≤ b → 16 * (base h b + h.m) ≤ length card
    → search k x t (sectors h.n (part_of h card b) 0 h.m) ≡ search_at h card x t b k
unfolding search_at sectors_of
search-part h card x t zero k one long = absurd (omega arith)
search-part h card x t (suc b) k one long = ap (search k x t) (part-sectors h card (suc b) long)

-- the entries that are read keep their row
abbrev Fine : ℕ → Sector → Type 0
Fine n Blank = Unit {0}
Fine n (Held e) = legal n e ≡ true
Fine n Damaged = Unit {0}

abbrev AllFine : ℕ → List Sector → Type 0
AllFine n [] = Unit {0}
AllFine n (s ∷ ss) = Fine n s × AllFine n ss

held-fine : (n : ℕ) (a l : Bool) (e : Entry) → legal n e ≡ l → Fine n (if (a & l) (Held e) Damaged)
held-fine n true true e h = h
held-fine n true false e h = tt
held-fine n false l e h = tt

decode-fine : (n : ℕ) (s : List ℕ) → Fine n (decode n s)
unfolding decode
decode-fine n s =
    elim (zeros s) as (λ b. Fine n (if b Blank (if (zeros (take 2 (drop 2 s)) & legal n (fields s)) (Held (fields s)) Damaged)))
    [ true ↦ tt | false ↦ held-fine n (zeros (take 2 (drop 2 s))) (legal n (fields s)) (fields s) refl ]

sectors-fine : (n : ℕ) (card : List ℕ) (i c : ℕ) → AllFine n (sectors n card i c)
unfolding sectors
sectors-fine n card i zero = tt
sectors-fine n card i (suc c) = (decode-fine n (sector_at card i), sectors-fine n card (suc i) c)

-- what is found, if anything, has P
abbrev Sure : (Entry → Type 0) → Option Entry → Type 0
Sure P None = Unit {0}
Sure P (Some e) = P e

if-sure : (P : Entry → Type 0) (b : Bool) (f g : Option Entry) → (b ≡ true → Sure P f) → Sure P g → Sure P (if b f g)
if-sure P true f g a c = a refl
if-sure P false f g a c = c

-- and so what a scan found, if it met no damage
abbrev FoundSure : (Entry → Type 0) → Found → Type 0
FoundSure P (Err d) = Unit {0}
FoundSure P (Ok r) = Sure P r

if-found : (P : Entry → Type 0) (b : Bool) (f : Found) → (b ≡ true → FoundSure P f) → FoundSure P (if b f damaged)
if-found P true f a = a refl
if-found P false f a = tt

scan-sure : (n : ℕ) (P : Entry → Type 0) (ok : Entry → Bool) (pick : Option Entry → Entry → Option Entry)
    → ((best : Option Entry) (e : Entry) → ok e ≡ true → legal n e ≡ true → Sure P best → Sure P (pick best e))
    → (ss : List Sector) → AllFine n ss → (best : Option Entry) → Sure P best → FoundSure P (scan_in ok pick ss best)
unfolding scan_in
scan-sure n P ok pick step [] fine best s = s
scan-sure n P ok pick step (Blank ∷ ss) fine best s = if-found P (all_blank ss) (Ok best) (λ e. s)
scan-sure n P ok pick step (Held e ∷ ss) fine best s =
    if-found P (ok e) (scan_in ok pick ss (pick best e)) (λ o. scan-sure n P ok pick step ss fine.1 (pick best e) (step best e o fine.0 s))
scan-sure n P ok pick step (Damaged ∷ ss) fine best s = tt

-- a bucket of the card
abbrev pub Inside : ℕ → Entry → Type 0
Inside n e = (1 ≤ e.value) × (e.value ≤ n)

index-inside : (n : ℕ) (e : Entry) → is_index e ≡ true → legal n e ≡ true → Inside n e
unfolding is_index legal other_row
index-inside n e i l =
    let k : e.kind ≡ 3 = eqb-true e.kind 3 i in
    let m : (leb 1 e.value & leb e.value n) & eqb e.status 0 ≡ true = rw k at l in
    let a = and-true (leb 1 e.value) (leb e.value n) (and-true (leb 1 e.value & leb e.value n) (eqb e.status 0) m).0 in
    (leb-true 1 e.value a.0, leb-true e.value n a.1)

root-inside : (n : ℕ) (e : Entry) → is_root e ≡ true → legal n e ≡ true → Inside n e
unfolding is_root legal other_row
root-inside n e i l =
    let k : e.kind ≡ 4 = eqb-true e.kind 4 i in
    let row = eqb e.key 0 & leb 1 e.value & leb e.value n in
    let m : row & eqb e.status 0 ≡ true = rw k at l in
    let w = and-true (eqb e.key 0) (leb 1 e.value & leb e.value n) (and-true row (eqb e.status 0) m).0 in
    let a = and-true (leb 1 e.value) (leb e.value n) w.1 in
    (leb-true 1 e.value a.0, leb-true e.value n a.1)

joins-index : (h e : Entry) → is_index h ≡ true → joins h e ≡ true → is_index e ≡ true
unfolding joins
joins-index h e i j =
    let m : is_index e & leb h.key e.key ≡ true = rw i at j in
    (and-true (is_index e) (leb h.key e.key) m).0

over-sure : (P : Entry → Type 0) (best : Option Entry) (e : Entry) → P e → Sure P best → Sure P (over best e)
unfolding over
over-sure P None e p s = p
over-sure P (Some o) e p s = if-sure P (leb o.key e.key) (Some e) (Some o) (λ b. p) s

pick-sure : (P : Entry → Type 0) (x t : ℕ) (best : Option Entry) (e : Entry) → P e → Sure P best → Sure P (pick true x t best e)
unfolding pick choose below
pick-sure P x t best e p s =
    if-sure P (leb e.stamp t) (if (leb e.key x) (over best e) best) best
    (λ a. if-sure P (leb e.key x) (over best e) best (λ b. over-sure P best e p s) s) s

abbrev WaySure : (Entry → Type 0) → Result Way Damage → Type 0
WaySure P (Err d) = Unit {0}
WaySure P (Ok (Down e)) = P e
WaySure P (Ok (End c)) = Unit {0}

way-sure : (P : Entry → Type 0) (i : Bool) (f : Found) → (i ≡ true → FoundSure P f) → WaySure P (way_of i f)
unfolding way_of
way-sure P true (Err d) s = tt
way-sure P false (Err d) s = tt
way-sure P true (Ok None) s = tt
way-sure P true (Ok (Some e)) s = s refl
way-sure P false (Ok r) s = tt

search-sure : (n k x t : ℕ) (ss : List Sector) → AllFine n ss → WaySure (Inside n) (search k x t ss)
unfolding search
search-sure n k x t [] f = tt
search-sure n k x t (Blank ∷ ss) f = tt
search-sure n k x t (Held h ∷ ss) f =
    let w : WaySure (Inside n) (way_of (is_index h) (scan_in (joins h) (pick (is_index h) x t) (Held h ∷ ss) None))
    = way-sure (Inside n) (is_index h) (scan_in (joins h) (pick (is_index h) x t) (Held h ∷ ss) None)
    (λ (i : is_index h ≡ true). rw i
    (scan-sure n (Inside n) (joins h) (pick true x t)
    (λ best e o l s. pick-sure (Inside n) x t best e (index-inside n e (joins-index h e i o) l) s) (Held h ∷ ss) f None tt)) in
    elim (eqb h.key k) as (λ b. WaySure (Inside n) (if b (way_of (is_index h) (scan_in (joins h) (pick (is_index h) x t) (Held h ∷ ss) None)) damaged))
    [ true ↦ w | false ↦ tt ]
search-sure n k x t (Damaged ∷ ss) f = tt

at-sure : (h : Head) (card : List ℕ) (x t b k : ℕ) → WaySure (Inside h.n) (search_at h card x t b k)
unfolding search_at
at-sure h card x t zero k = tt
at-sure h card x t (suc b) k =
    search-sure h.n k x t (sectors h.n card (base h (suc b)) h.m) (sectors-fine h.n card (base h (suc b)) h.m)

-- an index entry that is followed names a bucket of the card
pub down-inside : (h : Head) (card : List ℕ) (x t b k : ℕ) (s : Result Way Damage) (e : Entry) → s ≡ search_at h card x t b k → s ≡ Ok (Down e) → Inside h.n e
down-inside h card x t b k s e said is = let q = sym said ∙ is in subst (WaySure (Inside h.n)) q (at-sure h card x t b k)

abbrev RootSure : (Entry → Type 0) → Result Entry Damage → Type 0
RootSure P (Err d) = Unit {0}
RootSure P (Ok e) = P e

root-sure : (P : Entry → Type 0) (f : Found) → FoundSure P f → RootSure P (root_in f)
unfolding root_in
root-sure P (Err d) s = tt
root-sure P (Ok None) s = tt
root-sure P (Ok (Some e)) s = s

-- and so does the root entry
pub root-found : (n : ℕ) (card : List ℕ) (t i c : ℕ) (e : Entry) → root_in (search_log t (sectors n card i c)) ≡ Ok e → Inside n e
unfolding search_log pick_root
root-found n card t i c e q =
    let is = subst (RootSure (Inside n)) q in
    is (root-sure (Inside n) (scan_in is_root (pick_root t) (sectors n card i c) None)
    (scan-sure n (Inside n) is_root (pick_root t)
    (λ best d o l s. if-sure (Inside n) (leb d.stamp t) (Some d) best (λ b. root-inside n d o l) s)
    (sectors n card i c) (sectors-fine n card i c) None tt))

-- the keys that next walks to rise
abbrev Above : ℕ → Entry → Type 0
Above x e = x < e.key

under-sure : (P : Entry → Type 0) (best : Option Entry) (e : Entry) → P e → Sure P best → Sure P (under best e)
unfolding under
under-sure P None e p s = p
under-sure P (Some o) e p s = if-sure P (leb e.key o.key) (Some e) (Some o) (λ b. p) s

up-sure : (x t : ℕ) (best : Option Entry) (e : Entry) → Sure (Above x) best → Sure (Above x) (pick_up x t best e)
unfolding pick_up above_at above
up-sure x t best e s =
    if-sure (Above x) (is_index e) (if (leb e.stamp t) (if (ltb x e.key) (under best e) best) best) best
    (λ i. if-sure (Above x) (leb e.stamp t) (if (ltb x e.key) (under best e) best) best
    (λ a. if-sure (Above x) (ltb x e.key) (under best e) best (λ b. under-sure (Above x) best e (ltb-true x e.key b) s) s) s) s

weigh-sure : (x t : ℕ) (ss : List Sector) (best : Option Entry) → Sure (Above x) best → Sure (Above x) (weigh (pick_up x t) ss best)
unfolding weigh
weigh-sure x t [] best s = s
weigh-sure x t (Blank ∷ ss) best s = s
weigh-sure x t (Held e ∷ ss) best s = weigh-sure x t ss (pick_up x t best e) (up-sure x t best e s)
weigh-sure x t (Damaged ∷ ss) best s = s

abbrev LegSure : (Entry → Type 0) → Result Leg Damage → Type 0
LegSure P (Err d) = Unit {0}
LegSure P (Ok (Stand e)) = Unit {0}
LegSure P (Ok (Over f)) = Sure P f

legof-sure : (P : Entry → Type 0) (f up : Option Entry) → Sure P up → LegSure P (Ok (leg_of f up))
unfolding leg_of
legof-sure P None up s = s
legof-sure P (Some e) up s = tt

stride-sure : (P : Entry → Type 0) (w : Result Way Damage) (here : Leg) (on : ℕ → ℕ → Result Leg Damage) → LegSure P (Ok here) → ((b k : ℕ) → LegSure P (on b k)) → LegSure P (stride w here on)
unfolding stride
stride-sure P (Err d) here on s f = tt
stride-sure P (Ok (Down e)) here on s f = f e.value e.key
stride-sure P (Ok (End c)) here on s f = s

scan-leg : (h : Head) (card : List ℕ) (k x t f : ℕ) (up : Option Entry) → Sure (Above x) up → (b j : ℕ) → LegSure (Above x) (leg_scan h card k x t f up b j)
unfolding leg_scan
scan-leg h card k x t zero up s b j = tt
scan-leg h card k x t (suc f) up s b j =
    let more = weigh (pick_up x t) (sectors_of h card b) up in
    let sure = weigh-sure x t (sectors_of h card b) up s in
    stride-sure (Above x) (search_at h card x t b j) (leg_of (stand_in k t (sectors_of h card b) None) more) (leg_scan h card k x t f more)
    (legof-sure (Above x) (stand_in k t (sectors_of h card b) None) more sure) (λ c i. scan-leg h card k x t f more sure c i)

from-sure : (h : Head) (card : List ℕ) (k x t : ℕ) (o : Result Entry Damage) → LegSure (Above x) (leg_from h card k x t o)
unfolding leg_from
from-sure h card k x t (Err d) = tt
from-sure h card k x t (Ok e) = scan-leg h card k x t h.n None tt e.value 0

pub over-above : (h : Head) (card : List ℕ) (k t x : ℕ) (e : Entry) → leg h card k t x ≡ Ok (Over (Some e)) → x < e.key
unfolding leg
over-above h card k t x e q = subst (LegSure (Above x)) q (from-sure h card k x t (root_in (search_log t (sectors h.n card 1 h.n))))
