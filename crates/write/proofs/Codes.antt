-- The refusals of a write in their order, as its functions give them.
use mathlib.Core.Path.{◌≡◌, refl, ap, sym, ◌∙◌}
use mathlib.Core.Logic.{⊎_elim}
use mathlib.Core.Bool.{Bool, true, false, not}
use mathlib.Core.List.{List, []}
use Prim.Native.Nat.{ℕ, ◌-◌}
use native.Mathlib.Omega.{arith}
use lib.Dec.{leb}
use lib.ListN.{length, take, drop, length-drop}
use lib.Seq.{take_all}
use borrow.Author.Tests.{leb-false, eqb-false}
use Rattle.std.specs.Prelude.{Option, None, Some, Result, Ok, Err}
use Rattle.rules.specs.declared.Entry.{Entry}
use Rattle.rules.specs.declared.Head.{Head}
use Rattle.rules.specs.declared.refusal.Refusal.{Refusal}
use Rattle.rules.specs.declared.refusal.Refusal.TheVariants.{NothingStands}
use Rattle.rules.specs.Answers.{refused, ended}
use Rattle.rules.specs.Refusals.{number}
use Rattle.rules.specs.Plain.{if, ◌&◌, ◌or◌, is_none}
use Rattle.rules.specs.Sector.{is_post}
use Rattle.rules.specs.Layout.{head_of}
use Rattle.rules.specs.Walk.{Visit, walk, standing, stands_on, copy_of, left, data_of}
use Rattle.rules.specs.Write.{Plan, refuse, refuse_if, plan_answer, plan_card, plan_on, plan_at, plan_for, plan, stamp_on, latest}
use Rattle.laws.proofs.Tools.{bool_cases}
use Rattle.laws.proofs.Entries.{Asks, Fine, asks-fine}
use Rattle.sector.specs.Flaws as flaws
use Rattle.sector.proofs.Flaws.{checked-refuses, checked-fine}
use Rattle.scan.specs.Scan.{damaged}
use Rattle.climb.specs.Levels.{upward}
use Rattle.trail.specs.declared.Trail.{Trail}
use Rattle.trail.specs.declared.Astray.{Astray}
use Rattle.trail.specs.declared.Astray.TheVariants.{Damaged}
use Rattle.trail.specs.declared.Astray.TheVariants as Ways
use Rattle.trail.specs.Trail.{Track, track, Went}
use Rattle.trail.proofs.Tracks.{track_in}
use Rattle.write.specs.declared.Entered.{Entered}
use Rattle.write.specs.Plans.{stands, admitted, barred_by, path_or, walked, Came, Judged, Did}

-- nothing stands where the last copy is none, or a strike
unstood : (copy : Option Entry) → is_none (standing copy) ≡ not (stands copy)
unfolding is_none standing stands
unstood None = refl
unstood (Some d) = ⊎_elim (λ (t : is_post d ≡ true). rw t) (λ (t : is_post d ≡ false). rw t) (bool_cases (is_post d))

abbrev let_in : Bool → Bool → Result (Unit {0}) Refusal
let_in post stood = if (post or stood) (Ok tt) (Err NothingStands)

kept_out : (post stood : Bool) (r : Refusal) (p : Plan) → let_in post stood ≡ Err r → refuse_if (not post & not stood) 5 p ≡ refuse (number r)
unfolding refuse_if
kept_out true stood r p q = absurd cc
kept_out false true r p q = absurd cc
kept_out false false r p q = let e : NothingStands ≡ r = cc in ap (λ (x : Refusal). refuse (number x)) e

goes_by : (post stood : Bool) (p : Plan) → let_in post stood ≡ Ok tt → refuse_if (not post & not stood) 5 p ≡ p
unfolding refuse_if
goes_by true stood p q = refl
goes_by false true p q = refl
goes_by false false p q = absurd cc

-- what the end of the walk to an entry's bib has against it
module _ (h : Head) (card : List ℕ) (e : Entry) where
  abbrev plan_now : Plan
  plan_now = plan_at h card e (walk h card latest e.key)

  -- the walk met damage
  pub at-lost : damaged ≡ track_in e.key [] (walk h card latest e.key) → plan_now ≡ refuse 4
  unfolding plan_at track_in
  at-lost q = go (walk h card latest e.key) q
    where
      go : (o : Option (List Visit)) → damaged ≡ track_in e.key [] o → plan_at h card e o ≡ refuse 4
      go None q = refl
      go (Some p) q = absurd cc

  module _ (path : List ℕ) (copy : Option Entry) (q : Ok (track path copy) ≡ track_in e.key [] (walk h card latest e.key)) where
    -- it came to data
    pub at-came : Came h card e.key
    unfolding walked track_in
    at-came = go (walk h card latest e.key) q
      where
        go : (o : Option (List Visit)) → Ok (track path copy) ≡ track_in e.key [] o → o ≡ Some (path_or o)
        go None q = absurd cc
        go (Some p) q = refl

    -- along this path
    pub came-path : path ≡ upward (walked h card e.key) []
    unfolding walked track_in
    came-path = go (walk h card latest e.key) q
      where
        go : (o : Option (List Visit)) → Ok (track path copy) ≡ track_in e.key [] o → path ≡ upward (path_or o) []
        go None q = absurd cc
        go (Some p) q = let same : track path copy ≡ track (upward p []) (copy_of e.key (left latest (data_of p))) = cc in ap (λ (t : Track). t.path) same

    last : copy ≡ copy_of e.key (left latest (data_of (walked h card e.key)))
    unfolding walked track_in
    last = go (walk h card latest e.key) q
      where
        go : (o : Option (List Visit)) → Ok (track path copy) ≡ track_in e.key [] o → copy ≡ copy_of e.key (left latest (data_of (path_or o)))
        go None q = absurd cc
        go (Some p) q = let same : track path copy ≡ track (upward p []) (copy_of e.key (left latest (data_of p))) = cc in ap (λ (t : Track). t.copy) same

    asked : plan_now ≡ refuse_if (not (is_post e) & not (stands copy)) 5 (plan_on h card e (walked h card e.key))
    unfolding plan_at stands_on
    asked =
        ap (plan_at h card e) at-came
        ∙ ap (λ (c : Option Entry). refuse_if (not (is_post e) & is_none (standing c)) 5 (plan_on h card e (walked h card e.key))) (sym last)
        ∙ ap (λ (b : Bool). refuse_if (not (is_post e) & b) 5 (plan_on h card e (walked h card e.key))) (unstood copy)

    pub at-refused : (r : Refusal) → admitted e copy ≡ Err r → plan_now ≡ refuse (number r)
    unfolding admitted
    at-refused r out = asked ∙ kept_out (is_post e) (stands copy) r _ out

    pub at-goes-on : admitted e copy ≡ Ok tt → plan_now ≡ plan_on h card e (walked h card e.key)
    unfolding admitted
    at-goes-on in_ = asked ∙ goes_by (is_post e) (stands copy) _ in_

  -- a walk that came to no data, or was too deep
  pub barred : (r : Result Trail Astray) (places : ℕ) (path : List ℕ) (a : Astray) → Went r places h.n path (track_in e.key [] (walk h card latest e.key)) → r ≡ Err a
      → Judged (Err (barred_by a)) places h card e path
  barred r places path Damaged w is = at-lost ((rw is at w).ends)
  barred r places path Ways.Deep w is = (rw is at w).ends

-- the order of a write's refusals
module _ (card : List ℕ) (e : Entry) where
  pub no-head : head_of card ≡ None → plan card e ≡ refuse 1
  unfolding plan plan_for
  no-head q = rw q

  module _ (h : Head) (q : head_of card ≡ Some h) where
    -- 2 and 14, by the entry itself
    pub unchecked : (r : Refusal) → flaws.checked e ≡ Err r → plan card e ≡ refuse (number r)
    unfolding plan plan_for
    unchecked r out = rw q (checked-refuses e r _ out)

    -- by what a survey says of the stamp of an entry that is checked
    module _ (yes : flaws.checked e ≡ Ok tt) where
      pub stale : leb e.stamp (stamp_on h card) ≡ true → plan card e ≡ refuse 3
      unfolding plan plan_for refuse_if
      stale late = let sane = checked-fine e yes in rw (q, sane.0, sane.1, late)

      pub goes_in : leb e.stamp (stamp_on h card) ≡ false → plan card e ≡ plan_at h card e (walk h card latest e.key)
      unfolding plan plan_for refuse_if
      goes_in late = let sane = checked-fine e yes in rw (q, sane.0, sane.1, late)

      -- and the entry can be written
      pub fine-now : Asks e → leb e.stamp (stamp_on h card) ≡ false → Fine h.n e
      fine-now asks late =
          let sane = checked-fine e yes in
          asks-fine h.n e asks (omega (arith, eqb-false e.key 0 sane.0)) (omega (arith, leb-false e.stamp (stamp_on h card) late)) sane.1

-- a plan was followed, by another name of it
pub did-same : (r : Result Entered Refusal) (h : Head) (card after : List ℕ) (p q : Plan) → p ≡ q → Did r h card after q → Did r h card after p
did-same (Ok done) h card after p q e d = (e ∙ d.0, d.1, d.2)
did-same (Err r) h card after p q e d = (e ∙ d.0, d.1)

-- the answer and the card are the plan's
module _ (h : Head) (card after : List ℕ) (p : Plan) where
  pub accepted : (done : Entered) → Did (Ok done) h card after p → (ended ≡ plan_answer p) × (after ≡ plan_card card p)
  unfolding plan_answer plan_card refused ended
  accepted done d = (ap plan_answer (sym d.0), ap (plan_card card) (sym d.0))

  pub refused-by : (r : Refusal) → Did (Err r) h card after p → (refused (number r) ≡ plan_answer p) × (after ≡ plan_card card p)
  unfolding plan_answer plan_card
  refused-by r d = (ap plan_answer (sym d.0), d.1 ∙ ap (plan_card card) (sym d.0))

-- the part of the lent path from a start on
pub tail : (path : List ℕ) (start : ℕ) → take (length path - start) (drop start path) ≡ drop start path
tail path start = take_all (length path - start) (drop start path) (simp length-drop (omega arith))
