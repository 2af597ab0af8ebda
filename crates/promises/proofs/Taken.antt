-- Nothing is refused without cause, on a card of our own making.
use Rattle.std.specs.Prelude.{Option, None, Some}
use mathlib.Core.Bool.{Bool, not, true}
use Prim.Native.Nat.{ℕ, ◌+◌, ◌≤◌, ◌<◌, ◌-◌}
use mathlib.Core.Path.{refl, sym, ap, subst, ◌∙◌, ◌≡◌}
use mathlib.Core.Logic.{inl, inr, ⊎_elim, ◌⊎◌}
use mathlib.Core.List.{List, [], ◌∷◌, ◌++◌}
use borrow.Author.Tests.{lt-leb, ne_eqb, lt-ltb, le-ltb, eq-eqb}
use native.Mathlib.Omega.{arith}
use Rattle.rules.specs.declared.Entry.{Entry}
use Rattle.rules.specs.declared.Head.{Head}
use Rattle.rules.specs.declared.Answer.{Answer}
use Rattle.rules.specs.Rewrite.{Rise}
use Rattle.rules.specs.Walk.{Visit, walk}
use Rattle.rules.specs.Write.{top_used, Plan, refuse_if, plan_on, plan_at, plan_for, log_full, checked, refuse, rooted, climb, finish, plan, plan_answer, accept, post, strike, latest}
use Rattle.rules.specs.Sector.{is_post, post_entry, strike_entry, encode, put, root_entry, status_fits}
use Rattle.rules.specs.Plain.{is_none, ◌&◌}
use Rattle.rules.specs.Answers.{refused}
use Rattle.rules.specs.Calls.{Call, post_call, strike_call, called, planned}
use Rattle.rules.specs.Layout.{beginning, size_of}
use Rattle.rules.specs.Season.{built, rooted_on, season_on, season_to, season_for, season, standing_at}
use Rattle.rules.specs.Format.{meant}
use Rattle.laws.proofs.Fresh.{fresh_after}
use Rattle.laws.proofs.Tools.{le-or-lt, none-some}
use Rattle.laws.proofs.Used.{used-within}
use Rattle.laws.proofs.Entries.{Asks, asks-small, bare-fits, post-asks, strike-asks}
use Rattle.tree.proofs.Ends.{ends-here}
use Rattle.tree.proofs.Keeps.{Keeps, write-walk, keeps-write}
use Rattle.tree.proofs.Tree.{some_inj}
use Rattle.tree.proofs.Seasoned.{said}
use Rattle.tree.proofs.Standing.{standing-whole}
use Rattle.promises.specs.Promises.{TakenUnlessFull, PostIsTaken, StrikeIsTaken, SeasonIsTaken}
use Rattle.promises.specs.Calls.{card_after, accepted, needed, remaining, season_needs}
use Rattle.promises.specs.Reading.{stands_as_of, last_stamp}
use Rattle.promises.proofs.Begun.{begun-starts}
use Rattle.promises.proofs.Truth.{calls-keep, calls-plain}
use Rattle.promises.proofs.Since.{after}
use lib.ListN.{length}
use lib.Dec.{eqb, leb}

-- more fresh buckets than there are numbers up to n: refused
checked-refuse : (h : Head) (full : Bool) (r : Rise) → h.n + 1 < r.fresh → checked h full r ≡ refuse 6
unfolding checked refuse_if
checked-refuse h full r gt = rw (lt-ltb (h.n + 1) r.fresh gt)

on-refuse : (h : Head) (card : List ℕ) (e : Entry) (p : List Visit) → h.n + 1 < fresh_after h card e p → plan_on h card e p ≡ refuse 6
unfolding plan_on finish fresh_after
on-refuse h card e p gt =
    let r = climb h e.stamp p (record { hand = e ∷ []; fresh = top_used h card h.n + 1; card = card }) in
    checked-refuse h (log_full h r.card r.hand) (rooted h e.stamp r.hand r) gt

enough : (h : Head) (card : List ℕ) (e : Entry) (p : List Visit) → fresh_after h card e p ≤ h.n + 1 → needed h card e p ≤ remaining h card
unfolding needed remaining fresh_after
enough h card e p le = let within = used-within h card h.n in omega arith

too_few : (h : Head) (card : List ℕ) (e : Entry) (p : List Visit) → h.n + 1 < fresh_after h card e p → remaining h card < needed h card e p
unfolding needed remaining fresh_after
too_few h card e p gt = let le = used-within h card h.n in omega arith

-- of a plan: it is accepted where the buckets needed remain, and else refused with 6
abbrev pub PlanTaken : Head → List ℕ → Entry → Plan → Type 0
PlanTaken h card e plan =
    (p : List Visit) × (walk h card latest e.key ≡ Some p)
    × (((needed h card e p ≤ remaining h card) × ((new : List ℕ) × (plan ≡ accept new)))
    ⊎ ((remaining h card < needed h card e p) × (plan ≡ refuse 6)))

-- and so of the call that answers by it
plan-answers : (h : Head) (card : List ℕ) (e : Entry) (k : Call) (plan : Plan) → (called card k).answer ≡ plan_answer plan → PlanTaken h card e plan
    → TakenUnlessFull h card e k
unfolding plan_answer refused
plan-answers h card e k plan is (p, w, inl t) = (p, w, inl (t.0, ap (λ (a : Answer). a.code) (is ∙ ap plan_answer t.1.1)))
plan-answers h card e k plan is (p, w, inr t) = (p, w, inr (t.0, ap (λ (a : Answer). a.code) (is ∙ ap plan_answer t.1)))

-- a write on a card of ours is refused with 2, 14, 3 or 5, or goes on along the path of its walk
module _ (h : Head) (card : List ℕ) (g : ℕ → ℕ → Option Entry) (begin s : ℕ) (ke : Keeps h card g begin s) (e : Entry) (asks : Asks e) where
  abbrev pub p : List Visit
  p = (write-walk h card g begin s ke e asks).0

  pub plan-ruled : plan card e ≡ refuse_if (eqb e.key 0) 2 (refuse_if (not (status_fits e.status e.value)) 14 (refuse_if (leb e.stamp s) 3 (refuse_if (not (is_post e) & is_none (g latest e.key)) 5 (plan_on h card e p))))
  unfolding plan plan_for plan_at
  plan-ruled =
      let sm = ke.small in
      let si = ke.since in
      let a = ke.answers latest e.key (omega arith) (asks-small e asks) in
      let there = ends-here (g latest) latest e.key 0 4294967296 a.0 a.2 in
      let same : a.0 ≡ p = some_inj (sym a.1 ∙ (write-walk h card g begin s ke e asks).1) in
      rw (ke.state.head, ke.top, a.1, there)
      (ap (λ q. refuse_if (eqb e.key 0) 2 (refuse_if (not (status_fits e.status e.value)) 14 (refuse_if (leb e.stamp s) 3 (refuse_if (not (is_post e) & is_none (g latest e.key)) 5 (plan_on h card e q))))) same)

  module _ (key : 1 ≤ e.key) (above : s < e.stamp) (fits : status_fits e.status e.value ≡ true) where
    pub on-taken : PlanTaken h card e (plan_on h card e p)
    on-taken = (
      p,
      (write-walk h card g begin s ke e asks).1,
      ⊎_elim
          (λ (le : fresh_after h card e p ≤ h.n + 1). inl (enough h card e p le, (keeps-write h card g begin s ke e asks key above fits).1 le))
          (λ (gt : h.n + 1 < fresh_after h card e p). inr (too_few h card e p gt, on-refuse h card e p gt))
          (le-or-lt (fresh_after h card e p) (h.n + 1)),
    )

    -- of the refusals but 6 only 5 is left, for a strike where nothing stands
    plan-is : plan card e ≡ refuse_if (not (is_post e) & is_none (g latest e.key)) 5 (plan_on h card e p)
    unfolding refuse_if
    plan-is = plan-ruled ∙ rw (ne_eqb e.key 0 (λ z. omega arith), fits, lt-leb e.stamp s above)

post-plan : (b : Bool) (bib at status time : ℕ) (p : Plan) → refuse_if (not (is_post (post_entry bib at status time)) & b) 5 p ≡ p
unfolding refuse_if is_post
post-plan b bib at status time p = refl

strike-plan : (b : Bool) (bib at : ℕ) (p : Plan) → refuse_if (not (is_post (strike_entry bib at)) & b) 5 p ≡ refuse_if b 5 p
unfolding is_post
strike-plan b bib at p = refl

pub post-is-taken : PostIsTaken
unfolding called planned post
post-is-taken h begin rs card b calls s bib at status time b1 a1 z fits up =
    let k = calls-keep h begin rs card (begun-starts h begin rs card b) calls s in
    let g = after (λ t. said rs) (accepted card calls) in
    let last = last_stamp begin (accepted card calls) in
    let d = card_after card calls in
    let e = post_entry bib at status time in
    let asks = post-asks bib at status time z.0 z.1 z.2 in
    let above = k.1 at a1 up in
    plan-answers h d e (post_call bib at status time) (plan d e) refl (subst (PlanTaken h d e)
    (sym (plan-is h d g begin last k.0 e asks b1 above fits ∙ post-plan (is_none (g latest bib)) bib at status time (plan_on h d e (write-walk h d g begin last k.0 e asks).0)))
    (on-taken h d g begin last k.0 e asks b1 above fits))

-- a strike where o stands
struck : (h : Head) (card : List ℕ) (e : Entry) (o : Option Entry) (k : Call) (q p : Plan) → (called card k).answer ≡ plan_answer q → PlanTaken h card e p
    → q ≡ refuse_if (is_none o) 5 p
    → ((o ≡ None) × ((called card k).answer.code ≡ 5)) ⊎ ((o ≡ None → ⊥) × TakenUnlessFull h card e k)
unfolding is_none refuse_if plan_answer refused
struck h card e None k q p is t eq = inl (refl, ap (λ (a : Answer). a.code) (is ∙ ap plan_answer eq))
struck h card e (Some d) k q p is t eq = inr ((λ n. none-some (sym n)), plan-answers h card e k q is (subst (PlanTaken h card e) (sym eq) t))

pub strike-is-taken : StrikeIsTaken
unfolding called planned strike
strike-is-taken h begin rs card b calls s bib at b1 a1 z up =
    let st = begun-starts h begin rs card b in
    let k = calls-keep h begin rs card st calls s in
    let es = accepted card calls in
    let g = after (λ t. said rs) es in
    let last = last_stamp begin es in
    let d = card_after card calls in
    let e = strike_entry bib at in
    let asks = strike-asks bib at z.0 z.1 in
    let above = k.1 at a1 up in
    let on = plan_on h d e (write-walk h d g begin last k.0 e asks).0 in
    let a32 = z.1 in
    struck h d e (stands_as_of latest bib (rs ++ es)) (strike_call bib at) (plan d e) on refl (on-taken h d g begin last k.0 e asks b1 above bare-fits)
    (plan-is h d g begin last k.0 e asks b1 above bare-fits ∙ strike-plan (is_none (g latest bib)) bib at on
    ∙ ap (λ o. refuse_if (is_none o) 5 on) (calls-plain h begin rs card st calls s latest (omega arith) bib))

-- on a card of ours, onto a target in order, only 6 is left
rooted-or-full : (h : Head) (t : ℕ) (r : Rise) → ((r.fresh ≤ h.n + 1) × ((new : List ℕ) × (rooted_on h t r ≡ accept new)))
    ⊎ ((h.n + 1 < r.fresh) × (rooted_on h t r ≡ refuse 6))
unfolding rooted_on refuse_if
rooted-or-full h t r =
    ⊎_elim
    (λ (le : r.fresh ≤ h.n + 1). inl (le, (put r.card 1 (encode (root_entry t (r.fresh - 1))), rw (le-ltb (h.n + 1) r.fresh le) refl)))
    (λ (gt : h.n + 1 < r.fresh). inr (gt, rw (lt-ltb (h.n + 1) r.fresh gt) refl))
    (le-or-lt r.fresh (h.n + 1))

pub season-is-taken : SeasonIsTaken
unfolding season season_for season_to season_on refuse_if season_needs meant
season-is-taken h begin rs card b calls sized t le target n m td ti lim long blank =
    let th = meant n m td ti in
    let source = card_after card calls in
    let es = accepted card calls in
    let ke = (calls-keep h begin rs card (begun-starts h begin rs card b) calls sized).0 in
    let begins = ke.begins in
    let whole = standing-whole h source (after (λ z. said rs) es) begin (last_stamp begin es) ke t le in
    let rise = built th t (standing_at source t).records target in
    let is : season source t target n m td ti ≡ rooted_on th t rise
    = rw (ke.state.head, le-ltb t (beginning source) (omega arith), lim, eq-eqb (length target) (size_of th) long, blank, eq-eqb (standing_at source t).code 0 whole.code) refl in
    ⊎_elim
    (λ (a : (rise.fresh ≤ n + 1) × ((new : List ℕ) × (rooted_on th t rise ≡ accept new))). let fits = a.0 in inl (omega arith, (a.1.0, is ∙ a.1.1)))
    (λ (a : (n + 1 < rise.fresh) × (rooted_on th t rise ≡ refuse 6)). let full = a.0 in inr (omega arith, is ∙ a.1))
    (rooted-or-full th t rise)
