-- A write's plan, by what the count foretells: too full, or the card that the way up leaves.
use mathlib.Core.Path.{◌≡◌, refl, ap, sym, ◌∙◌, subst}
use mathlib.Core.Logic.{⊎_elim}
use mathlib.Core.Bool.{Bool, true, false}
use Rattle.std.specs.Prelude.{Some}
use mathlib.Core.List.{List, [], ◌∷◌}
use Prim.Native.Nat.{ℕ, ◌+◌, ◌-◌, ◌≤◌, ◌<◌}
use native.Mathlib.Omega.{arith}
use lib.Dec.{ltb, eqb}
use lib.ListN.{length}
use borrow.Author.Tests.{lt-ltb, le-ltb, ltb-false, eq-eqb, ne_eqb}
use Rattle.rules.specs.declared.Entry.{Entry}
use Rattle.rules.specs.declared.Head.{Head}
use Rattle.rules.specs.Plain.{if, ◌&◌, ◌or◌}
use Rattle.rules.specs.Layout.{head_of}
use Rattle.rules.specs.Bucket.{bucket, log, log_blanks}
use Rattle.rules.specs.Walk.{Visit, walk}
use Rattle.rules.specs.Rewrite.{Rise, one_bucket}
use Rattle.rules.specs.Write.{refuse, accept, refuse_if, climb, rooted, logged, log_full, checked, finish, plan_on, top_used, latest}
use Rattle.laws.proofs.Tools.{le-or-lt, eq-or-ne}
use Rattle.laws.proofs.Run.{blanks-agree}
use Rattle.laws.proofs.Paths.{Along, along-map, walk-reads, walk-log}
use Rattle.laws.proofs.Used.{used-top, top-raw}
use Rattle.laws.proofs.AsMet.{front-met}
use Rattle.laws.proofs.Bytes.{Bytes}
use Rattle.laws.proofs.Entries.{Fine}
use Rattle.laws.proofs.Heads.{head-facts}
use Rattle.laws.proofs.Fresh.{climb-mono, rooted-fresh, fresh_after}
use Rattle.laws.proofs.Carries.{planned-next}
use Rattle.laws.proofs.Roots.{root_now, root-stays, root-moves}
use Rattle.bucket.specs.Shapes.{Shape}
use Rattle.bucket.proofs.Room.{shape_of}
use Rattle.climb.specs.Levels.{entries_on, or_empty, risen, rise_on, topped, Tally, tally, count_on, fresh_over, is_open, needs_of, upward, AllRead, AllBelow, Ready}
use Rattle.scan.specs.Look.{log_of}
use Rattle.level.specs.Level.{used_of}
use Rattle.climb.proofs.Climbing.{rise-climb, foretells, tally_of}
use Rattle.climb.proofs.Laying.{log-reads}
use Rattle.climb.proofs.Counting.{up-length}

-- a root's fresh buckets are those foretold
top-fresh : (h : Head) (s : ℕ) (hd : List Entry) (r : Rise) → (rooted h s hd r).fresh ≡ fresh_over hd r.fresh
unfolding rooted logged one_bucket fresh_over
top-fresh h s [] r = refl
top-fresh h s (e ∷ []) r = refl
top-fresh h s (e ∷ d ∷ es) r = refl

over-more : (hd : List Entry) (f : ℕ) → f ≤ fresh_over hd f
unfolding fresh_over
over-more [] f = omega arith
over-more (e ∷ []) f = omega arith
over-more (e ∷ d ∷ es) f = omega arith

log-open : (h : Head) (card : List ℕ) (hd : List Entry) → log_full h card hd ≡ (is_open hd & eqb (length (log_blanks h card)) 0)
unfolding log_full is_open
log-open h card [] = refl
log-open h card (e ∷ es) = refl

-- the buckets of a path that is read, in the order of the way up
reads_up : (h : Head) (card : List ℕ) (p : List Visit) (above : List ℕ) → Along (λ v. bucket h card v.number ≡ Some v.entries) p → AllRead h card above
    → AllRead h card (upward p above)
unfolding upward entries_on
reads_up h card [] above a r = r
reads_up h card (v ∷ p) above a r = reads_up h card p (v.number ∷ above) a.1 (a.0 ∙ ap Some (sym (ap or_empty a.0)), r)

below_up : (h : Head) (card : List ℕ) (f : ℕ) (p : List Visit) (above : List ℕ) → Along (λ v. v.number < f) p → AllBelow f above → AllBelow f (upward p above)
unfolding upward
below_up h card f [] above a r = r
below_up h card f (v ∷ p) above a r = below_up h card f p (v.number ∷ above) a.1 (a.0, r)

module _ (h : Head) (card : List ℕ) (hq : head_of card ≡ Some h) (e : Entry) (p : List Visit) (w : walk h card latest e.key ≡ Some p) where
  abbrev first : ℕ
  first = top_used h card h.n + 1

  abbrev up : Rise
  up = climb h e.stamp p (risen (e ∷ []) first card)

  abbrev pub counted : Tally
  counted = count_on h e.stamp card (upward p []) (tally (e ∷ []) first)

  abbrev pub full : Bool
  full = ltb (h.n + 1) (needs_of counted).fresh or ((needs_of counted).root & eqb (length (log_blanks h card)) 0)

  pub start-ready : Ready h card (upward p []) first
  start-ready =
      let sh = shape_of card h hq in
      let rd = walk-reads h card latest e.key p w in
      record {
        shape = sh;
        reads = reads_up h card p [] rd tt;
        below = below_up h card first p [] (along-map (λ v. bucket h card v.number ≡ Some v.entries) (λ v. v.number < first) (λ v q. let k = used-top h card v.number v.entries sh.long q in omega arith) p rd) tt;
        least = omega arith;
        free = λ c a b. top-raw h card c (omega arith) b;
        logs = walk-log h card latest e.key p w;
      }

  same-blanks : up.fresh ≤ h.n + 1 → log_blanks h up.card ≡ log_blanks h card
  unfolding log_blanks
  same-blanks cap = blanks-agree up.card card 1 h.n (λ j a b. front-met h card hq latest e.key [] p w e.stamp (e ∷ []) cap j (omega arith))

  -- the rule's test is the count's
  tests : (ltb (h.n + 1) (rooted h e.stamp up.hand up).fresh or log_full h up.card up.hand) ≡ full
  unfolding needs_of
  tests =
      let t = (rooted h e.stamp up.hand up).fresh in
      let more = rooted-fresh h e.stamp up.hand up in
      let is = top-fresh h e.stamp up.hand up in
      ⊎_elim
      (λ (q : counted ≡ tally_of up).
      let f : (needs_of counted).fresh ≡ t = ap (λ (y : Tally). fresh_over y.hand y.fresh) q ∙ sym is in
      let o : (needs_of counted).root ≡ is_open up.hand = ap (λ (y : Tally). is_open y.hand) q in
      ⊎_elim
      (λ (le : t ≤ h.n + 1).
      let bl = same-blanks (omega arith) in
      rw (f, o, le-ltb (h.n + 1) t le, log-open h up.card up.hand, bl))
      (λ (gt : h.n + 1 < t). rw (f, lt-ltb (h.n + 1) t gt))
      (le-or-lt t (h.n + 1)))
      (λ (q : (h.n + 1 < up.fresh) × (h.n + 1 < counted.fresh)).
      let k = over-more counted.hand counted.fresh in
      rw (lt-ltb (h.n + 1) t (omega (arith, q.0)), lt-ltb (h.n + 1) (needs_of counted).fresh (omega (arith, q.1))))
      (foretells h card hq latest e.key e.stamp (e ∷ []) [] p w)

  plan-is : plan_on h card e p ≡ refuse_if full 6 (accept (rooted h e.stamp up.hand up).card)
  unfolding plan_on finish checked
  plan-is = ap (λ (b : Bool). refuse_if b 6 (accept (rooted h e.stamp up.hand up).card)) tests

  pub plan-full : full ≡ true → plan_on h card e p ≡ refuse 6
  unfolding refuse_if
  plan-full q = plan-is ∙ ap (λ (b : Bool). refuse_if b 6 (accept (rooted h e.stamp up.hand up).card)) q

  abbrev pub top : Rise
  top = topped h e.stamp (rise_on h e.stamp (upward p []) (risen (e ∷ []) first card))

  within : full ≡ false → (rooted h e.stamp up.hand up).fresh ≤ h.n + 1
  within q = ltb-false (h.n + 1) _ (first-false _ _ (tests ∙ q))
    where
      first-false : (a b : Bool) → (a or b) ≡ false → a ≡ false
      first-false true b z = z
      first-false false b z = refl

  top-is : full ≡ false → top ≡ rooted h e.stamp up.hand up
  unfolding topped
  top-is q =
      let more = rooted-fresh h e.stamp up.hand up in
      let lim = within q in
      ap (λ (r : Rise). rooted h e.stamp r.hand r) (rise-climb h card hq latest e.key e.stamp (e ∷ []) [] p w (omega arith))

  pub plan-room : full ≡ false → plan_on h card e p ≡ accept top.card
  unfolding refuse_if
  plan-room q =
      plan-is ∙ ap (λ (b : Bool). refuse_if b 6 (accept (rooted h e.stamp up.hand up).card)) q
      ∙ ap (λ (r : Rise). accept r.card) (sym (top-is q))

  pub top_within : full ≡ false → top.fresh ≤ h.n + 1
  top_within q = subst (λ (r : Rise). r.fresh ≤ h.n + 1) (sym (top-is q)) (within q)

  -- the count told what the way up does
  told : full ≡ false → counted ≡ tally_of up
  told q =
      let more = rooted-fresh h e.stamp up.hand up in
      let lim = within q in
      ⊎_elim
      (λ (z : counted ≡ tally_of up). z)
      (λ (z : (h.n + 1 < up.fresh) × (h.n + 1 < counted.fresh)). absurd (omega (arith, z.0)))
      (foretells h card hq latest e.key e.stamp (e ∷ []) [] p w)

  needs-fresh : full ≡ false → (needs_of counted).fresh ≡ fresh_after h card e p
  unfolding needs_of fresh_after
  needs-fresh q = ap (λ (y : Tally). fresh_over y.hand y.fresh) (told q) ∙ sym (top-fresh h e.stamp up.hand up)

  needs-root : full ≡ false → (needs_of counted).root ≡ is_open up.hand
  unfolding needs_of
  needs-root q = ap (λ (y : Tally). is_open y.hand) (told q)

  pub some-fresh : full ≡ false → (1 ≤ (needs_of counted).fresh) × ((needs_of counted).fresh ≤ 4097)
  unfolding fresh_after
  some-fresh q =
      let is = needs-fresh q in
      let lim = within q in
      let more = rooted-fresh h e.stamp up.hand up in
      let mono = climb-mono h e.stamp p (risen (e ∷ []) first card) in
      let n = (head-facts card h hq).0.n4096 in
      (omega arith, omega arith)

  -- the two numbers of the card that is left
  module _ (by : Bytes card) (fine : Fine h.n e) (q : full ≡ false) where
    pub used-left : (needs_of counted).fresh - 1 ≡ top_used h top.card h.n
    used-left =
        let is = needs-fresh q in
        let next = (planned-next h card hq by e fine e.key p w top.card (plan-room q)).0 in
        omega arith

    pub root-left : (root : ℕ) → root ≡ root_now h card → if (needs_of counted).root ((needs_of counted).fresh - 1) root ≡ root_now h top.card
    unfolding is_open
    root-left root is = ap (λ (b : Bool). if b ((needs_of counted).fresh - 1) root) (needs-root q) ∙ go up.hand refl
      where
        go : (hand : List Entry) → up.hand ≡ hand → if (is_open hand) ((needs_of counted).fresh - 1) root ≡ root_now h top.card
        go [] z = is ∙ sym (root-stays h card hq by e fine p w top.card (plan-room q) z)
        go (d ∷ es) z =
            let f = needs-fresh q in
            let next = root-moves h card hq by e fine p w top.card (plan-room q) d es z in
            omega arith

none_left : (a n : ℕ) → a ≤ n → eqb a n ≡ eqb (n - a) 0
none_left a n le =
    ⊎_elim (λ (q : a ≡ n). let z : n - a ≡ 0 = omega arith in eq-eqb a n q ∙ sym (eq-eqb (n - a) 0 z))
    (λ (q : a ≡ n → ⊥). ne_eqb a n q ∙ sym (ne_eqb (n - a) 0 (λ (z : n - a ≡ 0). q (omega arith))))
    (eq-or-ne a n)

-- a log whose every sector is written has no blank
pub log-none : (h : Head) (card : List ℕ) (es : List Entry) (u : ℕ) → Shape h card → log h card ≡ Some es → u ≡ used_of 0 (log_of h card) 0 h.n
    → eqb u h.n ≡ eqb (length (log_blanks h card)) 0
log-none h card es u sh q e =
    let lg = log-reads h card es sh q in
    let n : length (log_blanks h card) ≡ h.n - lg.count = ap length lg.blank ∙ up-length _ _ in
    rw (n, e, lg.used) (none_left lg.count h.n lg.most)
