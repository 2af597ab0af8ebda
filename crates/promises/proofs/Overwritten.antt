-- Nothing is overwritten, on any card.
use Rattle.std.specs.Prelude.{Option, None, Some}
use mathlib.Core.Bool.{Bool, true, false}
use mathlib.Core.Logic.{⊎_elim}
use Prim.Native.Nat.{ℕ, zero, suc, ◌+◌, ◌*◌, ◌≤◌, ◌<◌}
use mathlib.Core.Path.{refl, sym, ap, subst, ◌∙◌, ◌≡◌}
use mathlib.Core.List.{List, [], ◌∷◌, ◌++◌}
use lib.ListN.{length, replicate}
use native.Mathlib.Omega.{arith}
use Rattle.rules.specs.declared.Entry.{Entry}
use Rattle.rules.specs.declared.Head.{Head}
use Rattle.rules.specs.Layout.{head_of, size_of, head_bytes}
use Rattle.rules.specs.Batch.{Batch, well_asked, request, requests_in, card_of, answers_to, paired, batch}
use Rattle.rules.specs.Sector.{sector_at, fields, root_entry, post_entry, strike_entry, index_entry, put, encode}
use Rattle.rules.specs.Write.{Plan, plan_for, plan_card, post, strike, plan, accept, refuse}
use Rattle.rules.specs.Format.{format_for, format, formatted, dummy, meant}
use Rattle.rules.specs.Season.{standing_at, season}
use Rattle.rules.specs.Calls.{Call, format_call, post_call, strike_call, look_call, next_call, called, planned, answered}
use Rattle.rules.specs.Rewrite.{into}
use Rattle.rules.specs.Plain.{if, zeros}
use Rattle.laws.proofs.Bytes.{Bytes, get-bytes, bytes-sector}
use Rattle.laws.proofs.Carries.{bytes_after}
use Rattle.laws.proofs.Requests.{well-asks, no-card, ill-asked, asked}
use Rattle.laws.proofs.Codec.{length-encode}
use Rattle.laws.proofs.Heads.{Lim, limits-hold, log-fits, head-facts, head-length, head-says}
use Rattle.laws.proofs.Into.{Stays}
use Rattle.laws.proofs.Mems.{all-mem}
use Rattle.laws.proofs.Plans.{no-accept}
use Rattle.laws.proofs.Puts.{Puts, in-card}
use Rattle.laws.proofs.Entries.{root-says, Asks, post-asks, strike-asks}
use Rattle.laws.proofs.Sectors.{length-put, sector-put-same, sector-put-other, sector-lies, sector-length}
use Rattle.laws.proofs.Tools.{bool_cases, true-false}
use Rattle.laws.proofs.Writes.{call-puts, format-chain}
use Rattle.laws.proofs.Zeros.{zero-sector, sixteen-zeros, zeros-sixteen}
use Rattle.tree.proofs.Begin.{format-inv}
use Rattle.tree.proofs.Seasoned.{season-chain, season-passed, to-passed}
use Rattle.tree.proofs.Standing.{standing-records}
use Rattle.promises.specs.Promises.{NoneOf, AllDifferent, WrittenAt, WrittenOnce, NothingIsOverwritten, SeasonOverwritesNothing}
use Rattle.promises.specs.Calls.{Act, single, together, AllSized, card_by, Sized}

blank-lies : (card : List ℕ) (i : ℕ) → sector_at card i ≡ replicate 16 0 → 16 * i + 16 ≤ length card
blank-lies card i e = sector-lies card i (ap length e)

blank-zeros : (card : List ℕ) (i : ℕ) → sector_at card i ≡ replicate 16 0 → zeros (sector_at card i) ≡ true
blank-zeros card i e = ap zeros e ∙ sixteen-zeros

-- of writes to blank sectors: the length stays, written sectors stay, and no sector is met twice
written-length : (card : List ℕ) (is new : List ℕ) → WrittenAt card is new → length new ≡ length card
written-length card [] new w = ap length (sym w)
written-length card (i ∷ is) new w = written-length (put card i w.0) is new w.4 ∙ length-put card i w.0 w.2 (blank-lies card i w.1)

-- a sector that is written is not the one written to
not_there : (card : List ℕ) (i j : ℕ) → sector_at card i ≡ replicate 16 0 → zeros (sector_at card j) ≡ false → j ≡ i → ⊥
not_there card i j b z ji = true-false (sym (blank-zeros card i b) ∙ ap (λ k. zeros (sector_at card k)) (sym ji) ∙ z)

written-stays : (card : List ℕ) (is new : List ℕ) → WrittenAt card is new → Stays card new
written-stays card [] new w j z = ap (λ c. sector_at c j) (sym w)
written-stays card (i ∷ is) new w j z =
    let other = sector-put-other card i j w.0 w.2 (blank-lies card i w.1) (not_there card i j w.1 z) in
    written-stays (put card i w.0) is new w.4 j (ap zeros other ∙ z) ∙ other

written-away : (card : List ℕ) (is new : List ℕ) → WrittenAt card is new → (j : ℕ) → zeros (sector_at card j) ≡ false → NoneOf j is
written-away card [] new w j z = tt
written-away card (i ∷ is) new w j z =
    let ne = not_there card i j w.1 z in
    let other = sector-put-other card i j w.0 w.2 (blank-lies card i w.1) ne in
    (ne, written-away (put card i w.0) is new w.4 j (ap zeros other ∙ z))

written-different : (card : List ℕ) (is new : List ℕ) → WrittenAt card is new → AllDifferent is
written-different card [] new w = tt
written-different card (i ∷ is) new w =
    let here = sector-put-same card i w.0 w.2 (blank-lies card i w.1) in
    (written-away (put card i w.0) is new w.4 i (ap zeros here ∙ w.3), written-different (put card i w.0) is new w.4)

puts-written : (h : Head) (Q : Entry → Type 0) (card is new : List ℕ) → size_of h ≡ length card → Puts h Q card is new → WrittenAt card is new
puts-written h Q card [] new size p = p
puts-written h Q card (i ∷ is) new size p =
    let d = p.0 in
    let lies = in-card h card size i p.1.high in (
      encode d,
      zeros-sixteen (sector_at card i) p.1.blank (sector-length card i lies),
      length-encode d,
      p.1.says,
      puts-written h Q (put card i (encode d)) is new (size ∙ sym (length-put card i (encode d) (length-encode d) lies)) p.2,
    )

-- what is promised of the card that a call leaves follows from its writes
abbrev pub Left : List ℕ → List ℕ → Type 0
Left card new = (is : List ℕ) × WrittenAt card is new

pub left-promise : (card new : List ℕ) → Left card new → WrittenOnce card new
left-promise card new l =
    (written-length card l.0 new l.1, written-stays card l.0 new l.1, (l.0, written-different card l.0 new l.1, l.1))

formatted-left : (h : Head) (card : List ℕ) → Lim h → length card ≡ size_of h → zeros card ≡ true → Left card (formatted h card)
unfolding formatted size_of
formatted-left h card l size z =
    let n2 = l.n2 in
    let head = head_bytes h 0 in
    let root = root_entry 0 1 in
    let c1 = put card 0 head in
    let l1 = length-put card 0 head (head-length h 0) (omega arith) in
    let c2 = put c1 1 (encode root) in
    let l2 = length-put c1 1 (encode root) (length-encode root) (omega arith) in
    let one = sector-put-other card 0 1 head (head-length h 0) (omega arith) (λ e. omega arith) in
    let size2 = sym size ∙ sym l1 ∙ sym l2 in
    let c4 = into h 2 (dummy ∷ []) (into h 1 (index_entry 0 0 2 ∷ []) c2) in
    let rest = format-chain h (λ d. Unit {0}) tt tt c2 n2 size2 in (
      0 ∷ 1 ∷ rest.0,
      (
        head,
        zeros-sixteen (sector_at card 0) (zero-sector card 0 z) (sector-length card 0 (omega arith)),
        head-length h 0,
        head-says h 0,
        (
          encode root,
          zeros-sixteen (sector_at c1 1) (ap zeros one ∙ zero-sector card 1 z) (sector-length c1 1 (omega arith)),
          length-encode root,
          root-says 0 1,
          puts-written h (λ d. Unit {0}) c2 rest.0 c4 size2 rest.1,
        ),
      ),
    )

format-left : (card : List ℕ) (h : Head) (p : Plan) → format_for card h ≡ p → Left card (plan_card card p)
unfolding plan_card
format-left card h (refuse c) q = ([], refl)
format-left card h (accept new) q =
    let i = format-inv card h new q in
    subst (Left card) i.3 (formatted-left h card (limits-hold h i.0) i.1 i.2)

-- post and strike
headless : (card : List ℕ) (e : Entry) (new : List ℕ) → head_of card ≡ None → plan card e ≡ accept new → ⊥
unfolding plan plan_for
headless card e new hq q = no-accept 1 new (rw hq at q)

plan-left : (card : List ℕ) → Bytes card → (e : Entry) → Asks e → (o : Option Head) → head_of card ≡ o → (p : Plan) → plan card e ≡ p
    → Left card (plan_card card p)
unfolding plan_card
plan-left card by e a None hq (refuse c) q = ([], refl)
plan-left card by e a None hq (accept new) q = absurd (headless card e new hq q)
plan-left card by e a (Some h) hq (refuse c) q = ([], refl)
plan-left card by e a (Some h) hq (accept new) q =
    let c = call-puts h card hq by e a new q in
    (c.0, puts-written h (λ d. d.stamp ≤ e.stamp) card c.0 new (head-facts card h hq).1 c.1)

call-left : (card : List ℕ) → Bytes card → (k : Call) → Sized k → Left card (called card k).card
unfolding called planned answered format post strike
call-left card by (format_call n m td ti) s = format-left card (meant n m td ti) (format_for card (meant n m td ti)) refl
call-left card by (post_call bib at status time) s =
    plan-left card by (post_entry bib at status time) (post-asks bib at status time s.0 s.1 s.2) (head_of card) refl (plan card (post_entry bib at status time)) refl
call-left card by (strike_call bib at) s =
    plan-left card by (strike_entry bib at) (strike-asks bib at s.0 s.1) (head_of card) refl (plan card (strike_entry bib at)) refl
call-left card by (look_call bib t) s = ([], refl)
call-left card by (next_call bib t) s = ([], refl)

-- the requests of a batch, one after the other: each leaves a card of bytes again
plan-bytes : (card : List ℕ) → Bytes card → (e : Entry) → Asks e → (o : Option Head) → head_of card ≡ o → (p : Plan) → plan card e ≡ p → Bytes (plan_card card p)
unfolding plan_card
plan-bytes card by e a o hq (refuse c) q = by
plan-bytes card by e a None hq (accept new) q = absurd (headless card e new hq q)
plan-bytes card by e a (Some h) hq (accept new) q = bytes_after h card hq by e a new q

abbrev LeftBytes : List ℕ → List ℕ → Type 0
LeftBytes card new = Left card new × Bytes new

request-left : (card : List ℕ) → Bytes card → (r : List ℕ) → Bytes r → LeftBytes card (plan_card card (request card r))
unfolding plan_card
request-left card by r br = go (head_of card) refl
  where
    go : (o : Option Head) → head_of card ≡ o → LeftBytes card (plan_card card (request card r))
    go None hq = subst (λ (p : Plan). LeftBytes card (plan_card card p)) (sym (no-card card r hq)) (([], refl), by)
    go (Some h) hq =
        ⊎_elim
        (λ (w : well_asked r ≡ true).
        let a = well-asks r br w in
        subst (λ (p : Plan). LeftBytes card (plan_card card p)) (sym (asked card r h hq w))
        (plan-left card by (fields r) a (Some h) hq (plan card (fields r)) refl, plan-bytes card by (fields r) a (Some h) hq (plan card (fields r)) refl))
        (λ (w : well_asked r ≡ false). subst (λ (p : Plan). LeftBytes card (plan_card card p)) (sym (ill-asked card r h hq w)) (([], refl), by))
        (bool_cases (well_asked r))

written-more : (card : List ℕ) (is : List ℕ) (new : List ℕ) (js : List ℕ) (last : List ℕ) → WrittenAt card is new → WrittenAt new js last → WrittenAt card (is ++ js) last
written-more card [] new js last w v = subst (λ c. WrittenAt c js last) (sym w) v
written-more card (i ∷ is) new js last w v = (w.0, w.1, w.2, w.3, written-more (put card i w.0) is new js last w.4 v)

requests-left : (card : List ℕ) → Bytes card → (bytes : List ℕ) → Bytes bytes → (i n : ℕ) → Left card (card_of card (requests_in bytes i n))
unfolding card_of requests_in
requests-left card by bytes bb i zero = ([], refl)
requests-left card by bytes bb i (suc n) =
    let one = request-left card by (sector_at bytes i) (bytes-sector bytes i bb) in
    let new = plan_card card (request card (sector_at bytes i)) in
    let two = requests-left new one.1 bytes bb (suc i) n in
    (one.0.0 ++ two.0, written-more card one.0.0 new two.0 (card_of new (requests_in bytes (suc i) n)) one.0.1 two.1)

act-left : (card : List ℕ) → Bytes card → (a : Act) → AllSized (a ∷ []) → Left card (card_by card a)
unfolding card_by batch
act-left card by (single k) z = call-left card by k z.0
act-left card by (together requests answers) z = go (paired requests answers)
  where
    rs : List (List ℕ)
    rs = requests_in requests 0 (length answers)

    go : (b : Bool) → Left card (if {A = Batch} b (record { code = 0; card = card_of card rs; answers = answers_to card rs }) (record { code = 12; card = card; answers = answers })).card
    go true = requests-left card by requests (get-bytes requests z.0) 0 (length answers)
    go false = ([], refl)

pub nothing-is-overwritten : NothingIsOverwritten
nothing-is-overwritten card by a z = left-promise card (card_by card a) (act-left card (get-bytes card by) a z)

-- the head, and what the season puts behind it
season-left : (card : List ℕ) → Bytes card → (t : ℕ) → t < 4294967296 → (target : List ℕ) (n m td ti : ℕ) (p : Plan) → season card t target n m td ti ≡ p
    → Left target (plan_card target p)
unfolding plan_card
season-left card by t small target n m td ti (refuse c) q = ([], refl)
season-left card by t small target n m td ti (accept new) q =
    let h = meant n m td ti in
    let to = (season-passed card t target n m td ti new q).3 in
    let p = to-passed h t target (standing_at card t) new to in
    let lies = log-fits h target (sym p.long) in
    let long = length-put target 0 (head_bytes h t) (head-length h t) (omega arith) in
    let rest = season-chain h t target (standing_at card t) new small (standing-records card by t) to (λ d. Unit {0}) (λ b ks. tt) tt (all-mem (λ d. Unit {0}) (standing_at card t).records (λ d m. tt)) in (
      0 ∷ rest.0,
      (
        head_bytes h t,
        zeros-sixteen (sector_at target 0) (zero-sector target 0 p.blank) (sector-length target 0 (omega arith)),
        head-length h t,
        head-says h t,
        puts-written h (λ d. Unit {0}) (put target 0 (head_bytes h t)) rest.0 new (sym p.long ∙ sym long) rest.1,
      ),
    )

pub season-overwrites-nothing : SeasonOverwritesNothing
season-overwrites-nothing card by t small target n m td ti =
    let said = season card t target n m td ti in
    left-promise target (plan_card target said) (season-left card (get-bytes card by) t small target n m td ti said refl)
