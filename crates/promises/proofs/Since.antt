-- The entries accepted by a list of calls lead from card to card, and the last card answers for them.
use mathlib.Core.Path.{◌≡◌, refl, sym, ap, subst}
use Rattle.std.specs.Prelude.{Option, Some}
use mathlib.Core.Bool.{true, false, Bool, not}
use Prim.Native.Nat.{ℕ, zero, suc, ◌<◌}
use mathlib.Core.Logic.{inl, inr, ⊎_elim, ◌⊎◌}
use mathlib.Core.List.{List, [], ◌∷◌, ◌++◌}
use lib.ListN.{length}
use lib.Dec.{eqb}
use Rattle.rules.specs.declared.Entry.{Entry}
use Rattle.rules.specs.declared.Head.{Head}
use Rattle.rules.specs.Answers.{refused}
use Rattle.rules.specs.Write.{Plan, refuse, accept, plan, plan_card, plan_answer, post, strike, refuse_if}
use Rattle.rules.specs.Sector.{sector_at, fields, post_entry, strike_entry}
use Rattle.rules.specs.Plain.{if, zeros, ◌&◌}
use Rattle.rules.specs.Layout.{limits, head_of, size_of}
use Rattle.rules.specs.Format.{format, format_for, formatted, meant}
use Rattle.rules.specs.Calls.{Call, format_call, post_call, strike_call, look_call, next_call, called, planned, answered}
use Rattle.rules.specs.Batch.{Batch, well_asked, request, requests_in, card_of, answers_to, paired, batch}
use Rattle.laws.proofs.Tools.{bool_cases}
use Rattle.laws.proofs.Bytes.{Bytes, get-bytes, bytes-sector}
use Rattle.laws.proofs.Requests.{well-asks, ill-asked, asked}
use Rattle.laws.proofs.Heads.{head-written}
use Rattle.laws.proofs.Zeros.{zero-sector}
use Rattle.laws.proofs.Entries.{Asks, post-asks, strike-asks}
use Rattle.laws.proofs.Numbers.{Numbered, plan-numbered}
use Rattle.tree.proofs.Keeps.{Keeps, more, keeps-step}
use Rattle.promises.specs.Calls.{Act, single, together, Sized, AllSized, card_by, card_after, if_zero, taken, entered, taken_by, accepted, Above}
use Rattle.promises.specs.Reading.{last_stamp}

-- each entry in turn is accepted, and the last of the cards is d
abbrev pub Since : List ℕ → List Entry → List ℕ → Type 0
Since c [] d = c ≡ d
Since c (e ∷ es) d = (new : List ℕ) × Asks e × (plan c e ≡ accept new) × Since new es d

-- what stands as of each stamp after the entries
abbrev pub after : (ℕ → ℕ → Option Entry) → List Entry → ℕ → ℕ → Option Entry
after g [] = g
after g (e ∷ es) = after (more g e) es

-- the last card, with the stamp of its newest entry
pub since-keeps : (h : Head) (c : List ℕ) (g : ℕ → ℕ → Option Entry) (begin s : ℕ) → Keeps h c g begin s → (es : List Entry) (d : List ℕ)
    → Since c es d
    → Keeps h d (after g es) begin (last_stamp s es) × ((at : ℕ) → s < at → Above at es → last_stamp s es < at)
unfolding last_stamp
since-keeps h c g begin s ke [] d q = (subst (λ z. Keeps h z g begin s) q ke, λ at lt up. lt)
since-keeps h c g begin s ke (e ∷ es) d q =
    let r = since-keeps h q.0 (more g e) begin e.stamp (keeps-step h c g begin s ke e q.1 q.0 q.2) es d q.3 in
    (r.0, λ at lt up. r.1 at up.0 up.1)

-- a card with a head is not blank, so that a format of it is refused
head-nonzero : (c : List ℕ) (h : Head) → head_of c ≡ Some h → zeros c ≡ false
head-nonzero c h q =
    ⊎_elim (λ (z : zeros c ≡ true). absurd (head-written c h q (zero-sector c 0 z))) (λ (z : zeros c ≡ false). z) (bool_cases (zeros c))

refused-inner : (b : Bool) (c : List ℕ) (p : Plan) → zeros c ≡ false → (x : ℕ) × (refuse_if b 8 (refuse_if (not (zeros c)) 9 p) ≡ refuse x)
unfolding refuse_if
refused-inner true c p z = (8, refl)
refused-inner false c p z = (9, rw z)

pub format-refused : (c : List ℕ) (h : Head) → head_of c ≡ Some h → (n m td ti : ℕ) → (x : ℕ) × (format c n m td ti ≡ refuse x)
unfolding format format_for
format-refused c h q n m td ti =
    let g = meant n m td ti in
    refused-inner (not (limits g & eqb (length c) (size_of g))) c (accept (formatted g c)) (head-nonzero c h q)

-- of acts that are sized, the first and the rest are
first : (a : Act) (acts : List Act) → AllSized (a ∷ acts) → AllSized (a ∷ [])
first (single k) acts z = (z.0, tt)
first (together requests answers) acts z = (z.0, tt)

rest : (a : Act) (acts : List Act) → AllSized (a ∷ acts) → AllSized acts
rest (single k) acts z = z.1
rest (together requests answers) acts z = z.1

-- a call on such a card adds no entry and leaves the card, or adds one entry that is accepted
abbrev Step : List ℕ → List Entry → List ℕ → Type 0
Step c es d = ((es ≡ []) × (d ≡ c)) ⊎ ((e : Entry) × Asks e × (plan c e ≡ accept d) × (es ≡ e ∷ []))

plan-step : (c : List ℕ) (e : Entry) → Asks e → (p : Plan) → Numbered p → plan c e ≡ p → Step c (if_zero (plan_answer p).code e) (plan_card c p)
unfolding if_zero plan_answer plan_card refused
plan-step c e a (refuse zero) n q = absurd (n refl)
plan-step c e a (refuse (suc x)) n q = inl (refl, refl)
plan-step c e a (accept new) n q = inr (e, a, q, refl)

call_step : (h : Head) (c : List ℕ) → head_of c ≡ Some h → (k : Call) → Sized k → Step c (taken c k) (called c k).card
unfolding called planned answered taken plan_card post strike
call_step h c hq (format_call n m td ti) s = let f = format-refused c h hq n m td ti in inl (refl, ap (plan_card c) f.1)
call_step h c hq (post_call bib at status time) s = plan-step c (post_entry bib at status time) (post-asks bib at status time s.0 s.1 s.2) (plan c (post_entry bib at status time)) (plan-numbered c (post_entry bib at status time)) refl
call_step h c hq (strike_call bib at) s = plan-step c (strike_entry bib at) (strike-asks bib at s.0 s.1) (plan c (strike_entry bib at)) (plan-numbered c (strike_entry bib at)) refl
call_step h c hq (look_call bib t) s = inl (refl, refl)
call_step h c hq (next_call bib t) s = inl (refl, refl)

-- and so does a request of a batch
request-step : (h : Head) (c : List ℕ) → head_of c ≡ Some h → (r : List ℕ) → Bytes r → Step c (if_zero (plan_answer (request c r)).code (fields r)) (plan_card c (request c r))
unfolding if_zero plan_answer plan_card refused
request-step h c hq r by =
    ⊎_elim
    (λ (w : well_asked r ≡ true).
    rw (asked c r h hq w) (plan-step c (fields r) (well-asks r by w) (plan c (fields r)) (plan-numbered c (fields r)) refl))
    (λ (w : well_asked r ≡ false). rw (ill-asked c r h hq w) (inl (refl, refl)))
    (bool_cases (well_asked r))

step-since : (c : List ℕ) (es : List Entry) (d : List ℕ) → Step c es d → Since c es d
step-since c es d (inl a) = subst (λ z. Since c z d) (sym a.0) (sym a.1)
step-since c es d (inr a) = subst (λ z. Since c z d) (sym a.3) (d, a.1, a.2, refl)

-- one way after the other
pub since-more : (c : List ℕ) (es : List Entry) (d : List ℕ) (fs : List Entry) (b : List ℕ) → Since c es d → Since d fs b → Since c (es ++ fs) b
since-more c [] d fs b p q = subst (λ z. Since z fs b) (sym p) q
since-more c (e ∷ es) d fs b p q = (p.0, p.1, p.2, since-more p.0 es d fs b p.3 q)

requests-since : (h : Head) (c : List ℕ) (g : ℕ → ℕ → Option Entry) (begin s : ℕ) → Keeps h c g begin s → (bytes : List ℕ) → Bytes bytes → (i n : ℕ)
    → Since c (entered c (requests_in bytes i n)) (card_of c (requests_in bytes i n))
unfolding entered card_of requests_in
requests-since h c g begin s ke bytes by i zero = refl
requests-since h c g begin s ke bytes by i (suc n) =
    let r = sector_at bytes i in
    let es = if_zero (plan_answer (request c r)).code (fields r) in
    let d = plan_card c (request c r) in
    let one = step-since c es d (request-step h c ke.state.head r (bytes-sector bytes i by)) in
    since-more c es d (entered d (requests_in bytes (suc i) n)) (card_of d (requests_in bytes (suc i) n)) one
    (requests-since h d (after g es) begin (last_stamp s es) (since-keeps h c g begin s ke es d one).0 bytes by (suc i) n)

act-since : (h : Head) (c : List ℕ) (g : ℕ → ℕ → Option Entry) (begin s : ℕ) → Keeps h c g begin s → (a : Act) → AllSized (a ∷ [])
    → Since c (taken_by c a) (card_by c a)
unfolding taken_by card_by batch
act-since h c g begin s ke (single k) z = step-since c (taken c k) (called c k).card (call_step h c ke.state.head k z.0)
act-since h c g begin s ke (together requests answers) z = go (paired requests answers)
  where
    rs : List (List ℕ)
    rs = requests_in requests 0 (length answers)

    go : (b : Bool)
        → Since c (if b (entered c rs) []) (if {A = Batch} b (record { code = 0; card = card_of c rs; answers = answers_to c rs }) (record { code = 12; card = c; answers = answers })).card
    go true = requests-since h c g begin s ke requests (get-bytes requests z.0) 0 (length answers)
    go false = refl

pub calls-since : (h : Head) (c : List ℕ) (g : ℕ → ℕ → Option Entry) (begin s : ℕ) → Keeps h c g begin s → (acts : List Act) → AllSized acts
    → Since c (accepted c acts) (card_after c acts)
unfolding accepted card_after
calls-since h c g begin s ke [] z = refl
calls-since h c g begin s ke (a ∷ acts) z =
    let es = taken_by c a in
    let d = card_by c a in
    let one = act-since h c g begin s ke a (first a acts z) in
    since-more c es d (accepted d acts) (card_after d acts) one
    (calls-since h d (after g es) begin (last_stamp s es) (since-keeps h c g begin s ke es d one).0 acts (rest a acts z))
