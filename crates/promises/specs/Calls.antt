-- What calls and batches, one after the other, leave on a card, and the entries accepted on the way; and what calls leave on a journal.
use Rattle.std.specs.Prelude.{◌≡◌, ◌⊎◌, ℕ, zero, suc, ◌+◌, ◌*◌, ◌-◌, ◌≤◌, ◌<◌, List, [], ◌∷◌, ◌++◌, length, get_or, replicate}
use Rattle.std.specs.Prelude.{Some}
use Rattle.rules.specs.declared.Entry.{Entry}
use Rattle.rules.specs.declared.Head.{Head}
use Rattle.rules.specs.declared.Answer.{Answer}
use Rattle.rules.specs.Plain.{if}
use Rattle.rules.specs.Sector.{encode, fields, post_entry, strike_entry}
use Rattle.rules.specs.Layout.{head_of}
use Rattle.rules.specs.Walk.{Visit}
use Rattle.rules.specs.Write.{accept, plan_answer, plan_card, top_used, climb, rooted}
use Rattle.rules.specs.Season.{standing_at, built, season}
use Rattle.rules.specs.Batch.{request, requests_in, paired, batch}
use Rattle.rules.specs.Calls.{Call, format_call, post_call, strike_call, look_call, next_call, called, Ask, post_ask, strike_ask, look_ask, next_ask, call_of, noted}

-- a call is accepted where its answer is 0
abbrev pub Accepted : List ℕ → Call → Type 0
Accepted card k = (called card k).answer.code ≡ 0

-- the card is what an accepted format left, and h its head
abbrev pub Formatted : Head → List ℕ → Type 0
Formatted h card =
    (blank : List ℕ) × (n : ℕ) × (m : ℕ) × (td : ℕ) × (ti : ℕ)
    × Accepted blank (format_call n m td ti) × ((called blank (format_call n m td ti)).card ≡ card) × (head_of card ≡ Some h)

-- the elements of a card or a buffer are bytes
abbrev pub OfBytes : List ℕ → Type 0
OfBytes bytes = (i : ℕ) → get_or bytes i 0 < 256

-- the card is what an accepted season as of t left, h its head and rs the records that stood as of t on the card it was made from,
-- whoever wrote that
abbrev pub Seasoned : Head → ℕ → List Entry → List ℕ → Type 0
Seasoned h t rs card =
    (source : List ℕ) × (target : List ℕ) × (n : ℕ) × (m : ℕ) × (td : ℕ) × (ti : ℕ)
    × OfBytes source × (t < 4294967296) × (season source t target n m td ti ≡ accept card) × (head_of card ≡ Some h) × ((standing_at source t).records ≡ rs)

-- how a card of ours begins, with its head, its beginning and the records it has then: formatted, or as a season card
abbrev pub Begun : Head → ℕ → List Entry → List ℕ → Type 0
Begun h begin rs card = (Formatted h card × (begin ≡ 0) × (rs ≡ [])) ⊎ Seasoned h begin rs card

-- two cards begun alike: both formatted, or both season cards with one beginning and the same records
abbrev pub BegunAlike : Head → List ℕ → List ℕ → Type 0
BegunAlike h card other =
    (Formatted h card × Formatted h other) ⊎ ((begin : ℕ) × (rs : List Entry) × Seasoned h begin rs card × Seasoned h begin rs other)

-- bibs, stamps and times have 32 bits; a status, t and format's numbers may be any
abbrev pub Sized : Call → Type 0
Sized (format_call n m td ti) = Unit {0}
Sized (post_call bib at status time) = (bib < 4294967296) × (at < 4294967296) × (time < 4294967296)
Sized (strike_call bib at) = (bib < 4294967296) × (at < 4294967296)
Sized (look_call bib t) = bib < 4294967296
Sized (next_call bib t) = bib < 4294967296

-- what is done to a card: a single call, or a batch of requests with the places lent for their answers
pub data Act : Type 0 where
  single : Call → Act
  together : List ℕ → List ℕ → Act

abbrev pub AllSized : List Act → Type 0
AllSized [] = Unit {0}
AllSized (single k ∷ acts) = Sized k × AllSized acts
AllSized (together requests answers ∷ acts) = OfBytes requests × AllSized acts

unfoldable pub card_by : List ℕ → Act → List ℕ
card_by card (single k) = (called card k).card
card_by card (together requests answers) = (batch card requests answers).card

-- the card after them, refused calls and reads among them
unfoldable pub card_after : List ℕ → List Act → List ℕ
card_after card [] = card
card_after card (a ∷ acts) = card_after (card_by card a) acts

-- the entry that a call adds: a post's or a strike's, if its answer is 0
unfoldable pub if_zero : ℕ → Entry → List Entry
if_zero zero e = e ∷ []
if_zero (suc c) e = []

unfoldable pub taken : List ℕ → Call → List Entry
taken card (format_call n m td ti) = []
taken card (post_call bib at status time) = if_zero (called card (post_call bib at status time)).answer.code (post_entry bib at status time)
taken card (strike_call bib at) = if_zero (called card (strike_call bib at)).answer.code (strike_entry bib at)
taken card (look_call bib t) = []
taken card (next_call bib t) = []

-- the entries that requests add, one after the other: of each that is answered with 0
unfoldable pub entered : List ℕ → List (List ℕ) → List Entry
entered card [] = []
entered card (r ∷ rs) = if_zero (plan_answer (request card r)).code (fields r) ++ entered (plan_card card (request card r)) rs

unfoldable pub taken_by : List ℕ → Act → List Entry
taken_by card (single k) = taken card k
taken_by card (together requests answers) = if (paired requests answers) (entered card (requests_in requests 0 (length answers))) []

-- the accepted entries, in the order of their arrival
unfoldable pub accepted : List ℕ → List Act → List Entry
accepted card [] = []
accepted card (a ∷ acts) = taken_by card a ++ accepted (card_by card a) acts

-- these bytes ask in a batch for these posts and strikes
abbrev pub Asks : List Call → List ℕ → Type 0
Asks [] bytes = bytes ≡ []
Asks (format_call n m td ti ∷ ks) bytes = ⊥
Asks (post_call bib at status time ∷ ks) bytes = (rest : List ℕ) × (bytes ≡ encode (post_entry bib at status time) ++ rest) × Asks ks rest
Asks (strike_call bib at ∷ ks) bytes = (rest : List ℕ) × (bytes ≡ encode (strike_entry bib at) ++ rest) × Asks ks rest
Asks (look_call bib t ∷ ks) bytes = ⊥
Asks (next_call bib t ∷ ks) bytes = ⊥

abbrev pub EachSized : List Call → Type 0
EachSized [] = Unit {0}
EachSized (k ∷ ks) = Sized k × EachSized ks

-- the card after single calls, and the numbers they answer
unfoldable pub one_by_one : List ℕ → List Call → List ℕ
one_by_one card [] = card
one_by_one card (k ∷ ks) = one_by_one (called card k).card ks

unfoldable pub numbers : List ℕ → List Call → List ℕ
numbers card [] = []
numbers card (k ∷ ks) = (called card k).answer.code ∷ numbers (called card k).card ks

-- the stamp is above that of every entry
abbrev pub Above : ℕ → List Entry → Type 0
Above at [] = Unit {0}
Above at (e ∷ es) = (e.stamp < at) × Above at es

-- no entry is stamped after t and up to u
abbrev pub Quiet : ℕ → ℕ → List Entry → Type 0
Quiet t u [] = Unit {0}
Quiet t u (e ∷ es) = (t < e.stamp → e.stamp ≤ u → ⊥) × Quiet t u es

-- the fresh buckets that a write of e needs along the path p, and those that remain
unfoldable pub needed : Head → List ℕ → Entry → List Visit → ℕ
needed h card e p =
    let first = top_used h card h.n + 1 in
    let r = climb h e.stamp p (record { hand = e ∷ []; fresh = first; card = card }) in
    (rooted h e.stamp r.hand r).fresh - first

unfoldable pub remaining : Head → List ℕ → ℕ
remaining h card = h.n - top_used h card h.n

-- the buckets that a season of the records rs onto the target needs
unfoldable pub season_needs : Head → ℕ → List Entry → List ℕ → ℕ
season_needs h t rs target = (built h t rs target).fresh - 1

-- a blank slice of so many sectors, for a journal
unfoldable pub blank_slice : ℕ → List ℕ
blank_slice sectors = replicate (16 * sectors) 0

abbrev pub AsksSized : List Ask → Type 0
AsksSized [] = Unit {0}
AsksSized (q ∷ qs) = Sized (call_of q) × AsksSized qs

-- the journal after calls of it, and the entries accepted, in the order of their arrival
unfoldable pub journal_after : List ℕ → List Ask → List ℕ
journal_after slice [] = slice
journal_after slice (q ∷ qs) = journal_after (noted slice q).card qs

unfoldable pub noted_by : List ℕ → Ask → List Entry
noted_by slice (post_ask bib at status time) = if_zero (noted slice (post_ask bib at status time)).answer.code (post_entry bib at status time)
noted_by slice (strike_ask bib at) = if_zero (noted slice (strike_ask bib at)).answer.code (strike_entry bib at)
noted_by slice (look_ask bib t) = []
noted_by slice (next_ask bib t) = []

unfoldable pub accepted_in : List ℕ → List Ask → List Entry
accepted_in slice [] = []
accepted_in slice (q ∷ qs) = noted_by slice q ++ accepted_in (noted slice q).card qs

-- what a card and what a journal answer to the same calls
unfoldable pub card_answers : List ℕ → List Ask → List Answer
card_answers card [] = []
card_answers card (q ∷ qs) = (called card (call_of q)).answer ∷ card_answers (called card (call_of q)).card qs

unfoldable pub journal_answers : List ℕ → List Ask → List Answer
journal_answers slice [] = []
journal_answers slice (q ∷ qs) = (noted slice q).answer ∷ journal_answers (noted slice q).card qs
