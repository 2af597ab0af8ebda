-- What the card promises, over any list of calls and batches: the statements alone, in the rules' own words. Their proofs stand in proofs/.
use Rattle.std.specs.Prelude.{◌≡◌, ◌⊎◌, true, false, ℕ, ◌+◌, ◌*◌, ◌/◌, ◌≤◌, ◌<◌, List, [], ◌∷◌, ◌++◌, length, replicate}
use Rattle.std.specs.Prelude.{Option, None, Some}
use Rattle.std.specs.Borrow.{Bor}
use Rattle.rules.specs.declared.Entry.{Entry}
use Rattle.rules.specs.declared.Head.{Head}
use Rattle.rules.specs.declared.Sector.{Sector}
use Rattle.rules.specs.declared.Sector.TheVariants.{Blank, Held, Damaged}
use Rattle.rules.specs.declared.Answer.{Answer}
use Rattle.rules.specs.declared.Digits.{Digits}
use Rattle.rules.specs.declared.State.{State}
use Rattle.rules.specs.Plain.{zeros}
use Rattle.rules.specs.Sector.{sector_at, put, decode, is_index, post_entry, strike_entry, status_fits}
use Rattle.rules.specs.Layout.{limits, size_of}
use Rattle.rules.specs.Format.{dummy, meant}
use Rattle.rules.specs.Walk.{Visit, walk}
use Rattle.rules.specs.Answers.{answer, refused, sheet, ended}
use Rattle.rules.specs.Look.{look}
use Rattle.rules.specs.Next.{next}
use Rattle.rules.specs.Write.{refuse, accept, plan_answer, plan_card, latest, top_used}
use Rattle.rules.specs.Records.{roll}
use Rattle.rules.specs.History.{history}
use Rattle.rules.specs.Season.{standing_at, season}
use Rattle.rules.specs.State.{state_of, state}
use Rattle.rules.specs.Panel.{panel}
use Rattle.rules.specs.Batch.{Batch, batch}
use Rattle.rules.specs.Journal.{journal, journal_look, journal_next}
use Rattle.rules.specs.Calls.{Call, post_call, strike_call, look_call, next_call, Done, called, Ask, post_ask, strike_ask, look_ask, next_ask, noted}
use Rattle.writer.specs.Rows.{puts}
use Rattle.scroll.specs.declared.Tally.{Tally}
use Rattle.scroll.specs.declared.Scroll.{Scroll}
use Rattle.scroll.specs.Records.{records_of, tally_of}
use Rattle.scroll.specs.Scroll.{after, step_of}
use Rattle.promises.specs.Calls.{Accepted, Formatted, Begun, BegunAlike, Sized, OfBytes, Act, AllSized, EachSized, card_by, card_after, accepted, Asks, one_by_one, numbers, Above, Quiet, needed, remaining, season_needs, blank_slice, AsksSized, journal_after, accepted_in, card_answers, journal_answers}
use Rattle.promises.specs.Reading.{up_to, said_of, stands_as_of, last_stamp}

-- 1. From a card's beginning on, a look answers 0, the bib, and stamp, status and time of the last entry for it stamped t or earlier if
-- that is a post, else zeros; the entries are the records it began with and those accepted since. It never answers damage.
abbrev pub LookTellsTheTruth : Type 0
LookTellsTheTruth =
    (h : Head) (begin : ℕ) (rs : List Entry) (card : List ℕ) → Begun h begin rs card → (calls : List Act) → AllSized calls
    → (bib t : ℕ) → 1 ≤ bib → bib < 4294967296 → begin ≤ t
    → look (card_after card calls) bib t ≡ sheet bib (look (card_after card calls) bib t).reads (stands_as_of t bib (rs ++ accepted card calls))

-- Its reads are the buckets on the path of the walk.
abbrev pub ReadsCountThePath : Type 0
ReadsCountThePath =
    (h : Head) (begin : ℕ) (rs : List Entry) (card : List ℕ) → Begun h begin rs card → (calls : List Act) → AllSized calls
    → (bib t : ℕ) → 1 ≤ bib → bib < 4294967296 → begin ≤ t
    → (p : List Visit) × (walk h (card_after card calls) t bib ≡ Some p) × ((look (card_after card calls) bib t).reads ≡ length p)

-- an answer to next: the end where nothing stands above k, else the smallest bib that does, with its stamp, status and time
abbrev pub Smallest : (ℕ → Option Entry) → ℕ → Answer → Type 0
Smallest stands k a =
    (((b : ℕ) → k < b → b < 4294967296 → stands b ≡ None) × (a ≡ ended))
    ⊎ ((bib : ℕ) × (e : Entry) × (k < bib) × (stands bib ≡ Some e) × ((b : ℕ) → k < b → b < bib → stands b ≡ None)
    × (a ≡ answer 0 bib e.stamp e.status e.value 0))

-- 2. A next answers the smallest bib above k that stands as of t by the same reading as a look's; the end exactly when none does.
abbrev pub NextTellsTheTruth : Type 0
NextTellsTheTruth =
    (h : Head) (begin : ℕ) (rs : List Entry) (card : List ℕ) → Begun h begin rs card → (calls : List Act) → AllSized calls
    → (k t : ℕ) → k < 4294967296 → begin ≤ t
    → Smallest (λ bib. stands_as_of t bib (rs ++ accepted card calls)) k (next (card_after card calls) k t)

-- Before the beginning a look and a history for a bib from 1, a next and a season are refused with 13.
abbrev pub NothingBeforeTheBeginning : Type 0
NothingBeforeTheBeginning =
    (h : Head) (begin : ℕ) (rs : List Entry) (card : List ℕ) → Begun h begin rs card → (calls : List Act) → AllSized calls
    → (bib t : ℕ) → t < begin → (target : List ℕ) (n m td ti : ℕ)
    → (1 ≤ bib → look (card_after card calls) bib t ≡ refused 13)
    × (next (card_after card calls) bib t ≡ refused 13)
    × (season (card_after card calls) t target n m td ti ≡ refuse 13)
    × ((places : ℕ) → 1 ≤ bib → history (card_after card calls) bib t places ≡ roll 13 [])

-- 3. Two cards begun alike, with the same four numbers in the head, whose accepted entries stamped up to t agree
-- answer every look and next as of t alike, reads included.
abbrev pub CardsAnswerAlike : Type 0
CardsAnswerAlike =
    (h : Head) (card other : List ℕ) → BegunAlike h card other
    → (calls others : List Act) → AllSized calls → AllSized others
    → (t : ℕ) → up_to t (accepted card calls) ≡ up_to t (accepted other others)
    → (bib : ℕ) → bib < 4294967296
    → (look (card_after card calls) bib t ≡ look (card_after other others) bib t)
    × (next (card_after card calls) bib t ≡ next (card_after other others) bib t)

-- the sectors are all different
abbrev pub NoneOf : ℕ → List ℕ → Type 0
NoneOf i [] = Unit {0}
NoneOf i (j ∷ js) = (i ≡ j → ⊥) × NoneOf i js

abbrev pub AllDifferent : List ℕ → Type 0
AllDifferent [] = Unit {0}
AllDifferent (i ∷ is) = NoneOf i is × AllDifferent is

-- the new card comes of the card by writes to these sectors, one after the other:
-- each is of sixteen zero bytes when it is written, and no more afterwards
abbrev pub WrittenAt : List ℕ → List ℕ → List ℕ → Type 0
WrittenAt card [] new = card ≡ new
WrittenAt card (i ∷ is) new =
    (bytes : List ℕ) × (sector_at card i ≡ replicate 16 0) × (length bytes ≡ 16) × (zeros bytes ≡ false) × WrittenAt (put card i bytes) is new

-- nothing of the card is overwritten in the new one: the length stays, a sector that is not blank stays, and each write goes to sixteen
-- zero bytes, no two to the same sector
abbrev pub WrittenOnce : List ℕ → List ℕ → Type 0
WrittenOnce card new =
    (length new ≡ length card)
    × ((j : ℕ) → zeros (sector_at card j) ≡ false → sector_at new j ≡ sector_at card j)
    × ((is : List ℕ) × AllDifferent is × WrittenAt card is new)

-- 4. Nothing is overwritten, by any call or batch on any card of bytes, foreign ones too.
abbrev pub NothingIsOverwritten : Type 0
NothingIsOverwritten = (card : List ℕ) → OfBytes card → (a : Act) → AllSized (a ∷ []) → WrittenOnce card (card_by card a)

-- Nor is anything on its target by a season of any card of bytes.
abbrev pub SeasonOverwritesNothing : Type 0
SeasonOverwritesNothing =
    (card : List ℕ) → OfBytes card → (t : ℕ) → t < 4294967296 → (target : List ℕ) (n m td ti : ℕ)
    → WrittenOnce target (plan_card target (season card t target n m td ti))

-- a call that writes e is accepted where the fresh buckets needed remain, and else refused with 6
abbrev pub TakenUnlessFull : Head → List ℕ → Entry → Call → Type 0
TakenUnlessFull h card e k =
    (p : List Visit) × (walk h card latest e.key ≡ Some p)
    × (((needed h card e p ≤ remaining h card) × Accepted card k)
    ⊎ ((remaining h card < needed h card e p) × ((called card k).answer.code ≡ 6)))

-- 5. Nothing is refused without cause: a post with a bib from 1 and a stamp above the beginning and every accepted one is accepted
-- unless too few fresh buckets are left; the log has always room.
abbrev pub PostIsTaken : Type 0
PostIsTaken =
    (h : Head) (begin : ℕ) (rs : List Entry) (card : List ℕ) → Begun h begin rs card → (calls : List Act) → AllSized calls
    → (bib at status time : ℕ) → 1 ≤ bib → begin < at → Sized (post_call bib at status time) → status_fits status time ≡ true
    → Above at (accepted card calls)
    → TakenUnlessFull h (card_after card calls) (post_entry bib at status time) (post_call bib at status time)

-- A strike likewise, where something stands; where nothing does it is refused with 5.
abbrev pub StrikeIsTaken : Type 0
StrikeIsTaken =
    (h : Head) (begin : ℕ) (rs : List Entry) (card : List ℕ) → Begun h begin rs card → (calls : List Act) → AllSized calls
    → (bib at : ℕ) → 1 ≤ bib → begin < at → Sized (strike_call bib at) → Above at (accepted card calls)
    → ((stands_as_of latest bib (rs ++ accepted card calls) ≡ None) × ((called (card_after card calls) (strike_call bib at)).answer.code ≡ 5))
    ⊎ ((stands_as_of latest bib (rs ++ accepted card calls) ≡ None → ⊥)
    × TakenUnlessFull h (card_after card calls) (strike_entry bib at) (strike_call bib at))

-- So is a season as of a stamp from the beginning on, onto a blank target that has the length for numbers within the limits: it is accepted
-- where the target has the buckets needed, and else refused with 6. It never answers damage.
abbrev pub SeasonIsTaken : Type 0
SeasonIsTaken =
    (h : Head) (begin : ℕ) (rs : List Entry) (card : List ℕ) → Begun h begin rs card → (calls : List Act) → AllSized calls
    → (t : ℕ) → begin ≤ t → (target : List ℕ) (n m td ti : ℕ)
    → limits (meant n m td ti) ≡ true → length target ≡ size_of (meant n m td ti) → zeros target ≡ true
    → let source = card_after card calls in
    let needs = season_needs (meant n m td ti) t (standing_at source t).records target in
    ((needs ≤ n) × ((copy : List ℕ) × (season source t target n m td ti ≡ accept copy))) ⊎ ((n < needs) × (season source t target n m td ti ≡ refuse 6))

-- an outcome, answer and bytes afterwards, that fits what is said of a call on a card
abbrev pub FitsCall : List ℕ → Call → Done → Type 0
FitsCall card k done = (done.answer ≡ (called card k).answer) × (done.card ≡ (called card k).card)

-- 6. What is said of a call settles its outcome: two that fit it are equal.
abbrev pub CallsAreSettled : Type 0
CallsAreSettled = (card : List ℕ) (k : Call) (one two : Done) → FitsCall card k one → FitsCall card k two → one ≡ two

abbrev pub PanelIsSettled : Type 0
PanelIsSettled = (time field : ℕ) (one two : Digits) → one ≡ panel time field → two ≡ panel time field → one ≡ two

-- 7. A call that is refused leaves the card as it was, and gives zeros beside its number; on every card, with every argument.
abbrev pub RefusedMeansUnchanged : Type 0
RefusedMeansUnchanged =
    (card : List ℕ) (k : Call) → ((called card k).answer.code ≡ 0 → ⊥)
    → ((called card k).card ≡ card) × ((called card k).answer ≡ refused (called card k).answer.code)

-- Reads never change the card.
abbrev pub ReadsChangeNothing : Type 0
ReadsChangeNothing = (card : List ℕ) (bib t : ℕ) → ((called card (look_call bib t)).card ≡ card) × ((called card (next_call bib t)).card ≡ card)

-- an outcome of the records in a row: the tally, and the bytes of the lent buffer afterwards
abbrev pub FitsRecords : List ℕ → ℕ → ℕ → List ℕ → Tally → List ℕ → Type 0
FitsRecords card bib at out tally new =
    let given = records_of card at (length out / 16) bib in (tally ≡ tally_of given) × (new ≡ puts out 0 given.records)

-- 8. What is said of the records settles both; and refused, they leave the buffer as it was, with 0 beside the number.
abbrev pub RecordsAreSettled : Type 0
RecordsAreSettled =
    (card : List ℕ) (bib at : ℕ) (out : List ℕ) (one two : Tally) (new other : List ℕ)
    → FitsRecords card bib at out one new → FitsRecords card bib at out two other
    → (one ≡ two) × (new ≡ other) × ((one.code ≡ 0 → ⊥) → (one.count ≡ 0) × (new ≡ out))

-- what is said of a new scroll, and of a step: its answer and the scroll afterwards
abbrev pub FitsNew : Bor (List ℕ) → ℕ → Scroll → Type 0
FitsNew card at s = (s.card ≡ card) × (s.at ≡ at) × (s.last ≡ 0)

abbrev pub FitsStep : Scroll → Answer → Scroll → Type 0
FitsStep s a new = (a ≡ step_of s) × (new ≡ after s a)

-- 9. It settles them.
abbrev pub ScrollIsSettled : Type 0
ScrollIsSettled =
    ((card : Bor (List ℕ)) (at : ℕ) (one two : Scroll) → FitsNew card at one → FitsNew card at two → one ≡ two)
    × ((s : Scroll) (a b : Answer) (one two : Scroll) → FitsStep s a one → FitsStep s b two → (a ≡ b) × (one ≡ two))

-- After the end, or a refusal, a scroll says the same again.
abbrev pub ScrollSaysAgain : Type 0
ScrollSaysAgain = (s : Scroll) → (step_of s).bib ≡ 0 → step_of (after s (step_of s)) ≡ step_of s

-- 10. A card of ours says of itself its head's four numbers, its beginning, the stamp of the entry accepted last, or of the beginning,
-- and the highest bucket used.
abbrev pub StateTellsTheTruth : Type 0
StateTellsTheTruth =
    (h : Head) (begin : ℕ) (rs : List Entry) (card : List ℕ) → Begun h begin rs card → (calls : List Act) → AllSized calls
    → state (card_after card calls) ≡ state_of h begin (last_stamp begin (accepted card calls)) (top_used h (card_after card calls) h.n)

-- What a state tells decides: a stamp is refused with 3 exactly where it is not above the last.
abbrev pub StateTellsTheNext : Type 0
StateTellsTheNext =
    (card : List ℕ) → (state card).code ≡ 0 → (bib at status time : ℕ) → 1 ≤ bib → status_fits status time ≡ true
    → (at ≤ (state card).last → (called card (post_call bib at status time)).answer.code ≡ 3)
    × ((state card).last < at → (called card (post_call bib at status time)).answer.code ≡ 3 → ⊥)

abbrev pub StateIsSettled : Type 0
StateIsSettled = (card : List ℕ) (one two : State) → one ≡ state card → two ≡ state card → one ≡ two

-- 11. A batch leaves the card that the same posts and strikes one by one leave, and answers what they answer, on every card.
abbrev pub BatchIsOneByOne : Type 0
BatchIsOneByOne =
    (card : List ℕ) (ks : List Call) → EachSized ks → (requests : List ℕ) → Asks ks requests → (answers : List ℕ) → length answers ≡ length ks
    → batch card requests answers ≡ record { code = 0; card = one_by_one card ks; answers = numbers card ks }

-- Cut in two between any two requests, as two batches one after the other, it gives the same card and the same answers.
abbrev pub BatchCutInTwo : Type 0
BatchCutInTwo =
    (card requests answers more places : List ℕ) → length requests ≡ 16 * length answers → length more ≡ 16 * length places
    → let one = batch card requests answers in
    let two = batch one.card more places in
    batch card (requests ++ more) (answers ++ places) ≡ record { code = 0; card = two.card; answers = one.answers ++ two.answers }

-- A request that is refused changes no byte of the card and does not stop the batch: what follows it goes on as without it.
abbrev pub RefusedDoesNotStop : Type 0
RefusedDoesNotStop =
    (card request : List ℕ) → length request ≡ 16 → (place number : ℕ) → (batch card request (place ∷ [])).answers ≡ number ∷ [] → (number ≡ 0 → ⊥)
    → (more places : List ℕ) → length more ≡ 16 * length places
    → let on = batch card more places in
    batch card (request ++ more) (place ∷ places) ≡ record { code = 0; card = on.card; answers = number ∷ on.answers }

-- an outcome of a batch: its number, and the bytes of the card and of the answers afterwards
abbrev pub FitsBatch : List ℕ → List ℕ → List ℕ → Batch → Type 0
FitsBatch card requests answers b =
    let said = batch card requests answers in (b.code ≡ said.code) × (b.card ≡ said.card) × (b.answers ≡ said.answers)

-- What is said of a batch settles all three; and a batch that is refused leaves every lent byte as it was.
abbrev pub BatchIsSettled : Type 0
BatchIsSettled =
    (card requests answers : List ℕ) (one two : Batch) → FitsBatch card requests answers one → FitsBatch card requests answers two
    → (one ≡ two) × ((one.code ≡ 0 → ⊥) → (one.code ≡ 12) × (one.card ≡ card) × (one.answers ≡ answers))

-- 12. A season card of a card of ours is seen through to it: from t on, looks and nexts tell what was accepted on the season card
-- over what stood on the first card as of t.
abbrev pub SeenThrough : Type 0
SeenThrough =
    (h : Head) (begin : ℕ) (rs : List Entry) (card : List ℕ) → Begun h begin rs card → (calls : List Act) → AllSized calls
    → (t : ℕ) → t < 4294967296 → (target : List ℕ) (n m td ti : ℕ) (copy : List ℕ) → season (card_after card calls) t target n m td ti ≡ accept copy
    → (more : List Act) → AllSized more → (bib u : ℕ) → bib < 4294967296 → t ≤ u
    → let entries = up_to t (rs ++ accepted card calls) ++ accepted copy more in
    (1 ≤ bib → look (card_after copy more) bib u ≡ sheet bib (look (card_after copy more) bib u).reads (stands_as_of u bib entries))
    × Smallest (λ b. stands_as_of u b entries) bib (next (card_after copy more) bib u)

-- 13. Copies of copies: where nothing was accepted with a stamp after t and up to u, a season card as of t, copied again as of u with no
-- calls between, is byte for byte the season card of the first card as of u with the same final geometry, given that no copy was refused.
abbrev pub CopiesOfCopies : Type 0
CopiesOfCopies =
    (h : Head) (begin : ℕ) (rs : List Entry) (card : List ℕ) → Begun h begin rs card → (calls : List Act) → AllSized calls
    → (t u : ℕ) → t ≤ u → u < 4294967296 → Quiet t u (accepted card calls)
    → (first : List ℕ) (n m td ti : ℕ) (copy : List ℕ) → season (card_after card calls) t first n m td ti ≡ accept copy
    → (second third : List ℕ) (n' m' td' ti' : ℕ) (again straight : List ℕ)
    → season copy u second n' m' td' ti' ≡ accept again → season (card_after card calls) u third n' m' td' ti' ≡ accept straight
    → again ≡ straight

-- Onto one target both answer alike, refusals too.
abbrev pub CopiesAreRefusedAlike : Type 0
CopiesAreRefusedAlike =
    (h : Head) (begin : ℕ) (rs : List Entry) (card : List ℕ) → Begun h begin rs card → (calls : List Act) → AllSized calls
    → (t u : ℕ) → t ≤ u → u < 4294967296 → Quiet t u (accepted card calls)
    → (first : List ℕ) (n m td ti : ℕ) (copy : List ℕ) → season (card_after card calls) t first n m td ti ≡ accept copy
    → (target : List ℕ) (n' m' td' ti' : ℕ) → season copy u target n' m' td' ti' ≡ season (card_after card calls) u target n' m' td' ti'

-- With u equal to t, copying twice is copying once.
abbrev pub TwiceIsOnce : Type 0
TwiceIsOnce =
    (h : Head) (begin : ℕ) (rs : List Entry) (card : List ℕ) → Begun h begin rs card → (calls : List Act) → AllSized calls
    → (t : ℕ) → t < 4294967296
    → (first : List ℕ) (n m td ti : ℕ) (copy : List ℕ) → season (card_after card calls) t first n m td ti ≡ accept copy
    → (second third : List ℕ) (n' m' td' ti' : ℕ) (again straight : List ℕ)
    → season copy t second n' m' td' ti' ≡ accept again → season (card_after card calls) t third n' m' td' ti' ≡ accept straight
    → again ≡ straight

-- an outcome of a season: its number, and the bytes of the target afterwards; the first card is only read
abbrev pub FitsSeason : List ℕ → ℕ → List ℕ → ℕ → ℕ → ℕ → ℕ → ℕ → List ℕ → Type 0
FitsSeason card t target n m td ti number new =
    let said = season card t target n m td ti in (number ≡ (plan_answer said).code) × (new ≡ plan_card target said)

-- 14. What is said of a season settles both; and refused, it leaves the target as it was.
abbrev pub SeasonIsSettled : Type 0
SeasonIsSettled =
    (card : List ℕ) (t : ℕ) (target : List ℕ) (n m td ti : ℕ) (one two : ℕ) (new other : List ℕ)
    → FitsSeason card t target n m td ti one new → FitsSeason card t target n m td ti two other
    → (one ≡ two) × (new ≡ other) × ((one ≡ 0 → ⊥) → new ≡ target)

-- an answer but for its reads, which are taken as 0
unfoldable pub readless : Answer → Answer
readless a = answer a.code a.bib a.at a.status a.time 0

-- the answers of a card and of a journal agree, one after the other, until either is 6
abbrev pub AgreeUntilSix : List Answer → List Answer → Type 0
AgreeUntilSix [] [] = Unit {0}
AgreeUntilSix [] (b ∷ bs) = ⊥
AgreeUntilSix (a ∷ answers) [] = ⊥
AgreeUntilSix (a ∷ answers) (b ∷ bs) = ((a.code ≡ 6) ⊎ (b.code ≡ 6)) ⊎ ((readless a ≡ b) × AgreeUntilSix answers bs)

-- 15. A journal answers as the card does: any calls, each made on a freshly formatted card and on a blank slice of any whole number of
-- sectors, are answered alike, reads taken as 0, until either has answered 6.
abbrev pub JournalAnswersAlike : Type 0
JournalAnswersAlike =
    (h : Head) (card : List ℕ) → Formatted h card → (sectors : ℕ) (asks : List Ask) → AsksSized asks
    → AgreeUntilSix (card_answers card asks) (journal_answers (blank_slice sectors) asks)

-- 16. A journal that only its calls wrote holds the entries that it accepted, in the order of their arrival, and no other.
abbrev pub JournalHoldsTheAccepted : Type 0
JournalHoldsTheAccepted =
    (sectors : ℕ) (asks : List Ask) → AsksSized asks → journal (journal_after (blank_slice sectors) asks) ≡ Some (accepted_in (blank_slice sectors) asks)

-- Look and next of it are the plain reading of these entries, whatever a card would have answered.
abbrev pub JournalTellsTheTruth : Type 0
JournalTellsTheTruth =
    (sectors : ℕ) (asks : List Ask) → AsksSized asks → (bib t : ℕ)
    → let slice = journal_after (blank_slice sectors) asks in
    let entries = accepted_in (blank_slice sectors) asks in
    (1 ≤ bib → journal_look slice bib t ≡ sheet bib 0 (stands_as_of t bib entries))
    × Smallest (λ b. stands_as_of t b entries) bib (journal_next slice bib t)

-- a sector of the slice is blank; none is
abbrev pub SomeBlank : List ℕ → Type 0
SomeBlank slice = (i : ℕ) × (16 * i + 16 ≤ length slice) × (zeros (sector_at slice i) ≡ true)

abbrev pub NoBlank : List ℕ → Type 0
NoBlank slice = (i : ℕ) → 16 * i + 16 ≤ length slice → zeros (sector_at slice i) ≡ false

-- a call of a journal is accepted where a sector is blank, and else refused with 6
abbrev pub TakenIfBlank : List ℕ → Ask → Type 0
TakenIfBlank slice q = (SomeBlank slice × ((noted slice q).answer.code ≡ 0)) ⊎ (NoBlank slice × ((noted slice q).answer.code ≡ 6))

-- 17. On any journal, whoever wrote it, a post with a bib from 1, a status that fits its time and a stamp above 0 and every stamp there is
-- accepted exactly where a sector is blank, and else refused with 6; a strike likewise, where something stands, and where nothing does it is refused with 5.
abbrev pub JournalTakesUntilFull : Type 0
JournalTakesUntilFull =
    (slice : List ℕ) (entries : List Entry) → journal slice ≡ Some entries
    → (bib at status time : ℕ) → 1 ≤ bib → 1 ≤ at → status_fits status time ≡ true → Above at entries
    → TakenIfBlank slice (post_ask bib at status time)
    × (((stands_as_of latest bib entries ≡ None) × ((noted slice (strike_ask bib at)).answer.code ≡ 5))
    ⊎ ((stands_as_of latest bib entries ≡ None → ⊥) × TakenIfBlank slice (strike_ask bib at)))

-- And 6 is given only where no sector is blank, on every slice.
abbrev pub SixMeansFull : Type 0
SixMeansFull = (slice : List ℕ) (q : Ask) → (noted slice q).answer.code ≡ 6 → NoBlank slice

-- 18. Nothing of a journal is overwritten, by any call on any slice.
abbrev pub JournalOverwritesNothing : Type 0
JournalOverwritesNothing = (slice : List ℕ) (q : Ask) → WrittenOnce slice (noted slice q).card

-- an outcome, answer and bytes afterwards, that fits what is said of a call on a slice
abbrev pub FitsNoted : List ℕ → Ask → Done → Type 0
FitsNoted slice q done = (done.answer ≡ (noted slice q).answer) × (done.card ≡ (noted slice q).card)

-- 19. What is said of a journal's call settles its outcome; and refused, it leaves the slice as it was, with zeros beside its number.
abbrev pub JournalIsSettled : Type 0
JournalIsSettled =
    (slice : List ℕ) (q : Ask) (one two : Done) → FitsNoted slice q one → FitsNoted slice q two
    → (one ≡ two) × ((one.answer.code ≡ 0 → ⊥) → (one.card ≡ slice) × (one.answer ≡ refused one.answer.code))

-- Look and next change nothing of it, and no answer has reads.
abbrev pub JournalReadsNothing : Type 0
JournalReadsNothing =
    (slice : List ℕ) → ((bib t : ℕ) → ((noted slice (look_ask bib t)).card ≡ slice) × ((noted slice (next_ask bib t)).card ≡ slice))
    × ((q : Ask) → (noted slice q).answer.reads ≡ 0)

-- 20. A result is a time or a status, never both: the status that a look or a next answers is one of 0 to 3, and beside 1 to 3 the time
-- is 0; on every card.
abbrev pub StatusFitsItsTime : Type 0
StatusFitsItsTime =
    (card : List ℕ) → OfBytes card → (bib t : ℕ)
    → (status_fits (look card bib t).status (look card bib t).time ≡ true) × (status_fits (next card bib t).status (next card bib t).time ≡ true)

-- A post of any other is refused with 14, whatever its stamp, on every card that has a head.
abbrev pub MisfitIsRefused : Type 0
MisfitIsRefused =
    (card : List ℕ) → (state card).code ≡ 0 → (bib at status time : ℕ) → 1 ≤ bib → status_fits status time ≡ false
    → (called card (post_call bib at status time)).answer ≡ refused 14

-- one of the entries; each of them
abbrev pub OneOf : Entry → List Entry → Type 0
OneOf d [] = ⊥
OneOf d (e ∷ es) = (d ≡ e) ⊎ OneOf d es

abbrev pub Each : (Entry → Type 0) → List Entry → Type 0
Each P [] = Unit {0}
Each P (e ∷ es) = P e × Each P es

-- a sector is blank, or holds an index entry, the dummy or one of the entries
abbrev pub KnownSector : List Entry → Sector → Type 0
KnownSector es Blank = Unit {0}
KnownSector es (Held d) = (is_index d ≡ true) ⊎ ((d ≡ dummy) ⊎ OneOf d es)
KnownSector es Damaged = ⊥

-- 21. Nothing else stands on a card of ours: every sector of its bucket area is blank, or holds an index entry, the dummy, a record that
-- the card began with or an entry accepted since.
abbrev pub OnlyAcceptedStand : Type 0
OnlyAcceptedStand =
    (h : Head) (begin : ℕ) (rs : List Entry) (card : List ℕ) → Begun h begin rs card → (calls : List Act) → AllSized calls
    → (j : ℕ) → 1 + h.n ≤ j → KnownSector (rs ++ accepted card calls) (decode h.n (sector_at (card_after card calls) j))

-- And each of these records and entries, strikes too, stands in some sector of it for ever.
abbrev pub AcceptedStand : Type 0
AcceptedStand =
    (h : Head) (begin : ℕ) (rs : List Entry) (card : List ℕ) → Begun h begin rs card → (calls : List Act) → AllSized calls
    → Each (λ d. (j : ℕ) × (1 + h.n ≤ j) × (j < 1 + h.n + h.n * h.m) × (decode h.n (sector_at (card_after card calls) j) ≡ Held d))
    (rs ++ accepted card calls)

-- 22. From a card's beginning on, the history of a bib as of t is the record for it that the card began with, if any, and every entry accepted
-- for it up to t, strikes included, in the order of their arrival; 15 where they are more than the sectors lent. It never answers damage.
abbrev pub HistoryTellsTheAccepted : Type 0
HistoryTellsTheAccepted =
    (h : Head) (begin : ℕ) (rs : List Entry) (card : List ℕ) → Begun h begin rs card → (calls : List Act) → AllSized calls
    → (bib t : ℕ) → 1 ≤ bib → begin ≤ t → (places : ℕ)
    → let said = said_of bib t (rs ++ accepted card calls) in
    ((length said ≤ places) × (history (card_after card calls) bib t places ≡ roll 0 said))
    ⊎ ((places < length said) × (history (card_after card calls) bib t places ≡ roll 15 []))

-- 23. No two sequences of accepted entries leave the same card, of those that begin with a format.
abbrev pub OneSequence : Type 0
OneSequence =
    (h g : Head) (card other : List ℕ) → Formatted h card → Formatted g other
    → (calls others : List Act) → AllSized calls → AllSized others
    → card_after card calls ≡ card_after other others → (h ≡ g) × (accepted card calls ≡ accepted other others)

-- an outcome of a history: the tally, and the bytes of the lent buffer afterwards; the card is only read
abbrev pub FitsHistory : List ℕ → ℕ → ℕ → List ℕ → Tally → List ℕ → Type 0
FitsHistory card bib at out tally new =
    let told = history card bib at (length out / 16) in (tally ≡ tally_of told) × (new ≡ puts out 0 told.records)

-- 24. What is said of a history settles both; and refused, it leaves the buffer as it was, with 0 beside the number.
abbrev pub HistoryIsSettled : Type 0
HistoryIsSettled =
    (card : List ℕ) (bib at : ℕ) (out : List ℕ) (one two : Tally) (new other : List ℕ)
    → FitsHistory card bib at out one new → FitsHistory card bib at out two other
    → (one ≡ two) × (new ≡ other) × ((one.code ≡ 0 → ⊥) → (one.count ≡ 0) × (new ≡ out))

-- All that is promised. `promised` in src/ asks for a term of it, so that a promise without its proof fails the check.
pub record Promises : Type 0 where
  pub look-tells-the-truth : LookTellsTheTruth
  pub reads-count-the-path : ReadsCountThePath
  pub next-tells-the-truth : NextTellsTheTruth
  pub nothing-before-the-beginning : NothingBeforeTheBeginning
  pub cards-answer-alike : CardsAnswerAlike
  pub nothing-is-overwritten : NothingIsOverwritten
  pub season-overwrites-nothing : SeasonOverwritesNothing
  pub post-is-taken : PostIsTaken
  pub strike-is-taken : StrikeIsTaken
  pub season-is-taken : SeasonIsTaken
  pub calls-are-settled : CallsAreSettled
  pub panel-is-settled : PanelIsSettled
  pub refused-means-unchanged : RefusedMeansUnchanged
  pub reads-change-nothing : ReadsChangeNothing
  pub records-are-settled : RecordsAreSettled
  pub scroll-is-settled : ScrollIsSettled
  pub scroll-says-again : ScrollSaysAgain
  pub state-tells-the-truth : StateTellsTheTruth
  pub state-tells-the-next : StateTellsTheNext
  pub state-is-settled : StateIsSettled
  pub batch-is-one-by-one : BatchIsOneByOne
  pub batch-cut-in-two : BatchCutInTwo
  pub refused-does-not-stop : RefusedDoesNotStop
  pub batch-is-settled : BatchIsSettled
  pub seen-through : SeenThrough
  pub copies-of-copies : CopiesOfCopies
  pub copies-are-refused-alike : CopiesAreRefusedAlike
  pub twice-is-once : TwiceIsOnce
  pub season-is-settled : SeasonIsSettled
  pub journal-answers-alike : JournalAnswersAlike
  pub journal-holds-the-accepted : JournalHoldsTheAccepted
  pub journal-tells-the-truth : JournalTellsTheTruth
  pub journal-takes-until-full : JournalTakesUntilFull
  pub six-means-full : SixMeansFull
  pub journal-overwrites-nothing : JournalOverwritesNothing
  pub journal-is-settled : JournalIsSettled
  pub journal-reads-nothing : JournalReadsNothing
  pub status-fits-its-time : StatusFitsItsTime
  pub misfit-is-refused : MisfitIsRefused
  pub only-accepted-stand : OnlyAcceptedStand
  pub accepted-stand : AcceptedStand
  pub history-tells-the-accepted : HistoryTellsTheAccepted
  pub one-sequence : OneSequence
  pub history-is-settled : HistoryIsSettled
