-- A plain journal: "accepted entries in arrival order on a lent slice, read through for each question".
use Rattle.std.specs.Prelude.{ℕ, ◌/◌, ◌%◌, Bool, true, not, List, [], ◌∷◌, length, leb, ltb, eqb}
use Rattle.std.specs.Prelude.{Option, None, Some}
use Rattle.rules.specs.declared.Entry.{Entry}
use Rattle.rules.specs.declared.Answer.{Answer}
use Rattle.rules.specs.Plain.{if, ◌&◌, and_then, is_none, last_of}
use Rattle.rules.specs.Sector.{is_post, is_data, status_fits, post_entry, strike_entry}
use Rattle.rules.specs.Bucket.{run, blanks}
use Rattle.rules.specs.Walk.{left, copy_of, standing}
use Rattle.rules.specs.Answers.{answer, refused, sheet, ended}
use Rattle.rules.specs.Next.{standing_above}
use Rattle.rules.specs.Rewrite.{fill}
use Rattle.rules.specs.Write.{Plan, refuse, accept, refuse_if, latest}

-- "posts and strikes with rising stamps", the first stamp above s
unfoldable pub rising : ℕ → List Entry → Bool
rising s [] = true
rising s (e ∷ es) = is_data e & ltb s e.stamp & rising e.stamp es

-- "from 1"
unfoldable pub sound_journal : List Entry → Option (List Entry)
sound_journal es = if (rising 0 es) (Some es) None

-- the entries of a journal, or none where it is "not a multiple of 16 long, or not a run of posts and strikes [..], then blanks";
-- its sectors are those of a card of no buckets
unfoldable pub journal : List ℕ → Option (List Entry)
journal slice = if (eqb (length slice % 16) 0) (and_then (run 0 slice 0 (length slice / 16)) sound_journal) None

-- the stamp that a new one has to be above: the last entry's, "or 0 where there is none"
unfoldable pub stamp_in : Option Entry → ℕ
stamp_in None = 0
stamp_in (Some e) = e.stamp

-- what stands for a bib as of t, read through
unfoldable pub stands_in : ℕ → ℕ → List Entry → Option Entry
stands_in t bib es = standing (copy_of bib (left t es))

-- the blank sectors of a journal, in order
unfoldable pub journal_blanks : List ℕ → List ℕ
journal_blanks slice = blanks slice 0 (length slice / 16)

-- "6, in the card's order, exactly when its slice has no blank sector"; else the entry goes to the first one
unfoldable pub journal_on : List ℕ → Entry → List ℕ → Plan
journal_on slice e is = refuse_if (eqb (length is) 0) 6 (accept (fill slice is (e ∷ [])))

-- 1, 2, 14, 3, 5, 6, as the card has them
unfoldable pub journal_for : List ℕ → Entry → Option (List Entry) → Plan
journal_for slice e None = refuse 1
journal_for slice e (Some es) =
    refuse_if (eqb e.key 0) 2
    (refuse_if (not (status_fits e.status e.value)) 14
    (refuse_if (leb e.stamp (stamp_in (last_of es))) 3
    (refuse_if (not (is_post e) & is_none (stands_in latest e.key es)) 5
    (journal_on slice e (journal_blanks slice)))))

unfoldable pub journal_plan : List ℕ → Entry → Plan
journal_plan slice e = journal_for slice e (journal slice)

unfoldable pub journal_post : List ℕ → ℕ → ℕ → ℕ → ℕ → Plan
journal_post slice bib at status time = journal_plan slice (post_entry bib at status time)

unfoldable pub journal_strike : List ℕ → ℕ → ℕ → Plan
journal_strike slice bib at = journal_plan slice (strike_entry bib at)

-- 1, then 2 for bib 0; "Reads is 0 there"
unfoldable pub journal_look_in : ℕ → ℕ → Option (List Entry) → Answer
journal_look_in bib t None = refused 1
journal_look_in bib t (Some es) = if (eqb bib 0) (refused 2) (sheet bib 0 (stands_in t bib es))

unfoldable pub journal_look : List ℕ → ℕ → ℕ → Answer
journal_look slice bib t = journal_look_in bib t (journal slice)

-- the record that is next, or the end
unfoldable pub next_of : Option Entry → Answer
next_of None = ended
next_of (Some e) = answer 0 e.key e.stamp e.status e.value 0

-- 1; else the smallest standing bib above k
unfoldable pub journal_next_in : ℕ → ℕ → Option (List Entry) → Answer
journal_next_in k t None = refused 1
journal_next_in k t (Some es) = next_of (standing_above k (left t es))

unfoldable pub journal_next : List ℕ → ℕ → ℕ → Answer
journal_next slice k t = journal_next_in k t (journal slice)
