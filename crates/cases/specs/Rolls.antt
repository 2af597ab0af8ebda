-- The scroll over the card of document 01's bench session, as of 49 and as of 50, which the checker computes.
use Rattle.std.specs.Prelude.{ℕ, List, [], ◌∷◌, T}
use Rattle.rules.specs.declared.Entry.{Entry}
use Rattle.rules.specs.Bench.{bench_call}
use Rattle.rules.specs.Calls.{Call, format_call, post_call, strike_call}
use Rattle.rules.proofs.Lines.{same}
use Rattle.rules.specs.Plain.{◌&◌}
use Rattle.rules.specs.Sector.{put}
use Rattle.rules.specs.Layout.{head_bytes}
use Rattle.rules.specs.Format.{meant}
use Rattle.rules.specs.Records.{Roll, rolled}
use Rattle.scroll.specs.Records.{records_of}

abbrev pub card_after : List ℕ → List Call → List ℕ
card_after card [] = card
card_after card (k ∷ ks) = card_after (bench_call card k).card ks

abbrev pub calls : List Call
calls = format_call 16 4 3 4 ∷ post_call 8 10 0 61230 ∷ post_call 3 20 0 58900 ∷ post_call 11 30 0 59990 ∷ post_call 5 40 0 60000 ∷ strike_call 8 50 ∷ []

-- the session's card, with 50 for its beginning
abbrev begun_at50 : List ℕ
begun_at50 = put (card_after [] calls) 0 (head_bytes (meant 16 4 3 4) 50)

abbrev pub numbers_of : List Entry → List ℕ
numbers_of [] = []
numbers_of (e ∷ es) = e.key ∷ e.stamp ∷ e.value ∷ numbers_of es

-- the refusal or 0, then bib, stamp and time of each record
abbrev pub numbers : Roll → List ℕ
numbers r = r.code ∷ numbers_of r.records

abbrev pub RollsAsSaid : Type 0
RollsAsSaid = T
    (same (numbers (rolled (card_after [] calls) 49 9 0)) (0 ∷ 3 ∷ 20 ∷ 58900 ∷ 5 ∷ 40 ∷ 60000 ∷ 8 ∷ 10 ∷ 61230 ∷ 11 ∷ 30 ∷ 59990 ∷ [])
    & same (numbers (rolled (card_after [] calls) 50 9 3)) (0 ∷ 5 ∷ 40 ∷ 60000 ∷ 11 ∷ 30 ∷ 59990 ∷ [])
    & same (numbers (rolled (card_after [] calls) 50 2 0)) (0 ∷ 3 ∷ 20 ∷ 58900 ∷ 5 ∷ 40 ∷ 60000 ∷ [])
    & same (numbers (records_of (card_after [] calls) 50 0 0)) (0 ∷ [])
    & same (numbers (records_of [] 50 0 0)) (1 ∷ [])
    & same (numbers (records_of begun_at50 49 0 0)) (13 ∷ []))
