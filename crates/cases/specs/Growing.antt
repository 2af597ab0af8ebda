-- "A card growing, m = 4, TD = 3, TI = 4", cases (a) to (h), and the panel values: one statement over one list, which the checker computes.
use Rattle.std.specs.Prelude.{ℕ, List, [], ◌∷◌, T}
use Rattle.rules.specs.declared.Sector.{Sector}
use Rattle.rules.specs.declared.Sector.TheVariants.{Blank, Held}
use Rattle.rules.specs.Sector.{post_entry, strike_entry, index_entry, root_entry}
use Rattle.rules.specs.Answers.{answer, refused}
use Rattle.rules.specs.Calls.{Call, format_call, post_call, strike_call, look_call}
use Rattle.rules.proofs.Lines.{Line, anew, says, holds, logs, used, shows, passes}

abbrev pub post : ℕ → ℕ → ℕ → Sector
post bib at time = Held (post_entry bib at 0 time)

abbrev pub strike : ℕ → ℕ → Sector
strike bib at = Held (strike_entry bib at)

abbrev pub index : ℕ → ℕ → ℕ → Sector
index key at bucket = Held (index_entry key at bucket)

abbrev pub root : ℕ → ℕ → Sector
root at bucket = Held (root_entry at bucket)

-- an accepted call
abbrev pub ok : Call → Line
ok k = says k (answer 0 0 0 0 0 0)

abbrev nothing : List ℕ
nothing = 0 ∷ 0 ∷ 0 ∷ 0 ∷ 0 ∷ 0 ∷ []

-- a card of n buckets with all that comes before (d), and what follows
abbrev up_to90 : ℕ → List Line → List Line
up_to90 n more =
    anew
    ∷ ok (format_call n 4 3 4)
    ∷ ok (post_call 8 10 0 61230)
    ∷ ok (post_call 3 20 0 58900)
    ∷ ok (post_call 11 30 0 59990)
    ∷ ok (post_call 5 40 0 60000)
    ∷ ok (strike_call 8 50)
    ∷ ok (post_call 11 60 0 1)
    ∷ ok (post_call 11 70 0 2)
    ∷ ok (post_call 12 80 0 3)
    ∷ ok (post_call 13 90 0 4)
    ∷ more

-- the panel values, as M-100 moves them: the borders of each field on both sides
abbrev panels : List Line
panels =
    shows 59990 4 0 (5 ∷ 9 ∷ 9 ∷ 9 ∷ 0 ∷ 0 ∷ [])
    ∷ shows 59991 4 7 nothing
    ∷ shows 59991 5 0 (1 ∷ 0 ∷ 0 ∷ 0 ∷ 0 ∷ 0 ∷ [])
    ∷ shows 60000 4 7 nothing
    ∷ shows 60000 5 0 (1 ∷ 0 ∷ 0 ∷ 0 ∷ 0 ∷ 0 ∷ [])
    ∷ shows 599990 5 0 (9 ∷ 5 ∷ 9 ∷ 9 ∷ 9 ∷ 0 ∷ [])
    ∷ shows 599991 5 7 nothing
    ∷ shows 599991 6 0 (1 ∷ 0 ∷ 0 ∷ 0 ∷ 0 ∷ 0 ∷ [])
    ∷ shows 600000 6 0 (1 ∷ 0 ∷ 0 ∷ 0 ∷ 0 ∷ 0 ∷ [])
    ∷ shows 5999990 6 0 (9 ∷ 9 ∷ 5 ∷ 9 ∷ 9 ∷ 9 ∷ [])
    ∷ shows 5999991 6 7 nothing
    ∷ []

abbrev pub growing : List Line
growing =
    -- the card of the bench session
    anew
    ∷ ok (format_call 16 4 3 4)
    ∷ ok (post_call 8 10 0 61230)
    ∷ ok (post_call 3 20 0 58900)
    ∷ ok (post_call 11 30 0 59990)
    ∷ ok (post_call 5 40 0 60000)
    -- (a) stamp 40 splits bucket 2: bucket 3 holds 0, 3, 5; bucket 4 holds 8, 11
    ∷ holds 3 (strike 0 0 ∷ post 3 20 58900 ∷ post 5 40 60000 ∷ Blank ∷ [])
    ∷ holds 4 (post 8 10 61230 ∷ post 11 30 59990 ∷ Blank ∷ Blank ∷ [])
    ∷ holds 2 (strike 0 0 ∷ post 8 10 61230 ∷ post 3 20 58900 ∷ post 11 30 59990 ∷ [])
    ∷ holds 1 (index 0 0 2 ∷ index 0 40 3 ∷ index 8 40 4 ∷ Blank ∷ [])
    ∷ logs (root 0 1 ∷ Blank ∷ [])
    ∷ used 4
    -- (b) after the strike, posts of 11 at 60 and 70: the second moves bucket 4 to bucket 5 alone, the strike of 8 first, as header
    ∷ ok (strike_call 8 50)
    ∷ ok (post_call 11 60 0 1)
    ∷ used 4
    ∷ ok (post_call 11 70 0 2)
    ∷ holds 4 (post 8 10 61230 ∷ post 11 30 59990 ∷ strike 8 50 ∷ post 11 60 1 ∷ [])
    ∷ holds 5 (strike 8 50 ∷ post 11 70 2 ∷ Blank ∷ Blank ∷ [])
    ∷ holds 1 (index 0 0 2 ∷ index 0 40 3 ∷ index 8 40 4 ∷ index 8 70 5 ∷ [])
    ∷ used 5
    -- (c) posts of 12 at 80, 13 at 90, 14 at 100: the last makes buckets 6 and 7 and a new root 8
    ∷ ok (post_call 12 80 0 3)
    ∷ ok (post_call 13 90 0 4)
    ∷ used 5
    ∷ ok (post_call 14 100 0 5)
    ∷ holds 6 (strike 8 50 ∷ post 11 70 2 ∷ post 12 80 3 ∷ Blank ∷ [])
    ∷ holds 7 (post 13 90 4 ∷ post 14 100 5 ∷ Blank ∷ Blank ∷ [])
    ∷ holds 8 (index 0 40 3 ∷ index 8 100 6 ∷ index 13 100 7 ∷ Blank ∷ [])
    ∷ logs (root 0 1 ∷ root 100 8 ∷ Blank ∷ [])
    ∷ used 8
    -- (e) posts of 15 at 110, 16 at 120, 17 at 130: the last makes 9 to 12 and root 13
    ∷ ok (post_call 15 110 0 6)
    ∷ ok (post_call 16 120 0 7)
    ∷ used 8
    ∷ ok (post_call 17 130 0 8)
    ∷ holds 9 (post 13 90 4 ∷ post 14 100 5 ∷ post 15 110 6 ∷ Blank ∷ [])
    ∷ holds 10 (post 16 120 7 ∷ post 17 130 8 ∷ Blank ∷ Blank ∷ [])
    ∷ holds 11 (index 0 40 3 ∷ index 8 100 6 ∷ Blank ∷ Blank ∷ [])
    ∷ holds 12 (index 13 130 9 ∷ index 16 130 10 ∷ Blank ∷ Blank ∷ [])
    ∷ holds 13 (index 0 130 11 ∷ index 13 130 12 ∷ Blank ∷ Blank ∷ [])
    ∷ logs (root 0 1 ∷ root 100 8 ∷ root 130 13 ∷ Blank ∷ [])
    ∷ used 13
    -- (f) look at 17 as of 130: 3 reads; (g) look at 16 as of 129: stamp 120, 2 reads
    ∷ says (look_call 17 130) (answer 0 17 130 0 8 3)
    ∷ says (look_call 16 129) (answer 0 16 120 0 7 2)
    -- (h) bucket 8 keeps its one blank
    ∷ holds 8 (index 0 40 3 ∷ index 8 100 6 ∷ index 13 100 7 ∷ Blank ∷ [])
    -- what was dropped since is still seen as of its time, through the root of that time
    ∷ says (look_call 8 49) (answer 0 8 10 0 61230 2)
    ∷ says (look_call 11 69) (answer 0 11 60 0 1 2)
    ∷ says (look_call 11 59) (answer 0 11 30 0 59990 2)
    ∷ says (look_call 8 130) (answer 0 8 0 0 0 3)
    ∷ says (look_call 8 99) (answer 0 8 0 0 0 2)
    -- (d) with N = 7 that last post is answer 6, and the card stays; with N = 8 it is accepted
    ∷ up_to90 7 (says (post_call 14 100 0 5) (refused 6) ∷ used 5 ∷ logs (root 0 1 ∷ Blank ∷ []) ∷ up_to90 8 (ok (post_call 14 100 0 5) ∷ used 8 ∷ panels))

abbrev pub GrowsAsSaid : Type 0
GrowsAsSaid = T (passes [] growing)
