-- Season cards of two cards of ours, bucket for bucket, as another implementation has them: one statement over one list, which the checker computes.
use Rattle.std.specs.Prelude.{ℕ, ◌+◌, ◌*◌, List, [], ◌∷◌, ◌++◌, T, replicate}
use Rattle.rules.specs.declared.Sector.TheVariants.{Blank}
use Rattle.rules.specs.Answers.{answer, refused}
use Rattle.rules.specs.Calls.{format_call, post_call, strike_call, look_call, next_call}
use Rattle.rules.proofs.Lines.{Line, anew, says, goes_on, holds, logs, tells, passes}
use Rattle.cases.specs.Growing.{post, strike, index, root, ok}

-- a season card as of t, on a blank target of n buckets of m sectors, with the default limits, and the number that is answered
abbrev onward : ℕ → ℕ → ℕ → ℕ → Line
onward t n m code = goes_on (replicate (16 * (1 + n * (m + 1))) 0) t n m 0 0 code

-- the card of document 01's session goes on as of 49, when 8 still stood
abbrev struck_later : List Line
struck_later =
    anew
    ∷ ok (format_call 16 4 3 4)
    ∷ ok (post_call 8 10 0 61230)
    ∷ ok (post_call 3 20 0 58900)
    ∷ ok (post_call 11 30 0 59990)
    ∷ ok (post_call 5 40 0 60000)
    ∷ ok (strike_call 8 50)
    ∷ onward 49 8 4 0
    ∷ holds 1 (strike 0 0 ∷ post 3 20 58900 ∷ post 5 40 60000 ∷ Blank ∷ [])
    ∷ holds 2 (post 8 10 61230 ∷ post 11 30 59990 ∷ Blank ∷ Blank ∷ [])
    ∷ holds 3 (index 0 49 1 ∷ index 8 49 2 ∷ Blank ∷ Blank ∷ [])
    ∷ logs (root 49 3 ∷ Blank ∷ [])
    ∷ tells (0 ∷ 8 ∷ 4 ∷ 2 ∷ 4 ∷ 49 ∷ 49 ∷ 3 ∷ [])
    ∷ []

-- ten results go on as of 100: there are two index levels, the last bucket of the lower one thin, and six buckets are too few
abbrev two_levels : List Line
two_levels =
    anew
    ∷ ok (format_call 16 4 3 4)
    ∷ ok (post_call 8 10 0 8000)
    ∷ ok (post_call 3 20 0 3001)
    ∷ ok (post_call 11 30 0 11002)
    ∷ ok (post_call 5 40 0 5003)
    ∷ ok (post_call 20 50 0 20004)
    ∷ ok (post_call 17 60 0 17005)
    ∷ ok (post_call 14 70 0 14006)
    ∷ ok (post_call 9 80 0 9007)
    ∷ ok (post_call 2 90 0 2008)
    ∷ ok (post_call 30 100 0 30009)
    ∷ onward 100 6 4 6
    ∷ onward 100 7 4 0
    ∷ holds 1 (strike 0 0 ∷ post 2 90 2008 ∷ post 3 20 3001 ∷ Blank ∷ [])
    ∷ holds 2 (post 5 40 5003 ∷ post 8 10 8000 ∷ post 9 80 9007 ∷ Blank ∷ [])
    ∷ holds 3 (post 11 30 11002 ∷ post 14 70 14006 ∷ post 17 60 17005 ∷ Blank ∷ [])
    ∷ holds 4 (post 20 50 20004 ∷ post 30 100 30009 ∷ Blank ∷ Blank ∷ [])
    ∷ holds 5 (index 0 100 1 ∷ index 5 100 2 ∷ index 11 100 3 ∷ Blank ∷ [])
    ∷ holds 6 (index 20 100 4 ∷ Blank ∷ Blank ∷ Blank ∷ [])
    ∷ holds 7 (index 0 100 5 ∷ index 20 100 6 ∷ Blank ∷ Blank ∷ [])
    ∷ logs (root 100 7 ∷ Blank ∷ Blank ∷ Blank ∷ Blank ∷ Blank ∷ Blank ∷ [])
    ∷ tells (0 ∷ 7 ∷ 4 ∷ 2 ∷ 4 ∷ 100 ∷ 100 ∷ 7 ∷ [])
    -- as of its beginning it answers with the stamps that it was given, and before it not at all
    ∷ says (look_call 9 100) (answer 0 9 80 0 9007 3)
    ∷ says (next_call 20 100) (answer 0 30 100 0 30009 0)
    ∷ says (look_call 9 99) (refused 13)
    ∷ onward 99 7 4 13
    -- it goes on itself, with five to a bucket; a post is taken from the beginning on
    ∷ onward 200 4 7 0
    ∷ holds 1 (strike 0 0 ∷ post 2 90 2008 ∷ post 3 20 3001 ∷ post 5 40 5003 ∷ post 8 10 8000 ∷ Blank ∷ Blank ∷ [])
    ∷ holds 2 (post 9 80 9007 ∷ post 11 30 11002 ∷ post 14 70 14006 ∷ post 17 60 17005 ∷ post 20 50 20004 ∷ Blank ∷ Blank ∷ [])
    ∷ holds 3 (post 30 100 30009 ∷ Blank ∷ Blank ∷ Blank ∷ Blank ∷ Blank ∷ Blank ∷ [])
    ∷ holds 4 (index 0 200 1 ∷ index 9 200 2 ∷ index 30 200 3 ∷ Blank ∷ Blank ∷ Blank ∷ Blank ∷ [])
    ∷ logs (root 200 4 ∷ Blank ∷ Blank ∷ Blank ∷ [])
    ∷ tells (0 ∷ 4 ∷ 7 ∷ 3 ∷ 7 ∷ 200 ∷ 200 ∷ 4 ∷ [])
    ∷ says (post_call 10 200 0 1) (refused 3)
    ∷ ok (post_call 10 201 0 10010)
    ∷ says (look_call 10 201) (answer 0 10 201 0 10010 2)
    ∷ says (look_call 10 200) (answer 0 10 0 0 0 2)
    ∷ []

abbrev pub seasons : List Line
seasons = struck_later ++ two_levels

abbrev pub SeasonsAsSaid : Type 0
SeasonsAsSaid = T (passes [] seasons)
