-- The bench program: the grammar of a line, what a line does to the bench's card, and the line it answers with.
use Rattle.std.specs.Prelude.{ℕ, zero, suc, ◌+◌, ◌*◌, ◌-◌, ◌/◌, ◌%◌, Bool, true, false, List, [], ◌∷◌, ◌++◌, replicate, leb, ltb, eqb}
use Prim.Native.Char.{code}
use Prim.Native.String as S
use Rattle.std.specs.Prelude.{Option, None, Some}
use Rattle.rules.specs.declared.Answer.{Answer}
use Rattle.rules.specs.Plain.{if, and_then, within}
use Rattle.rules.specs.Layout.{size_of}
use Rattle.rules.specs.Answers.{refused}
use Rattle.rules.specs.Write.{Plan, refuse, accept}
use Rattle.rules.specs.Format.{format, meant}
use Rattle.rules.specs.Calls.{Call, format_call, post_call, strike_call, look_call, next_call, Done, answered, called}

-- the bytes of a text
unfoldable pub text : S.String → List ℕ
text S.[] = []
text (S.◌∷◌ c s) = code c ∷ text s

-- what follows the name at the start of a line, if it stands there
unfoldable pub behind : List ℕ → List ℕ → Option (List ℕ)
behind [] line = Some line
behind (x ∷ xs) [] = None
behind (x ∷ xs) (y ∷ ys) = elim (eqb x y) [ true ↦ behind xs ys | false ↦ None ]

-- the digits at the start of a line, and what follows them
unfoldable pub is_digit : ℕ → Bool
is_digit x = within 48 x 57

unfoldable pub digits : List ℕ → List ℕ
digits [] = []
digits (x ∷ xs) = elim (is_digit x) [ true ↦ x ∷ digits xs | false ↦ [] ]

unfoldable pub beyond : List ℕ → List ℕ
beyond [] = []
beyond (x ∷ xs) = elim (is_digit x) [ true ↦ beyond xs | false ↦ x ∷ xs ]

-- the number that the digits make behind those that made acc
unfoldable pub number_on : ℕ → List ℕ → ℕ
number_on acc [] = acc
number_on acc (x ∷ xs) = number_on (acc * 10 + (x - 48)) xs

-- "Numbers are plain decimals to 4294967295 without leading zeros"
unfoldable pub up_to32 : ℕ → Option ℕ
up_to32 x = if (leb x 4294967295) (Some x) None

unfoldable pub number : List ℕ → Option ℕ
number [] = None
number (x ∷ []) = up_to32 (x - 48)
number (x ∷ y ∷ ys) = if (eqb x 48) None (up_to32 (number_on 0 (x ∷ y ∷ ys)))

-- each name in turn with a number behind it, and nothing after: those numbers
unfoldable pub numbers : List (List ℕ) → List ℕ → Option (List ℕ)
numbers [] [] = Some []
numbers [] (x ∷ xs) = None
numbers (name ∷ names) line =
    and_then (behind name line) (λ rest. and_then (number (digits rest)) (λ x. and_then (numbers names (beyond rest)) (λ xs. Some (x ∷ xs))))

-- "The ops, their fields and the order of these are those shown below and no others, one space between"
unfoldable pub format_names : List (List ℕ)
format_names = text "op=format buckets=" ∷ text " sectors=" ∷ text " td=" ∷ text " ti=" ∷ []

unfoldable pub post_names : List (List ℕ)
post_names = text "op=post bib=" ∷ text " at=" ∷ text " status=" ∷ text " time=" ∷ []

unfoldable pub strike_names : List (List ℕ)
strike_names = text "op=strike bib=" ∷ text " at=" ∷ []

unfoldable pub look_names : List (List ℕ)
look_names = text "op=look bib=" ∷ text " at=" ∷ []

unfoldable pub next_names : List (List ℕ)
next_names = text "op=next bib=" ∷ text " at=" ∷ []

-- as many numbers as the call has
unfoldable pub two : (ℕ → ℕ → Call) → List ℕ → Option Call
two f [] = None
two f (a ∷ []) = None
two f (a ∷ b ∷ []) = Some (f a b)
two f (a ∷ b ∷ c ∷ xs) = None

unfoldable pub three : (ℕ → ℕ → ℕ → Call) → List ℕ → Option Call
three f [] = None
three f (a ∷ xs) = two (f a) xs

unfoldable pub four : (ℕ → ℕ → ℕ → ℕ → Call) → List ℕ → Option Call
four f [] = None
four f (a ∷ xs) = three (f a) xs

unfoldable pub or_try : Option Call → Option Call → Option Call
or_try None k = k
or_try (Some c) k = Some c

-- the call that a line, without its newline, asks for
unfoldable pub parsed : List ℕ → Option Call
parsed line =
    or_try (and_then (numbers format_names line) (four format_call))
    (or_try (and_then (numbers post_names line) (four post_call))
    (or_try (and_then (numbers strike_names line) (two strike_call))
    (or_try (and_then (numbers look_names line) (two look_call))
    (and_then (numbers next_names line) (two next_call)))))

-- a card that format accepts has the length its numbers call for; refused, there is still none
unfoldable pub first_card : Plan → Done
first_card (refuse c) = answered [] (refused c)
first_card (accept new) = answered new (refused 0)

-- "A format before that is given the length its own numbers call for, and a card longer than the buffer is answer 8"
unfoldable pub first_format : ℕ → ℕ → ℕ → ℕ → ℕ → Done
first_format size n m td ti = if (leb size 65536) (first_card (format (replicate size 0) n m td ti)) (answered [] (refused 8))

-- "Its card [..] has length 0 until a format is accepted [..] a later format is given the card's length"
unfoldable pub bench_call : List ℕ → Call → Done
bench_call [] (format_call n m td ti) = first_format (size_of (meant n m td ti)) n m td ti
bench_call [] (post_call bib at status time) = called [] (post_call bib at status time)
bench_call [] (strike_call bib at) = called [] (strike_call bib at)
bench_call [] (look_call bib at) = called [] (look_call bib at)
bench_call [] (next_call bib at) = called [] (next_call bib at)
bench_call (x ∷ card) k = called (x ∷ card) k

-- 10: "not a line of its grammar"
unfoldable pub bench_done : List ℕ → Option Call → Done
bench_done card None = answered card (refused 10)
bench_done card (Some k) = bench_call card k

unfoldable pub bench_line : List ℕ → List ℕ → Done
bench_line card line = bench_done card (parsed line)

-- a number as a plain decimal, in front of what follows it
unfoldable pub decimal_on : ℕ → ℕ → List ℕ → List ℕ
decimal_on zero x after = after
decimal_on (suc f) x after = elim (ltb x 10) [ true ↦ (48 + x) ∷ after | false ↦ decimal_on f (x / 10) ((48 + x % 10) ∷ after) ]

unfoldable pub decimal : ℕ → List ℕ
decimal x = decimal_on (suc x) x []

-- "Fields: answer number, bib, the record's stamp, its time, buckets read"; "bench lines get status= before time="
unfoldable pub answer_line : Answer → List ℕ
answer_line a =
    text "code=" ++ (decimal a.code ++ (text " bib=" ++ (decimal a.bib ++ (text " at=" ++ (decimal a.at
    ++ (text " status=" ++ (decimal a.status ++ (text " time=" ++ (decimal a.time
    ++ (text " reads=" ++ (decimal a.reads ++ text "\n")))))))))))

-- "It reads standard input by lines"; "A final line without its newline counts unless empty"
unfoldable pub start_with : ℕ → List (List ℕ) → List (List ℕ)
start_with x [] = (x ∷ []) ∷ []
start_with x (l ∷ ls) = (x ∷ l) ∷ ls

unfoldable pub lines : List ℕ → List (List ℕ)
lines [] = []
lines (x ∷ xs) = if (eqb x 10) ([] ∷ lines xs) (start_with x (lines xs))

-- "and prints one line for each"
unfoldable pub bench_from : List ℕ → List (List ℕ) → List ℕ
bench_from card [] = []
bench_from card (l ∷ ls) = let done = bench_line card l in answer_line done.answer ++ bench_from done.card ls

unfoldable pub bench : List ℕ → List ℕ
bench input = bench_from [] (lines input)
