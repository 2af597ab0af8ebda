-- The bytes of the input in turn: what they make of the card and of the line that is being read, of which 128 bytes are kept.
use Rattle.std.specs.Prelude.{ℕ, ◌≡◌, List, [], ◌∷◌, ◌++◌, take, eqb}
use Rattle.rules.specs.Plain.{if}
use Rattle.rules.specs.Bench.{bench_line, answer_line, bench}
use Rattle.serve.specs.declared.bench.Bench.{Bench}

pub record Fed : Type 0 where
  pub card : List ℕ
  pub kept : List ℕ

abbrev pub fed_to : List ℕ → List ℕ → Fed
fed_to card kept = record { card = card; kept = kept }

-- the card and the line of a bench
abbrev pub card_of : Bench → List ℕ
card_of b = take b.len b.card

abbrev pub fed_on : Bench → Fed
fed_on b = fed_to (card_of b) b.line.items

unfoldable pub keep : List ℕ → ℕ → List ℕ
keep kept b = take 128 (kept ++ (b ∷ []))

unfoldable pub byte_on : List ℕ → List ℕ → ℕ → Fed
byte_on card kept b = if (eqb b 10) (fed_to (bench_line card kept).card []) (fed_to card (keep kept b))

unfoldable pub fed : List ℕ → List ℕ → List ℕ → Fed
fed card kept [] = fed_to card kept
fed card kept (b ∷ bs) = let one = byte_on card kept b in fed one.card one.kept bs

-- what is answered: to a line when its newline comes, and to a final line unless it is empty
unfoldable pub heard : List ℕ → List ℕ → ℕ → List ℕ
heard card kept b = if (eqb b 10) (answer_line (bench_line card kept).answer) []

unfoldable pub last_heard : List ℕ → List ℕ → List ℕ
last_heard card [] = []
last_heard card (x ∷ kept) = answer_line (bench_line card (x ∷ kept)).answer

-- what is answered to some of the input, whose last line may still go on
unfoldable pub said : List ℕ → List ℕ → List ℕ → List ℕ
said card kept [] = []
said card kept (b ∷ bs) = let one = byte_on card kept b in heard card kept b ++ said one.card one.kept bs

unfoldable pub told : List ℕ → List ℕ → List ℕ → List ℕ
told card kept [] = last_heard card kept
told card kept (b ∷ bs) = let one = byte_on card kept b in heard card kept b ++ told one.card one.kept bs

-- the answers byte by byte are the rules' answers to the whole input
abbrev pub ToldIsTheBench : Type 0
ToldIsTheBench = (input : List ℕ) → told [] [] input ≡ bench input
