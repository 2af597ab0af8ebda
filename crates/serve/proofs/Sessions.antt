-- What is answered byte by byte, with 128 bytes of a line kept, is what the rules answer to the whole input.
use mathlib.Core.Path.{◌≡◌, refl, sym, ap, ◌∙◌}
use mathlib.Core.Logic.{⊎_elim}
use mathlib.Core.Bool.{true, false}
use mathlib.Core.List.{List, [], ◌∷◌, ◌++◌, append_assoc, append-nil}
use Prim.Native.Nat.{ℕ, ◌≤◌, ◌<◌}
use native.Mathlib.Omega.{arith}
use lib.ListN.{length, take}
use lib.Seq.{take_all, take-append-le, length-take-le}
use lib.Dec.{eqb}
use Rattle.rules.specs.Calls.{Done}
use Rattle.rules.specs.Bench.{answer_line, start_with, lines, bench_done, bench_line, bench_from, bench}
use Rattle.laws.proofs.Tools.{bool_cases, le-or-lt}
use Rattle.line.proofs.Lengths.{first-bytes}
use Rattle.serve.specs.Feeds.{fed_to, keep, byte_on, heard, last_heard, told, ToldIsTheBench}

-- the lines of what follows the line that is being read
onward : List ℕ → List (List ℕ) → List (List ℕ)
onward [] [] = []
onward (x ∷ line) [] = (x ∷ line) ∷ []
onward line (l ∷ ls) = (line ++ l) ∷ ls

onward-none : (ls : List (List ℕ)) → onward [] ls ≡ ls
unfolding onward
onward-none [] = refl
onward-none (l ∷ ls) = refl

onward-byte : (line : List ℕ) (b : ℕ) (ls : List (List ℕ)) → onward line (start_with b ls) ≡ onward (line ++ (b ∷ [])) ls
unfolding onward start_with
onward-byte [] b [] = refl
onward-byte (x ∷ line) b [] = refl
onward-byte [] b (l ∷ ls) = refl
onward-byte (x ∷ line) b (l ∷ ls) = ap (λ (k : List ℕ). (x ∷ k) ∷ ls) (sym (append_assoc line (b ∷ []) l))

-- no more of a line is needed than what is kept
kept_line : (card line : List ℕ) → bench_line card (take 128 line) ≡ bench_line card line
unfolding bench_line
kept_line card line = ap (bench_done card) (first-bytes line)

kept_byte : (line : List ℕ) (b : ℕ) → keep (take 128 line) b ≡ take 128 (line ++ (b ∷ []))
unfolding keep
kept_byte line b =
    ⊎_elim
    (λ (short : length line ≤ 128). ap (λ (k : List ℕ). take 128 (k ++ (b ∷ []))) (take_all 128 line short))
    (λ (long : 128 < length line).
    let full = length-take-le 128 line (omega arith) in
    take-append-le 128 (take 128 line) (b ∷ []) (omega arith)
    ∙ take_all 128 (take 128 line) (omega arith)
    ∙ sym (take-append-le 128 line (b ∷ []) (omega arith)))
    (le-or-lt (length line) 128)

last-told : (card line : List ℕ) → last_heard card (take 128 line) ≡ bench_from card (onward line [])
unfolding last_heard onward bench_from
last-told card [] = refl
last-told card (x ∷ line) =
    ap (λ (d : Done). answer_line d.answer) (kept_line card (x ∷ line)) ∙ sym (append-nil (answer_line (bench_line card (x ∷ line)).answer))

-- the two ways of a byte
module _ (card kept : List ℕ) (b : ℕ) where
  on-newline : eqb b 10 ≡ true → (heard card kept b ≡ answer_line (bench_line card kept).answer) × (byte_on card kept b ≡ fed_to (bench_line card kept).card [])
  unfolding heard byte_on
  on-newline t = (rw t, rw t)

  on-other : eqb b 10 ≡ false → (heard card kept b ≡ []) × (byte_on card kept b ≡ fed_to card (keep kept b))
  unfolding heard byte_on
  on-other t = (rw t, rw t)

onward-line : (line l : List ℕ) (ls : List (List ℕ)) → onward line (l ∷ ls) ≡ (line ++ l) ∷ ls
unfolding onward
onward-line [] l ls = refl
onward-line (x ∷ line) l ls = refl

told-newline : (card line bs : List ℕ) (b : ℕ) → eqb b 10 ≡ true
    → told (bench_line card line).card [] bs ≡ bench_from (bench_line card line).card (onward [] (lines bs))
    → told card (take 128 line) (b ∷ bs) ≡ bench_from card (onward line (lines (b ∷ bs)))
unfolding told lines bench_from
told-newline card line bs b t rest =
    let way = on-newline card (take 128 line) b t in
    rw (way.0, way.1, t, kept_line card line, onward-line line [] (lines bs), append-nil line)
    (ap (λ (k : List ℕ). answer_line (bench_line card line).answer ++ k) (rest ∙ ap (bench_from (bench_line card line).card) (onward-none (lines bs))))

told-other : (card line bs : List ℕ) (b : ℕ) → eqb b 10 ≡ false
    → told card (take 128 (line ++ (b ∷ []))) bs ≡ bench_from card (onward (line ++ (b ∷ [])) (lines bs))
    → told card (take 128 line) (b ∷ bs) ≡ bench_from card (onward line (lines (b ∷ bs)))
unfolding told lines
told-other card line bs b t rest =
    let way = on-other card (take 128 line) b t in
    rw (way.0, way.1, t, kept_byte line b, onward-byte line b (lines bs)) rest

told-from : (card line bs : List ℕ) → told card (take 128 line) bs ≡ bench_from card (onward line (lines bs))
unfolding told lines
told-from card line [] = last-told card line
told-from card line (b ∷ bs) =
    let on = told-from (bench_line card line).card [] bs in
    let more = told-from card (line ++ (b ∷ [])) bs in
    ⊎_elim
    (λ (t : eqb b 10 ≡ true). told-newline card line bs b t on)
    (λ (t : eqb b 10 ≡ false). told-other card line bs b t more)
    (bool_cases (eqb b 10))

pub told-bench : ToldIsTheBench
unfolding bench
told-bench input = told-from [] [] input ∙ ap (bench_from []) (onward-none (lines input))
