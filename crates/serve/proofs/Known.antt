-- What is known of the bytes that a reader has left and of those that a writer holds, from one part of the input to the next.
use Rattle.std.specs.Prelude.{◌≡◌, ℕ, ◌<◌, ◌+◌, List, [], ◌∷◌, ◌++◌, length, ⊤, None, Some, IfSome}
use Rattle.std.specs.declared.option.Option.{Option}
use Rattle.std.specs.Io.KnownBytes.{Appends, Consumes, IsAtEnd}
use mathlib.Core.Path.{refl, sym, ap, ◌∙◌}
use mathlib.Core.List.{append_assoc, append-nil}
use native.Mathlib.Numerals.{add-one}
use lib.ListN.{drop, get_or}
use lib.Seq.{drop-cons}
use Rattle.std.proofs.KnownBytes.{Appends-trans}
use Rattle.rules.specs.Bench.{bench}
use Rattle.serve.specs.Feeds.{Fed, fed_to, byte_on, fed, heard, last_heard, said, told}
use Rattle.serve.proofs.Sessions.{told-bench}

-- a writer that is to get `all` has got some of it, and `left` is still to come
abbrev pub Still : Option (List ℕ) → Option (List ℕ) → List ℕ → List ℕ → Type 0
Still before now all left = (got : List ℕ) × Appends before now got × (all ≡ got ++ left)

pub still-on : (before now next : Option (List ℕ)) (all left w more : List ℕ) → Still before now all left → Appends now next w → left ≡ w ++ more
    → Still before next all more
still-on before now next all left w more s a e =
    (s.0 ++ w, Appends-trans before now next s.0 w s.1 a, s.2 ∙ ap (λ (k : List ℕ). s.0 ++ k) e ∙ sym (append_assoc s.0 w more))

pub still-done : (before now : Option (List ℕ)) (all : List ℕ) → Still before now all [] → Appends before now all
still-done before now all s = rw (s.2, append-nil s.0) s.1

-- a byte more of what was read
pub said-more : (card kept got : List ℕ) (i : ℕ) (one : Fed) → i < length got → one ≡ byte_on card kept (get_or got i 0)
    → said card kept (drop i got) ≡ heard card kept (get_or got i 0) ++ said one.card one.kept (drop (i + 1) got)
unfolding said
said-more card kept got i one h e = rw (drop-cons got i 0 h, add-one i, e)

-- and a read more of the input
told-more : (card kept bs rest : List ℕ) → told card kept (bs ++ rest) ≡ said card kept bs ++ told (fed card kept bs).card (fed card kept bs).kept rest
unfolding told said fed
told-more card kept [] rest = refl
told-more card kept (b ∷ bs) rest =
    let one = byte_on card kept b in
    let first = heard card kept b in
    let on = fed one.card one.kept bs in
    ap (λ (k : List ℕ). first ++ k) (told-more one.card one.kept bs rest) ∙ sym (append_assoc first (said one.card one.kept bs) (told on.card on.kept rest))

-- where the reader's bytes are known, what is answered to those that are left is still to come
abbrev pub Along : Option (List ℕ) → Option (List ℕ) → Option (List ℕ) → Option (List ℕ) → List ℕ → List ℕ → Type 0
Along None left before now card kept = ⊤
Along (Some input) None before now card kept = ⊥
Along (Some input) (Some rest) before now card kept = Still before now (told [] [] input) (told card kept rest)

pub along-on : (input left onward before now next : Option (List ℕ)) (card kept bs new line : List ℕ) → Along input left before now card kept → Consumes left onward bs
    → Appends now next (said card kept bs) → fed_to new line ≡ fed card kept bs → Along input onward before next new line
along-on None left onward before now next card kept bs new line s r a e = tt
along-on (Some input) None onward before now next card kept bs new line s r a e = absurd s
along-on (Some input) (Some xs) None before now next card kept bs new line s r a e = absurd r
along-on (Some input) (Some xs) (Some ys) before now next card kept bs new line s r a e =
    let ways = ap (told card kept) r ∙ told-more card kept bs ys ∙ ap (λ (f : Fed). said card kept bs ++ told f.card f.kept ys) (sym e) in
    still-on before now next (told [] [] input) (told card kept xs) (said card kept bs) (told new line ys) s a ways

-- at the input's end the last line is answered
pub along-done : (input left onward before now next : Option (List ℕ)) (card kept : List ℕ) → Along input left before now card kept → Consumes left onward []
    → IsAtEnd onward → Appends now next (last_heard card kept) → IfSome input (λ xs. Appends before next (bench xs))
unfolding told
along-done None left onward before now next card kept s r end a = tt
along-done (Some input) None onward before now next card kept s r end a = absurd s
along-done (Some input) (Some xs) None before now next card kept s r end a = absurd r
along-done (Some input) (Some xs) (Some ys) before now next card kept s r end a =
    let last : told card kept xs ≡ last_heard card kept ++ [] = ap (told card kept) (r ∙ end) ∙ sym (append-nil (last_heard card kept)) in
    let all = still-on before now next (told [] [] input) (told card kept xs) (last_heard card kept) [] s a last in
    rw (← told-bench input) (still-done before next (told [] [] input) all)
