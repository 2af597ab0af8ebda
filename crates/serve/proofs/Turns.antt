-- What one byte does to the line that is kept and to what is left of a read, and what is said.
use mathlib.Core.Path.{◌≡◌, refl, sym, ap, ◌∙◌}
use mathlib.Core.List.{List, [], ◌∷◌, ◌++◌}
use Prim.Native.Nat.{ℕ, ◌+◌, ◌<◌}
use native.Mathlib.Omega.{arith}
use native.Mathlib.Numerals.{add-one}
use lib.ListN.{length, drop, get_or, length-append}
use lib.Seq.{take_all, take-append-le, drop-cons}
use Rattle.std.specs.Prelude.{Ok, Err, IsOk, OnOk, OnErr, ◌↔◌}
use Rattle.std.specs.declared.result.Result.{Result}
use Rattle.arrayvec.specs.ArrayVec.{ArrayVec}
use Rattle.rules.specs.Bench.{answer_line, bench_line}
use Rattle.serve.specs.Feeds.{Fed, keep, byte_on, fed, last_heard}

-- a byte pushed where there is room, and dropped where there is none
pub kept_byte : {T E : Type 0} (r : Result T E) (old new : ArrayVec ℕ) (b : ℕ) → (IsOk r ↔ (length old.items < 128))
    → OnOk r (new.items ≡ old.items ++ (b ∷ [])) → OnErr r (new ≡ old) → OnErr r (length old.items ≡ 128) → new.items ≡ keep old.items b
unfolding keep
kept_byte (Ok x) old new b room pushed same full =
    let near : length old.items < 128 = room.0 refl in
    pushed ∙ sym (take_all 128 (old.items ++ (b ∷ [])) (omega (arith, near, length-append old.items (b ∷ []))))
kept_byte (Err e) old new b room pushed same full =
    ap (λ (v : ArrayVec ℕ). v.items) same ∙ sym (take-append-le 128 old.items (b ∷ []) (omega arith) ∙ take_all 128 old.items (omega arith))

-- a byte more of what was read
pub fed-more : (card kept got : List ℕ) (i : ℕ) (one : Fed) → i < length got → one ≡ byte_on card kept (get_or got i 0)
    → fed card kept (drop i got) ≡ fed one.card one.kept (drop (i + 1) got)
unfolding fed
fed-more card kept got i one h e = rw (drop-cons got i 0 h, add-one i, e)

pub last-said : (card kept : List ℕ) → (length kept ≡ 0 → ⊥) → last_heard card kept ≡ answer_line (bench_line card kept).answer
unfolding last_heard
last-said card [] h = absurd (h refl)
last-said card (x ∷ kept) h = refl

pub nothing-said : (card kept : List ℕ) → length kept ≡ 0 → last_heard card kept ≡ []
unfolding last_heard
nothing-said card [] h = refl
nothing-said card (x ∷ kept) h = absurd (omega arith)
