-- What four lent parts leave, and the sixteen bytes of an entry.
use Rattle.std.proofs.Common.{◌≡◌, refl, ap, ℕ, ◌+◌, ◌*◌, ◌/◌, ◌%◌, List, [], ◌∷◌, ◌++◌, length, arith}
use borrow.Rule.Slice.PartMut.{put_mid}
use lib.ListN.{drop_of_length-le}
use lib.Seq.{drop-drop}
use Rattle.rules.specs.declared.Entry.{Entry}
use Rattle.rules.specs.Sector.{le4, encode}
use Rattle.writer.specs.Words.{Narrow, four_words}

-- four words lent and back, one after the other, are the sixteen bytes
pub four-lent : (s first a b d e : List ℕ) (x y z : ℕ) → length s ≡ 16 → length first ≡ 4 → a ≡ first → b ≡ le4 x → d ≡ le4 y → e ≡ le4 z
    → put_mid 12 4 (put_mid 8 4 (put_mid 4 4 (put_mid 0 4 s a) b) d) e ≡ four_words first x y z
unfolding le4 four_words
four-lent s (k ∷ l ∷ m ∷ n ∷ []) a b d e x y z long four p q r t =
    rw (p, q, r, t)
    (ap (λ (rest : List ℕ). k ∷ l ∷ m ∷ n ∷ (le4 x ++ (le4 y ++ (le4 z ++ rest)))) (simp drop-drop (drop_of_length-le s {i = 16} (omega arith))))
four-lent s [] a b d e x y z long four p q r t = absurd (omega arith)
four-lent s (k ∷ []) a b d e x y z long four p q r t = absurd (omega arith)
four-lent s (k ∷ l ∷ []) a b d e x y z long four p q r t = absurd (omega arith)
four-lent s (k ∷ l ∷ m ∷ []) a b d e x y z long four p q r t = absurd (omega arith)
four-lent s (k ∷ l ∷ m ∷ n ∷ o ∷ rest) a b d e x y z long four p q r t = absurd (omega arith)

-- kind and status, two zeros, and the three numbers are an entry's bytes
pub entry-words : (e : Entry) → four_words (e.kind ∷ e.status ∷ 0 ∷ 0 ∷ []) e.key e.stamp e.value ≡ encode e
unfolding four_words encode
entry-words e = refl

-- kind and status as one number, which is their four bytes
pub first-word : (e : Entry) → Narrow e → le4 (e.kind + 256 * e.status) ≡ e.kind ∷ e.status ∷ 0 ∷ 0 ∷ []
unfolding le4
first-word e h =
    let word = e.kind + 256 * e.status in
    let kind : word % 256 ≡ e.kind = omega arith in
    let status : word / 256 % 256 ≡ e.status = omega arith in
    let third : word / 65536 % 256 ≡ 0 = omega arith in
    let fourth : word / 16777216 ≡ 0 = omega arith in
    rw (kind, status, third, fourth) refl
