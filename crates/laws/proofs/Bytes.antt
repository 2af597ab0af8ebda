-- A card's elements are bytes; then every entry read from it can be written and read back.
use mathlib.Core.Path.{◌∙◌, ◌≡◌, ap, refl, subst, sym}
use mathlib.Core.Logic.{⊎_elim}
use mathlib.Core.Bool.{Bool, false, true}
use Rattle.std.specs.Prelude.{None, Some}
use Prim.Native.Nat.{◌*◌, ◌+◌, ◌<◌, suc, zero, ℕ}
use native.Mathlib.Omega.{arith}
use mathlib.Core.List.{List, [], ◌++◌, ◌∷◌}
use lib.ListN.{drop, get_or, take}
use Rattle.rules.specs.declared.Entry.{Entry}
use Rattle.rules.specs.declared.Sector.TheVariants.{Blank, Damaged, Held}
use Rattle.rules.specs.Bucket.{run}
use Rattle.rules.specs.Plain.{◌&◌, if, zeros}
use Rattle.rules.specs.Rewrite.{fill}
use Rattle.rules.specs.Sector.{decode, encode, fields, le4, legal, put, sector_at, word}
use Rattle.laws.proofs.Tools.{and-true, none-some}
use Rattle.laws.proofs.Codec.{Fits}
use Rattle.laws.proofs.Run.{onto-inv}
use Rattle.laws.proofs.Lists.{All, all_map}
use Rattle.laws.proofs.Entries.{Fine, Good}
use Rattle.laws.proofs.Zeros.{zeros-get}

abbrev pub Bytes : List ℕ → Type 0
Bytes [] = Unit {0}
Bytes (x ∷ xs) = (x < 256) × Bytes xs

-- as each of them tells
pub get-bytes : (xs : List ℕ) → ((i : ℕ) → get_or xs i 0 < 256) → Bytes xs
get-bytes [] f = tt
get-bytes (x ∷ xs) f = (f 0, get-bytes xs (λ i. f (suc i)))

bytes-get : (xs : List ℕ) (i : ℕ) → Bytes xs → get_or xs i 0 < 256
bytes-get [] i b = omega arith
bytes-get (x ∷ xs) zero b = b.0
bytes-get (x ∷ xs) (suc i) b = bytes-get xs i b.1

pub bytes-append : (xs ys : List ℕ) → Bytes xs → Bytes ys → Bytes (xs ++ ys)
bytes-append [] ys a b = b
bytes-append (x ∷ xs) ys a b = (a.0, bytes-append xs ys a.1 b)

bytes_take : (n : ℕ) (xs : List ℕ) → Bytes xs → Bytes (take n xs)
bytes_take zero xs b = tt
bytes_take (suc n) [] b = tt
bytes_take (suc n) (x ∷ xs) b = (b.0, bytes_take n xs b.1)

bytes_drop : (n : ℕ) (xs : List ℕ) → Bytes xs → Bytes (drop n xs)
bytes_drop zero xs b = b
bytes_drop (suc n) [] b = tt
bytes_drop (suc n) (x ∷ xs) b = bytes_drop n xs b.1

pub bytes-le4 : (x : ℕ) → x < 4294967296 → Bytes (le4 x)
unfolding le4
bytes-le4 x h = (omega arith, (omega arith, (omega arith, (omega arith, tt))))

pub bytes-encode : (e : Entry) → Fits e → Bytes (encode e)
unfolding encode
bytes-encode e f = (
  f.kind,
  (
    f.status,
    (
      omega arith,
      (
        omega arith,
        bytes-append (le4 e.key) (le4 e.stamp ++ le4 e.value) (bytes-le4 e.key f.key)
            (bytes-append (le4 e.stamp) (le4 e.value) (bytes-le4 e.stamp f.stamp) (bytes-le4 e.value f.value)),
      ),
    ),
  ),
)

pub bytes-put : (card : List ℕ) (i : ℕ) (bs : List ℕ) → Bytes card → Bytes bs → Bytes (put card i bs)
unfolding put
bytes-put card i bs a b = bytes-append (take (16 * i) card) (bs ++ drop (16 * i + 16) card) (bytes_take (16 * i) card a)
    (bytes-append bs (drop (16 * i + 16) card) b (bytes_drop (16 * i + 16) card a))

pub fits-fill : (card : List ℕ) (is : List ℕ) (new : List Entry) → Bytes card → All Fits new → Bytes (fill card is new)
unfolding fill
fits-fill card is [] a g = a
fits-fill card [] (e ∷ new) a g = a
fits-fill card (i ∷ is) (e ∷ new) a g = fits-fill (put card i (encode e)) is new (bytes-put card i (encode e) a (bytes-encode e g.0)) g.1

pub bytes-fill : (n : ℕ) (card : List ℕ) (is : List ℕ) (new : List Entry) → Bytes card → Good n new → Bytes (fill card is new)
bytes-fill n card is new a g = fits-fill card is new a (all_map (Fine n) Fits (λ d f. f.0) new g)

pub bytes-sector : (card : List ℕ) (i : ℕ) → Bytes card → Bytes (sector_at card i)
unfolding sector_at
bytes-sector card i b = bytes_take 16 (drop (16 * i) card) (bytes_drop (16 * i) card b)

pub fields_fit : (s : List ℕ) → Bytes s → Fits (fields s)
unfolding fields word
fields_fit s b =
    record {
      kind = bytes-get s 0 b;
      status = bytes-get s 1 b;
      key = omega (arith, bytes-get s 4 b, bytes-get s 5 b, bytes-get s 6 b, bytes-get s 7 b);
      stamp = omega (arith, bytes-get s 8 b, bytes-get s 9 b, bytes-get s 10 b, bytes-get s 11 b);
      value = omega (arith, bytes-get s 12 b, bytes-get s 13 b, bytes-get s 14 b, bytes-get s 15 b);
    }

-- what a sector that holds an entry is
pub held-inv : (n : ℕ) (s : List ℕ) (e : Entry) → decode n s ≡ Held e → (fields s ≡ e) × (legal n e ≡ true)
unfolding decode
held-inv n s e q = go (zeros s) q
  where
    go2 : (b : Bool) → zeros (take 2 (drop 2 s)) & legal n (fields s) ≡ b → if b (Held (fields s)) Damaged ≡ Held e
        → (fields s ≡ e) × (legal n e ≡ true)
    go2 true t z =
        let fe : fields s ≡ e = cc in
        (fe, ap (legal n) (sym fe) ∙ (and-true (zeros (take 2 (drop 2 s))) (legal n (fields s)) t).1)
    go2 false t z = (cc, cc)

    go : (b : Bool) → if b Blank (if (zeros (take 2 (drop 2 s)) & legal n (fields s)) (Held (fields s)) Damaged) ≡ Held e
        → (fields s ≡ e) × (legal n e ≡ true)
    go true z = (cc, cc)
    go false z = go2 (zeros (take 2 (drop 2 s)) & legal n (fields s)) refl z

pub run-good : (n : ℕ) (card : List ℕ) → Bytes card → (i c : ℕ) (es : List Entry) → run n card i c ≡ Some es → Good n es
unfolding run sector_at
run-good n card b i zero [] q = tt
run-good n card b i zero (e ∷ es) q = absurd (none-some (let z : None ≡ Some e = cc in z))
run-good n card b i (suc c) es q =
    ⊎_elim
    (λ (v : (decode n (sector_at card i) ≡ Blank) × (es ≡ []) × (run n card (suc i) c ≡ Some [])). subst (Good n) (sym v.1) tt)
    (λ (v : (x : Entry) × (xs : List Entry) × (decode n (sector_at card i) ≡ Held x) × (es ≡ x ∷ xs) × (run n card (suc i) c ≡ Some xs)).
    let hi = held-inv n (sector_at card i) v.0 v.2 in
    subst (Good n) (sym v.3) (
      (subst Fits hi.0 (fields_fit (sector_at card i) (bytes-sector card i b)), hi.1),
      run-good n card b (suc i) c v.1 v.4,
    ))
    (onto-inv (decode n (sector_at card i)) (run n card (suc i) c) es q)

pub zero-bytes : (xs : List ℕ) → zeros xs ≡ true → Bytes xs
unfolding zeros
zero-bytes [] z = tt
zero-bytes (zero ∷ xs) z = (omega arith, zero-bytes xs z)
zero-bytes (suc x ∷ xs) z = absurd (let a = zeros-get (suc x ∷ xs) 0 z in omega arith)
