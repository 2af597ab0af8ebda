-- A list in key order: its two halves, and what is kept of it.
use mathlib.Core.Path.{◌∙◌, ◌≡◌, ap, refl, sym}
use mathlib.Core.Logic.{⊎_elim}
use mathlib.Core.Bool.{Bool, false, not, true}
use Rattle.std.specs.Prelude.{Option, None, Some}
use Prim.Native.Nat.{◌<◌, ◌≤◌, suc, ℕ}
use native.Mathlib.Omega.{arith}
use mathlib.Core.List.{List, [], ◌++◌, ◌∷◌, append-nil}
use lib.ListN.{length}
use lib.Dec.{eqb, leb, ltb}
use borrow.Author.Tests.{eq-eqb, le-leb, le-ltb, lt-leb, lt-ltb, ne_eqb}
use Rattle.rules.specs.declared.Entry.{Entry}
use Rattle.rules.specs.Plain.{◌or◌, if, keep_if, larger, largest, last_of, only}
use Rattle.rules.specs.Rewrite.{insert, kept, last_copies}
use Rattle.rules.specs.Sector.{is_post}
use Rattle.rules.specs.Walk.{copy_of, follow, standing}
use Rattle.laws.proofs.Tools.{eq-or-ne, le-or-lt}
use Rattle.laws.proofs.Lists.{All, all_map, cut, larger-some, only-all, only-append, upper, upper-append}
use Rattle.laws.proofs.Copies.{copy-cons, follow-cons, fstep}

abbrev pub Sorted : List Entry → Type 0
Sorted [] = Unit {0}
Sorted (e ∷ es) = All (λ d. e.key < d.key) es × Sorted es

insert_all : (P : Entry → Type 0) (e : Entry) (ds : List Entry) → P e → All P ds → All P (insert e ds)
unfolding insert
insert_all P e [] p a = (p, tt)
insert_all P e (d ∷ ds) p a =
    ⊎_elim
    (λ de. ⊎_elim
    (λ q. rw (le-ltb e.key d.key de, eq-eqb e.key d.key q) a)
    (λ n. rw (le-ltb e.key d.key de, ne_eqb e.key d.key n) (a.0, insert_all P e ds p a.1))
    (eq-or-ne e.key d.key))
    (λ ed. rw (lt-ltb e.key d.key ed) (p, a))
    (le-or-lt d.key e.key)

insert-sorted : (e : Entry) (ds : List Entry) → Sorted ds → Sorted (insert e ds)
unfolding insert
insert-sorted e [] s = (tt, tt)
insert-sorted e (d ∷ ds) s =
    ⊎_elim
    (λ de. ⊎_elim
    (λ q. rw (le-ltb e.key d.key de, eq-eqb e.key d.key q) s)
    (λ n. rw (le-ltb e.key d.key de, ne_eqb e.key d.key n)
    (insert_all (λ c. d.key < c.key) e ds (omega arith) s.0, insert-sorted e ds s.1))
    (eq-or-ne e.key d.key))
    (λ ed. rw (lt-ltb e.key d.key ed)
    ((ed, all_map (λ c. d.key < c.key) (λ c. e.key < c.key) (λ c k. omega arith) ds s.0), s))
    (le-or-lt d.key e.key)

pub copies-sorted : (es : List Entry) → Sorted (last_copies es)
unfolding last_copies
copies-sorted [] = tt
copies-sorted (e ∷ es) = insert-sorted e (last_copies es) (copies-sorted es)

pub copies-all : (P : Entry → Type 0) (es : List Entry) → All P es → All P (last_copies es)
unfolding last_copies
copies-all P [] a = tt
copies-all P (e ∷ es) a = insert_all P e (last_copies es) a.0 (copies-all P es a.1)

only-sorted : (q : Entry → Bool) (es : List Entry) → Sorted es → Sorted (only q es)
unfolding only
only-sorted q [] s = tt
only-sorted q (e ∷ es) s =
    elim (q e) as (λ b. Sorted (keep_if b e (only q es)))
    [ true ↦ (only-all (λ d. e.key < d.key) q es s.0, only-sorted q es s.1) | false ↦ only-sorted q es s.1 ]

-- keys that are not looked for
pub only_none : (q : Entry → Bool) (es : List Entry) → All (λ e. q e ≡ false) es → only q es ≡ []
unfolding only
only_none q [] a = refl
only_none q (e ∷ es) a = rw a.0 (only_none q es a.1)

pub only-every : (q : Entry → Bool) (es : List Entry) → All (λ e. q e ≡ true) es → only q es ≡ es
unfolding only
only-every q [] a = refl
only-every q (e ∷ es) a = rw a.0 (ap {B = List Entry} (λ r. e ∷ r) (only-every q es a.1))

copy-none : (x : ℕ) (es : List Entry) → All (λ e. e.key ≡ x → ⊥) es → copy_of x es ≡ None
unfolding copy_of last_of
copy-none x es a = rw (only_none (λ e. eqb e.key x) es (all_map (λ e. e.key ≡ x → ⊥) (λ e. eqb e.key x ≡ false) (λ e n. ne_eqb e.key x n) es a))

-- below the second half's keys the first half speaks
pub copy-low : (x : ℕ) (ls bs : List Entry) → All (λ e. e.key ≡ x → ⊥) bs → copy_of x (ls ++ bs) ≡ copy_of x ls
unfolding copy_of
copy-low x ls bs a =
    rw (only-append (λ e. eqb e.key x) ls bs, only_none (λ e. eqb e.key x) bs (all_map (λ e. e.key ≡ x → ⊥) (λ e. eqb e.key x ≡ false) (λ e n. ne_eqb e.key x n) bs a))
    (ap last_of (append-nil (only (λ e. eqb e.key x) ls)))

pub copy-high : (x : ℕ) (ls bs : List Entry) → All (λ e. e.key ≡ x → ⊥) ls → copy_of x (ls ++ bs) ≡ copy_of x bs
unfolding copy_of
copy-high x ls bs a =
    rw (only-append (λ e. eqb e.key x) ls bs, only_none (λ e. eqb e.key x) ls (all_map (λ e. e.key ≡ x → ⊥) (λ e. eqb e.key x ≡ false) (λ e n. ne_eqb e.key x n) ls a))

pub follow-low : (x : ℕ) (ls bs : List Entry) → All (λ e. x < e.key) bs → follow x (ls ++ bs) ≡ follow x ls
unfolding follow
follow-low x ls bs a =
    rw (only-append (λ e. leb e.key x) ls bs, only_none (λ e. leb e.key x) bs (all_map (λ e. x < e.key) (λ e. leb e.key x ≡ false) (λ e n. lt-leb e.key x n) bs a))
    (ap largest (append-nil (only (λ e. leb e.key x) ls)))

pub follow-high : (x : ℕ) (ls bs : List Entry) (d : Entry) → follow x bs ≡ Some d → All (λ e. e.key < d.key) ls → follow x (ls ++ bs) ≡ Some d
unfolding larger
follow-high x [] bs d q a = q
follow-high x (e ∷ ls) bs d q a =
    follow-cons x e (ls ++ bs) ∙ ap (fstep (leb e.key x) e) (follow-high x ls bs d q a.1)
    ∙ elim (leb e.key x) as (λ b. fstep b e (Some d) ≡ Some d) [ true ↦ rw (le-leb e.key d.key (let k = a.0 in omega arith)) | false ↦ refl ]

upper-ge : (x k : ℕ) (es : List Entry) (hi : ℕ) → k ≤ hi → All (λ e. k ≤ e.key) es → k ≤ upper x es hi
unfolding upper
upper-ge x k [] hi le a = le
upper-ge x k (e ∷ es) hi le a =
    let ih = upper-ge x k es hi le a.1 in
    let k0 = a.0 in
    elim (ltb x e.key) as (λ b. k ≤ cut b e.key (upper x es hi)) [ true ↦ omega arith | false ↦ ih ]

pub upper-low : (x : ℕ) (ls : List Entry) (d : Entry) (bs : List Entry) (hi : ℕ) → x < d.key → d.key < hi → All (λ e. d.key < e.key) bs
    → upper x (ls ++ (d ∷ bs)) hi ≡ upper x ls d.key
unfolding upper
upper-low x ls d bs hi lt dh a =
    upper-append x ls (d ∷ bs) hi
    ∙ ap (upper x ls) (rw (lt-ltb x d.key lt)
    (let k = upper-ge x d.key bs hi (omega arith) (all_map (λ e. d.key < e.key) (λ e. d.key ≤ e.key) (λ e z. omega arith) bs a) in omega arith))

upper-below : (x : ℕ) (ls : List Entry) (u : ℕ) → All (λ e. e.key ≤ x) ls → upper x ls u ≡ u
unfolding upper
upper-below x [] u a = refl
upper-below x (e ∷ ls) u a = rw (le-ltb x e.key a.0) (upper-below x ls u a.1)

pub upper-high : (x : ℕ) (ls bs : List Entry) (hi : ℕ) → All (λ e. e.key ≤ x) ls → upper x (ls ++ bs) hi ≡ upper x bs hi
upper-high x ls bs hi a = upper-append x ls bs hi ∙ upper-below x ls (upper x bs hi) a

-- a first entry that is not above x: something is followed
pub follow-some : (x : ℕ) (e : Entry) (es : List Entry) → e.key ≤ x → (d : Entry) × (follow x (e ∷ es) ≡ Some d)
follow-some x e es le = go (follow x (e ∷ es)) refl
  where
    go : (r : Option Entry) → follow x (e ∷ es) ≡ r → (d : Entry) × (follow x (e ∷ es) ≡ Some d)
    go None q = absurd (larger-some e (follow x es) (sym (follow-cons x e es ∙ rw (le-leb e.key x le) refl) ∙ q))
    go (Some d) q = (d, q)

-- of each key one copy is left: to leave out what does not stand changes nothing
pub standing-only : (q : Entry → Bool) (x : ℕ) (es : List Entry) → Sorted es → All (λ e. q e ≡ false → is_post e ≡ false) es
    → standing (copy_of x (only q es)) ≡ standing (copy_of x es)
unfolding only standing
standing-only q x [] s a = refl
standing-only q x (e ∷ es) s a =
    ⊎_elim
    (λ k.
    let later = all_map (λ d. e.key < d.key) (λ d. d.key ≡ x → ⊥) (λ d l z. omega arith) es s.0 in
    let n1 = copy-none x es later in
    let n2 = copy-none x (only q es) (only-all (λ d. d.key ≡ x → ⊥) q es later) in
    let r : copy_of x (e ∷ es) ≡ Some e = copy-cons x e es ∙ rw (eq-eqb e.key x k, n1) in
    let r3 : copy_of x (e ∷ only q es) ≡ Some e = copy-cons x e (only q es) ∙ rw (eq-eqb e.key x k, n2) in
    let go : (b : Bool) → q e ≡ b → standing (copy_of x (keep_if b e (only q es))) ≡ standing (Some e)
    = λ b. elim b as (λ b. q e ≡ b → standing (copy_of x (keep_if b e (only q es))) ≡ standing (Some e)) [
      | true ↦ λ t. ap standing r3
      | false ↦ λ t. ap standing n2 ∙ sym (rw (a.0 t))
    ] in
    go (q e) refl ∙ ap standing (sym r))
    (λ n.
    let r : copy_of x (e ∷ es) ≡ copy_of x es = copy-cons x e es ∙ rw (ne_eqb e.key x n) in
    let r2 : copy_of x (e ∷ only q es) ≡ copy_of x (only q es) = copy-cons x e (only q es) ∙ rw (ne_eqb e.key x n) in
    let go : (b : Bool) → standing (copy_of x (keep_if b e (only q es))) ≡ standing (copy_of x es)
    = λ b. elim b as (λ b. standing (copy_of x (keep_if b e (only q es))) ≡ standing (copy_of x es)) [
      | true ↦ ap standing r2 ∙ standing-only q x es s.1 a.1
      | false ↦ standing-only q x es s.1 a.1
    ] in
    go (q e) ∙ ap standing (sym r))
    (eq-or-ne e.key x)

-- lengths
only-length : (q : Entry → Bool) (es : List Entry) → length (only q es) ≤ length es
unfolding only
only-length q [] = omega arith
only-length q (e ∷ es) =
    let ih = only-length q es in
    elim (q e) as (λ b. length (keep_if b e (only q es)) ≤ suc (length es)) [ true ↦ omega arith | false ↦ omega arith ]

insert-length : (e : Entry) (ds : List Entry) → length (insert e ds) ≤ suc (length ds)
unfolding insert
insert-length e [] = omega arith
insert-length e (d ∷ ds) =
    let ih = insert-length e ds in
    elim (ltb e.key d.key) as (λ b. length (if b (e ∷ d ∷ ds) (if (eqb e.key d.key) (d ∷ ds) (d ∷ insert e ds))) ≤ suc (suc (length ds))) [
      | true ↦ omega arith
      | false ↦ elim (eqb e.key d.key) as (λ b. length (if b (d ∷ ds) (d ∷ insert e ds)) ≤ suc (suc (length ds))) [ true ↦ omega arith | false ↦ omega arith ]
    ]

copies_length : (es : List Entry) → length (last_copies es) ≤ length es
unfolding last_copies
copies_length [] = omega arith
copies_length (e ∷ es) = let a = insert-length e (last_copies es) in let b = copies_length es in omega arith

pub kept-length : (hk s : ℕ) (es : List Entry) → length (kept hk s es) ≤ length es
unfolding kept
kept-length hk s es = let a = only-length (λ e. not (eqb e.kind 2) or eqb e.key hk or eqb e.stamp s) (last_copies es) in let b = copies_length es in omega arith

pub kept-all : (P : Entry → Type 0) (hk s : ℕ) (es : List Entry) → All P es → All P (kept hk s es)
unfolding kept
kept-all P hk s es a = only-all P (λ e. not (eqb e.kind 2) or eqb e.key hk or eqb e.stamp s) (last_copies es) (copies-all P es a)

pub kept-sorted : (hk s : ℕ) (es : List Entry) → Sorted (kept hk s es)
unfolding kept
kept-sorted hk s es = only-sorted (λ e. not (eqb e.kind 2) or eqb e.key hk or eqb e.stamp s) (last_copies es) (copies-sorted es)

-- a list in key order, taken apart before d
all-at : (P : Entry → Type 0) (ls : List Entry) (d : Entry) (bs : List Entry) → All P (ls ++ (d ∷ bs)) → P d
all-at P [] d bs a = a.0
all-at P (e ∷ ls) d bs a = all-at P ls d bs a.1

pub sorted-low : (ls : List Entry) (d : Entry) (bs : List Entry) → Sorted (ls ++ (d ∷ bs)) → All (λ e. e.key < d.key) ls
sorted-low [] d bs s = tt
sorted-low (e ∷ ls) d bs s = (all-at (λ c. e.key < c.key) ls d bs s.0, sorted-low ls d bs s.1)

pub sorted-high : (ls : List Entry) (d : Entry) (bs : List Entry) → Sorted (ls ++ (d ∷ bs)) → All (λ e. d.key < e.key) bs
sorted-high [] d bs s = s.0
sorted-high (e ∷ ls) d bs s = sorted-high ls d bs s.1
