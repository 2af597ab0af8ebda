-- Plain tools of the rules: choice, and what is asked of a list.
use Rattle.std.specs.Prelude.{ℕ, zero, suc, Bool, true, false, List, [], ◌∷◌, leb}
use Rattle.std.specs.Prelude.{Option, None, Some}
use Rattle.rules.specs.declared.Entry.{Entry}

infixr 40 ◌&◌
infixr 35 ◌or◌
abbrev pub if {ℓ} : {A : Type ℓ} → Bool → A → A → A
if true a b = a
if false a b = b

abbrev pub ◌&◌ : Bool → Bool → Bool
◌&◌ true b = b
◌&◌ false b = false

abbrev pub ◌or◌ : Bool → Bool → Bool
◌or◌ true b = true
◌or◌ false b = b

abbrev pub and_then : {A B : Type 0} → Option A → (A → Option B) → Option B
and_then None f = None
and_then (Some a) f = f a

unfoldable pub is_none : Option Entry → Bool
is_none None = true
is_none (Some e) = false

-- lo, x and hi in this order, each not above the next
unfoldable pub within : ℕ → ℕ → ℕ → Bool
within lo x hi = leb lo x & leb x hi

-- every byte is zero
unfoldable pub zeros : List ℕ → Bool
zeros [] = true
zeros (zero ∷ xs) = zeros xs
zeros (suc x ∷ xs) = false

-- every entry passes the test
unfoldable pub every : (Entry → Bool) → List Entry → Bool
every p [] = true
every p (e ∷ es) = p e & every p es

abbrev pub keep_if : Bool → Entry → List Entry → List Entry
keep_if true e es = e ∷ es
keep_if false e es = es

-- the entries that pass the test, in their order
unfoldable pub only : (Entry → Bool) → List Entry → List Entry
only p [] = []
only p (e ∷ es) = keep_if (p e) e (only p es)

unfoldable pub last_of : List Entry → Option Entry
last_of [] = None
last_of (e ∷ []) = Some e
last_of (e ∷ d ∷ es) = last_of (d ∷ es)

-- of e and the best of what follows it: the larger key, and of one key the later copy
unfoldable pub larger : Entry → Option Entry → Option Entry
larger e None = Some e
larger e (Some d) = if (leb e.key d.key) (Some d) (Some e)

unfoldable pub largest : List Entry → Option Entry
largest [] = None
largest (e ∷ es) = larger e (largest es)

-- the same for the smaller key
unfoldable pub smaller : Entry → Option Entry → Option Entry
smaller e None = Some e
smaller e (Some d) = if (leb d.key e.key) (Some d) (Some e)

unfoldable pub smallest : List Entry → Option Entry
smallest [] = None
smallest (e ∷ es) = smaller e (smallest es)
