-- One level as the code goes through it: sectors counted and laid down in a row, pairs by number.
use Rattle.std.specs.Prelude.{ℕ, zero, suc, ◌+◌, ◌-◌, ◌*◌, ◌/◌, List, [], ◌∷◌, ltb, eqb, length, get_or, take, drop}
use Rattle.std.specs.Prelude.{Option, None, Some}
use Rattle.rules.specs.declared.Entry.{Entry}
use Rattle.rules.specs.Plain.{if}
use Rattle.rules.specs.Rewrite.{pair}
use Rattle.laws.proofs.Lists.{All}
use Rattle.writer.specs.Words.{Narrow}
use Rattle.level.specs.declared.Sent.{Sent}

abbrev pub if_any : Option Entry → List Entry
if_any None = []
if_any (Some e) = e ∷ []

abbrev pub sent_list : Sent → List Entry
sent_list p = p.low ∷ if_any p.high

-- how many of c sectors from sector i are written, after u that were
abbrev pub used_of : ℕ → List ℕ → ℕ → ℕ → ℕ
used_of u part i zero = u
used_of u part i (suc c) = if (eqb (get_or part (16 * i) 0) 0) u (used_of (u + 1) part (i + 1) c)

-- the pairs of the new buckets that take es, and how many those are
unfoldable pub pairs_of : ℕ → ℕ → ℕ → List Entry → List Entry
pairs_of s td fresh es =
    if (ltb (length es) td) (pair s fresh es ∷ [])
    (pair s fresh (take (length es - length es / 2) es) ∷ pair s (fresh + 1) (drop (length es - length es / 2) es) ∷ [])

abbrev pub need_of : ℕ → List Entry → ℕ
need_of td es = if (ltb (length es) td) 1 2

-- kinds and statuses that one byte holds
abbrev pub AllSmall : List Entry → Type 0
AllSmall es = All Narrow es
