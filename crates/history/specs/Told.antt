-- The entries counted beside the sectors lent, and laid down in a row.
use Rattle.std.specs.Prelude.{ℕ, ◌+◌, ◌*◌, ◌≤◌, List, [], leb, ltb, length}
use Rattle.std.specs.Prelude.{Option, None, Some, Result, Ok, Err}
use Rattle.rules.specs.declared.Entry.{Entry}
use Rattle.rules.specs.declared.refusal.Refusal.{Refusal}
use Rattle.rules.specs.declared.refusal.Refusal.TheVariants.{Damage, NoRoom}
use Rattle.rules.specs.Plain.{if}
use Rattle.writer.specs.Rows.{puts}
use Rattle.gather.specs.Pages.{onward}

-- where the page after this one begins: a short one is the last
unfoldable pub after : List Entry → Option ℕ
after l = if (ltb (length l) 34) None (Some (onward l))

-- what is said from there on
unfoldable pub rest_from : (ℕ → Option (List Entry)) → Option ℕ → Option (List Entry)
rest_from s None = Some []
rest_from s (Some f) = s f

-- whether the entries, with k before them, have room in so many sectors, and how many they are
unfoldable pub fit_after : ℕ → ℕ → Option (List Entry) → Result ℕ Refusal
fit_after places k None = Err Damage
fit_after places k (Some es) = if (leb (k + length es) places) (Ok (k + length es)) (Err NoRoom)

-- the entries are there, and have room from sector k on in so many bytes
abbrev pub HasRoom : ℕ → ℕ → Option (List Entry) → Type 0
HasRoom size k None = ⊥
HasRoom size k (Some es) = 16 * (k + length es) ≤ size

-- the entries in a row from sector k of the buffer on
unfoldable pub row_of : List ℕ → ℕ → Option (List Entry) → List ℕ
row_of buffer k None = buffer
row_of buffer k (Some es) = puts buffer k es
