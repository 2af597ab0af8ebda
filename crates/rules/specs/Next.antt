-- Next: the smallest standing bib above a given one, as of a stamp.
use Rattle.std.specs.Prelude.{ℕ, zero, suc, List, [], ◌∷◌, ◌++◌, ltb}
use Rattle.std.specs.Prelude.{Option, None, Some}
use Rattle.rules.specs.declared.Entry.{Entry}
use Rattle.rules.specs.declared.Head.{Head}
use Rattle.rules.specs.declared.Answer.{Answer}
use Rattle.rules.specs.Plain.{if, ◌&◌, is_none, keep_if, only, smallest}
use Rattle.rules.specs.Sector.{is_index, is_post}
use Rattle.rules.specs.Layout.{head_of, beginning}
use Rattle.rules.specs.Walk.{Visit, left, copy_of, walk, data_of}
use Rattle.rules.specs.Answers.{answer, refused, ended}

-- each entry that is its key's last copy
unfoldable pub lasts : List Entry → List Entry
lasts [] = []
lasts (e ∷ es) = keep_if (is_none (copy_of e.key es)) e (lasts es)

-- "Among bibs above k in the data bucket whose last copy is a post, answer the smallest"
unfoldable pub standing_above : ℕ → List Entry → Option Entry
standing_above k es = smallest (only (λ e. is_post e & ltb k e.key) (lasts es))

-- the index entries met on the path
unfoldable pub index_on : List Visit → List Entry
index_on [] = []
index_on (v ∷ p) = only is_index v.entries ++ index_on p

-- "the smallest index key above X met on the path, among entries stamped t or earlier"
unfoldable pub key_above : ℕ → ℕ → List Visit → Option Entry
key_above t x p = smallest (only (λ e. ltb x e.key) (left t (index_on p)))

-- what a walk to X gives: an answer, or another key to walk to
pub data Hop : Type 0 where
  final : Answer → Hop
  again : ℕ → Hop

-- "set X to [it] and walk again. No such key: the end"
unfoldable pub hop_to : Option Entry → Hop
hop_to None = final ended
hop_to (Some e) = again e.key

unfoldable pub hop_or : Option Entry → Hop → Hop
hop_or None h = h
hop_or (Some e) h = final (answer 0 e.key e.stamp e.status e.value 0)

unfoldable pub hop : ℕ → ℕ → ℕ → Option (List Visit) → Hop
hop k t x None = final (refused 4)
hop k t x (Some p) = hop_or (standing_above k (left t (data_of p))) (hop_to (key_above t x p))

unfoldable pub hopping : Hop → (ℕ → Answer) → Answer
hopping (final a) on = a
hopping (again x) on = on x

-- "walk to X, at first k": the keys walked to rise and have 32 bits, so that 4294967296 walks are enough
unfoldable pub next_from : (ℕ → Option (List Visit)) → ℕ → ℕ → ℕ → ℕ → Answer
next_from wk k t zero x = ended
next_from wk k t (suc f) x = hopping (hop k t x (wk x)) (next_from wk k t f)

-- 1, then 13 before the beginning, then 4
unfoldable pub next_in : ℕ → ℕ → List ℕ → Option Head → Answer
next_in k t card None = refused 1
next_in k t card (Some h) = if (ltb t (beginning card)) (refused 13) (next_from (walk h card t) k t 4294967296 k)

unfoldable pub next : List ℕ → ℕ → ℕ → Answer
next card k t = next_in k t card (head_of card)
