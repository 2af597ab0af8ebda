-- The operator's scroll: what it holds after each record.
use Rattle.std.specs.Prelude.{ℕ, eqb}
use Rattle.rules.specs.declared.Answer.{Answer}
use Rattle.rules.specs.Next.{next}
use Rattle.rules.specs.Plain.{if}
use Rattle.scroll.specs.declared.Scroll.{Scroll}

-- "the bib last given": an end or a refusal gives none, and the one before it stays
unfoldable pub last_after : ℕ → ℕ → ℕ
last_after last bib = if (eqb bib 0) last bib

-- "between two it holds the card it reads and the bib last given"
abbrev pub after : Scroll → Answer → Scroll
after s a = record { card = s.card; at = s.at; last = last_after s.last a.bib }

-- what a step answers
abbrev pub step_of : Scroll → Answer
step_of s = next s.card.now s.last s.at
