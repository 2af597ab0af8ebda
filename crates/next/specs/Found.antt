-- What next finds: the entry that is next, none, or a refusal.
use Rattle.std.specs.Prelude.{◌≡◌, ℕ, ◌<◌, true, Option, None, Some, Result, Ok, Err}
use Rattle.rules.specs.declared.Entry.{Entry}
use Rattle.rules.specs.declared.Answer.{Answer}
use Rattle.rules.specs.declared.refusal.Refusal.{Refusal}
use Rattle.rules.specs.Sector.{is_post}
use Rattle.rules.specs.Refusals.{number}
use Rattle.rules.specs.Answers.{answer, refused, ended}

-- the answer that says so
unfoldable pub told : Result (Option Entry) Refusal → Answer
told (Ok None) = ended
told (Ok (Some e)) = answer 0 e.key e.stamp e.status e.value 0
told (Err r) = refused (number r)

-- an entry that is found is a post above bib k
abbrev pub Above : ℕ → Result (Option Entry) Refusal → Type 0
Above k (Ok None) = Unit {0}
Above k (Ok (Some e)) = (k < e.key) × (is_post e ≡ true)
Above k (Err r) = Unit {0}
