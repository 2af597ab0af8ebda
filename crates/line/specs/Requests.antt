-- The parser's answers for the calls of the rules.
use Rattle.std.specs.Prelude.{◌≡◌, ℕ, List, MatchOption, Some, None}
use Rattle.std.specs.Prelude.{Option as RustOption}
use Rattle.std.specs.Prelude.{Option, None, Some}
use Rattle.rules.specs.Calls.{Call, format_call, post_call, strike_call, look_call, next_call}
use Rattle.line.specs.declared.Request.{Request}
use Rattle.line.specs.declared.Request.TheVariants.{Format, Post, Strike, Look, Next}

abbrev pub call_of : Request → Call
call_of (Format buckets sectors td ti) = format_call buckets sectors td ti
call_of (Post bib at status time) = post_call bib at status time
call_of (Strike bib at) = strike_call bib at
call_of (Look bib at) = look_call bib at
call_of (Next bib at) = next_call bib at

-- the call that is asked for, if one is
abbrev pub asked : RustOption Request → Option Call
asked None = None
asked (Some q) = Some (call_of q)

-- what was found are these numbers, or there are none
abbrev pub Finds : RustOption (List ℕ) → Option (List ℕ) → Type 0
Finds found xs = MatchOption found (xs ≡ None) (λ ns. xs ≡ Some ns)
