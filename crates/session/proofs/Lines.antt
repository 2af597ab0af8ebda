-- What a line does to the bench's card, by what the parser said of it.
use mathlib.Core.Path.{◌≡◌, refl}
use mathlib.Core.List.{List, [], ◌∷◌}
use Prim.Native.Nat.{ℕ, ◌<◌}
use native.Mathlib.Omega.{arith}
use lib.ListN.{length}
use Rattle.rules.specs.Calls.{Call, called}
use Rattle.rules.specs.Bench.{bench_call}
use Rattle.line.specs.declared.Request.{Request}
use Rattle.line.specs.declared.Request.TheVariants.{Format, Post, Strike, Look, Next}
use Rattle.line.specs.Requests.{call_of}

-- a call on a card that is there
pub card-there : (card : List ℕ) (k : Call) → 0 < length card → called card k ≡ bench_call card k
unfolding bench_call
card-there [] k h = absurd (omega arith)
card-there (x ∷ card) k h = refl

-- a request that is no format, whether the card is there or not
pub no-format : (card : List ℕ) (q : Request) → ((buckets sectors td ti : ℕ) → q ≡ Format buckets sectors td ti → ⊥) → called card (call_of q) ≡ bench_call card (call_of q)
unfolding bench_call
no-format [] (Format buckets sectors td ti) h = absurd (h buckets sectors td ti refl)
no-format [] (Post bib at status time) h = refl
no-format [] (Strike bib at) h = refl
no-format [] (Look bib at) h = refl
no-format [] (Next bib at) h = refl
no-format (x ∷ card) q h = refl
