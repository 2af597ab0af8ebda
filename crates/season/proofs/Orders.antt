-- The order of a season card's refusals.
use mathlib.Core.Path.{◌≡◌, sym, ◌∙◌}
use mathlib.Core.Bool.{true, false}
use Rattle.std.specs.Prelude.{None, Some, Ok, Err}
use mathlib.Core.List.{List}
use Prim.Native.Nat.{ℕ, ◌+◌, ◌-◌, ◌≤◌, ◌<◌}
use borrow.Author.Tests.{eq-eqb, ne_eqb, lt-ltb, le-ltb}
use lib.Dec.{eqb}
use lib.ListN.{length}
use Rattle.rules.specs.declared.Head.{Head}
use Rattle.rules.specs.Plain.{◌&◌, zeros}
use Rattle.rules.specs.Sector.{put, encode, root_entry}
use Rattle.rules.specs.Layout.{limits, size_of, head_of, beginning}
use Rattle.rules.specs.Write.{refuse, accept, refuse_if}
use Rattle.rules.specs.Records.{Roll, rolled}
use Rattle.scroll.specs.declared.roll.Cut.{Cut}
use Rattle.scroll.specs.Records.{tally_of, tally_met}
use Rattle.scroll.proofs.Rolls.{tally-all, tally-none, counted-all, counted-none}
use Rattle.rules.specs.Season.{standing_at, quota, built, rooted_on, season_on, season_to, season_for}
use Rattle.season.specs.Storeys.{fresh}
use Rattle.season.proofs.Built.{built-fresh}

-- what was counted
module _ (card : List ℕ) (t : ℕ) where
  pub counted-standing : (n : ℕ) → tally_met (Ok n) ≡ tally_of (rolled card t 4294967296 0) → ((standing_at card t).code ≡ 0) × (n ≡ length (standing_at card t).records)
  unfolding standing_at
  counted-standing n is = counted-all (rolled card t 4294967296 0) n (tally-all _ n is)

  pub counted-damaged : (cut : Cut) → tally_met (Err cut) ≡ tally_of (rolled card t 4294967296 0) → (standing_at card t).code ≡ 0 → ⊥
  unfolding standing_at
  counted-damaged cut is = counted-none (rolled card t 4294967296 0) cut.refusal (tally-none _ cut is)

module _ (h : Head) (s : ℕ) (target : List ℕ) (r : Roll) where
  pub no_room : (limits h & eqb (length target) (size_of h)) ≡ false → season_to h s target r ≡ refuse 8
  unfolding season_to refuse_if
  no_room q = rw q

  module _ (q : (limits h & eqb (length target) (size_of h)) ≡ true) where
    pub not-blank : zeros target ≡ false → season_to h s target r ≡ refuse 9
    unfolding season_to refuse_if
    not-blank z = rw (q, z)

    module _ (z : zeros target ≡ true) where
      pub damaged : (r.code ≡ 0 → ⊥) → season_to h s target r ≡ refuse 4
      unfolding season_to season_on refuse_if
      damaged d = rw (q, z, ne_eqb r.code 0 d)

      -- the count alone decides whether the card has buckets enough
      module _ (c : r.code ≡ 0) (one : 1 ≤ quota h) (next : ℕ) (is : next ≡ fresh (quota h) (length r.records + 1)) where
        last-is : (built h s r.records target).fresh ≡ next
        last-is = built-fresh h s r.records target one ∙ sym is

        pub too_few : h.n + 1 < next → season_to h s target r ≡ refuse 6
        unfolding season_to season_on rooted_on refuse_if
        too_few lt = rw (q, z, eq-eqb r.code 0 c, last-is, lt-ltb (h.n + 1) next lt)

        pub begun : next ≤ h.n + 1 → season_to h s target r ≡ accept (put (built h s r.records target).card 1 (encode (root_entry s (next - 1))))
        unfolding season_to season_on rooted_on refuse_if
        begun le = rw (q, z, eq-eqb r.code 0 c, last-is, le-ltb (h.n + 1) next le)

module _ (card : List ℕ) (t : ℕ) (target : List ℕ) (to : Head) where
  pub no-head : head_of card ≡ None → season_for card t target to (head_of card) ≡ refuse 1
  unfolding season_for
  no-head q = rw q

  module _ (h : Head) (q : head_of card ≡ Some h) where
    pub too-early : t < beginning card → season_for card t target to (head_of card) ≡ refuse 13
    unfolding season_for refuse_if
    too-early lt = rw (q, lt-ltb t (beginning card) lt)

    pub in-time : beginning card ≤ t → season_for card t target to (head_of card) ≡ season_to to t target (standing_at card t)
    unfolding season_for refuse_if
    in-time le = rw (q, le-ltb t (beginning card) le)
