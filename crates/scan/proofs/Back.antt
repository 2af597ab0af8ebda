-- The pass from the last sector down gives what the scan from the first on gives; and its turns, as the code has the numbers.
use mathlib.Core.Path.{◌≡◌, refl, ap, sym, ◌∙◌}
use mathlib.Core.Bool.{Bool, true, false}
use Prim.Native.Nat.{ℕ, zero, suc, ◌+◌, ◌-◌, ◌<◌}
use native.Mathlib.Omega.{arith}
use mathlib.Core.List.{List, [], ◌∷◌, reverse_aux}
use lib.ListN.{take, drop}
use Rattle.std.specs.Prelude.{Option, None, Some, Ok}
use Rattle.rules.specs.declared.Entry.{Entry}
use Rattle.rules.specs.declared.Sector.{Sector}
use Rattle.rules.specs.declared.Sector.TheVariants.{Blank, Held, Damaged}
use Rattle.rules.specs.Plain.{if, ◌&◌, zeros}
use Rattle.rules.specs.Sector.{sector_at, decode, fields, legal}
use Rattle.laws.proofs.Tools.{true-false}
use Rattle.scan.specs.Scan.{Found, damaged, sectors, all_blank, scan_in}
use Rattle.scan.specs.Back.{last_first, written, holds, sound, first_in}

-- the sectors from the i-th on, turned round onto those before it
turned : (n : ℕ) (part : List ℕ) (i c m : ℕ) → i + c ≡ m → reverse_aux (sectors n part i c) (last_first n part i) ≡ last_first n part m
unfolding sectors last_first
turned n part i zero m is = let all : i ≡ m = omega arith in ap (last_first n part) all
turned n part i (suc c) m is = turned n part (suc i) c m (omega arith)

ok-if : (b : Bool) (e : Entry) (best : Option Entry) → let got : Found = Ok (if b (Some e) best) in if b (Ok (Some e)) (Ok best) ≡ got
ok-if true e best = refl
ok-if false e best = refl

module _ (ok want : Entry → Bool) where
  -- an entry met, by what is asked of it
  met-unsound : (e : Entry) (fits wanted rest : Bool) (below : Found) → (fits & rest) ≡ false → (rest ≡ false → below ≡ damaged)
      → if fits (if wanted (if rest (Ok (Some e)) damaged) below) damaged ≡ damaged
  met-unsound e true true true below h on = absurd (true-false h)
  met-unsound e true true false below h on = refl
  met-unsound e true false rest below h on = on h
  met-unsound e false wanted rest below h on = refl

  unsound-first : (ss : List Sector) → sound ok ss ≡ false → first_in ok want ss ≡ damaged
  unfolding holds sound first_in
  unsound-first [] h = absurd (true-false h)
  unsound-first (Blank ∷ ss) h = refl
  unsound-first (Held e ∷ ss) h = met-unsound e (ok e) (want e) (sound ok ss) (first_in ok want ss) h (unsound-first ss)
  unsound-first (Damaged ∷ ss) h = refl

  and-false : (b c : Bool) → c ≡ false → (b & c) ≡ false
  and-false true c h = h
  and-false false c h = refl

  -- `ss` and `below` have sectors with the last of them first, `above` those that come behind them, in their order.
  -- What is no sound run without its blanks is none with them, and none with one sector more.
  with-blanks : (ss : List Sector) → sound ok (written ss) ≡ false → sound ok ss ≡ false
  unfolding written holds sound
  with-blanks [] h = h
  with-blanks (Blank ∷ ss) h = refl
  with-blanks (Held e ∷ ss) h = h
  with-blanks (Damaged ∷ ss) h = h

  one-above : (s : Sector) (ss : List Sector) → sound ok (written ss) ≡ false → sound ok (written (s ∷ ss)) ≡ false
  unfolding written holds sound
  one-above Blank ss h = h
  one-above (Held e) ss h = and-false (ok e) (sound ok ss) (with-blanks ss h)
  one-above Damaged ss h = refl

  unsound-below : (above ss : List Sector) → sound ok (written ss) ≡ false → first_in ok want (written (reverse_aux above ss)) ≡ damaged
  unsound-below [] ss h = unsound-first (written ss) h
  unsound-below (s ∷ above) ss h = unsound-below above (s ∷ ss) (one-above s ss h)

  -- behind a blank there are blanks alone, or the bucket is damaged
  blank-below : (above ss : List Sector) → first_in ok want (written (reverse_aux above (Blank ∷ ss))) ≡ if (all_blank above) (first_in ok want (written ss)) damaged
  unfolding written holds sound all_blank
  blank-below [] ss = refl
  blank-below (Blank ∷ above) ss = blank-below above (Blank ∷ ss)
  blank-below (Held e ∷ above) ss = unsound-below above (Held e ∷ Blank ∷ ss) (and-false (ok e) false refl)
  blank-below (Damaged ∷ above) ss = unsound-below above (Damaged ∷ Blank ∷ ss) refl

  sound-written : (ss : List Sector) → sound ok ss ≡ true → written ss ≡ ss
  unfolding written holds sound
  sound-written [] h = refl
  sound-written (Blank ∷ ss) h = absurd (true-false (sym h))
  sound-written (Held e ∷ ss) h = refl
  sound-written (Damaged ∷ ss) h = absurd (true-false (sym h))

  module _ (weigh : Option Entry → Entry → Option Entry) (takes : (best : Option Entry) (e : Entry) → weigh best e ≡ if (want e) (Some e) best) where
    -- an entry behind a sound run; `on` is the rest of the way once it belongs to the run
    entry-behind : (above : List Sector) (e : Entry) (below : List Sector) (best : Option Entry) (fits : Bool) → ok e ≡ fits → sound ok below ≡ true
        → first_in ok want below ≡ Ok best
        → (sound ok (Held e ∷ below) ≡ true → (b : Option Entry) → first_in ok want (Held e ∷ below) ≡ Ok b
        → first_in ok want (written (reverse_aux above (Held e ∷ below))) ≡ scan_in ok weigh above b)
        → first_in ok want (written (reverse_aux above (Held e ∷ below))) ≡ if fits (scan_in ok weigh above (weigh best e)) damaged
    unfolding written holds sound first_in
    entry-behind above e below best true is h got on = on (rw (is, h)) (weigh best e) (rw (is, h, got, takes best e) (ok-if (want e) e best))
    entry-behind above e below best false is h got on = unsound-below above (Held e ∷ below) (rw is)

    -- those below are a sound run, and the first wanted of them is the best so far
    back-scan : (above below : List Sector) → sound ok below ≡ true → (best : Option Entry) → first_in ok want below ≡ Ok best
        → first_in ok want (written (reverse_aux above below)) ≡ scan_in ok weigh above best
    unfolding scan_in written holds sound
    back-scan [] below h best got = ap (first_in ok want) (sound-written below h) ∙ got
    back-scan (Blank ∷ above) below h best got =
        blank-below above below ∙ ap (λ (l : List Sector). if (all_blank above) (first_in ok want l) damaged) (sound-written below h) ∙ rw got
    back-scan (Held e ∷ above) below h best got = entry-behind above e below best (ok e) refl h got (back-scan above (Held e ∷ below))
    back-scan (Damaged ∷ above) below h best got = unsound-below above (Damaged ∷ below) refl

    -- the whole part
    pub from_last : (n count : ℕ) (part : List ℕ) → first_in ok want (written (last_first n part count)) ≡ scan_in ok weigh (sectors n part 0 count) None
    unfolding last_first sound first_in
    from_last n count part = ap (λ (l : List Sector). first_in ok want (written l)) (sym (turned n part 0 count count (omega arith))) ∙ back-scan (sectors n part 0 count) [] refl None refl

-- the sectors before the i-th: the one before it, and those before that
back_step : (n i : ℕ) (part : List ℕ) → 0 < i → last_first n part i ≡ decode n (sector_at part (i - 1)) ∷ last_first n part (i - 1)
unfolding last_first
back_step n i part h = let more : i ≡ suc (i - 1) = omega arith in ap (last_first n part) more

pub back_end : (n i : ℕ) (part : List ℕ) → i ≡ 0 → last_first n part i ≡ []
unfolding last_first
back_end n i part none = rw none

-- any question g to the sectors before the i-th, once the one before it was read as s; w is what all of them answer
pub back-turn : {A : Type 0} (g : List Sector → A) (n i : ℕ) (part : List ℕ) (s : Sector) (w : A) → 0 < i
    → s ≡ decode n (sector_at part (i - 1)) → g (last_first n part i) ≡ w → g (s ∷ last_first n part (i - 1)) ≡ w
back-turn g n i part s w h d inv = rw (back_step n i part h, ← d) at inv

judged-written : (blank row : Bool) (e : Entry) (l : List Sector)
    → let s = if blank Blank (if row (Held e) Damaged) in if blank (written l) (s ∷ l) ≡ written (s ∷ l)
unfolding written
judged-written true row e l = refl
judged-written false true e l = refl
judged-written false false e l = refl

-- a sector of zeros is passed over, any other ends the pass
pub pass-turn : (n i : ℕ) (part : List ℕ) (blank : Bool) (w : List Sector) → 0 < i → blank ≡ zeros (sector_at part (i - 1))
    → written (last_first n part i) ≡ w → if blank (written (last_first n part (i - 1))) (last_first n part i) ≡ w
unfolding decode
pass-turn n i part blank w h d inv =
    let s = sector_at part (i - 1) in
    rw (back_step n i part h, d) (judged-written (zeros s) (zeros (take 2 (drop 2 s)) & legal n (fields s)) (fields s) (last_first n part (i - 1)) ∙ (rw (back_step n i part h) at inv))

-- no entry, as an else has it
module _ (ok : Entry → Bool) where
  pub no-entry : (s : Sector) → ((e : Entry) → s ≡ Held e → ⊥) → false ≡ holds ok s
  unfolding holds
  no-entry Blank p = refl
  no-entry (Held e) p = absurd (p e refl)
  no-entry Damaged p = refl

  module _ (want : Entry → Bool) where
    pub no-entry-first : (s : Sector) (l : List Sector) → ((e : Entry) → s ≡ Held e → ⊥) → damaged ≡ first_in ok want (s ∷ l)
    unfolding sound
    no-entry-first s l p = sym (unsound-first ok want (s ∷ l) (ap (λ (b : Bool). b & sound ok l) (sym (no-entry s p))))

    -- an entry met, with the code's answers to what is asked of it
    pub first-met : (e : Entry) (l : List Sector) (fits wanted rest : Bool) → fits ≡ ok e → wanted ≡ want e → rest ≡ sound ok l
        → if fits (if wanted (if rest (Ok (Some e)) damaged) (first_in ok want l)) damaged ≡ first_in ok want (Held e ∷ l)
    unfolding first_in
    first-met e l fits wanted rest a b c = rw (a, b, c)
