-- A scan gives what the run of its sectors gives.
use mathlib.Core.Path.{◌≡◌, refl, ap, sym, ◌∙◌}
use mathlib.Core.Bool.{Bool, true, false}
use Rattle.std.specs.Prelude.{Option, None, Some, Ok}
use Prim.Native.Nat.{ℕ, zero, suc}
use mathlib.Core.List.{List, [], ◌∷◌, ◌++◌, append_assoc}
use Rattle.rules.specs.declared.Entry.{Entry}
use Rattle.rules.specs.declared.Sector.{Sector}
use Rattle.rules.specs.declared.Sector.TheVariants.{Blank, Held, Damaged}
use Rattle.rules.specs.Bucket.{onto, run}
use Rattle.rules.specs.Plain.{if, ◌&◌, every}
use Rattle.scan.specs.Scan.{Found, damaged, sectors, all_blank, scan_in}

-- the run of sectors that are read
unfoldable pub run_of : List Sector → Option (List Entry)
run_of [] = Some []
run_of (s ∷ ss) = onto s (run_of ss)

pub run-sectors : (n : ℕ) (card : List ℕ) (i c : ℕ) → run n card i c ≡ run_of (sectors n card i c)
unfolding run sectors run_of
run-sectors n card i zero = refl
run-sectors n card i (suc c) = rw (run-sectors n card (suc i) c)

blank-blank : (r : Option (List Entry)) → onto Blank (onto Blank r) ≡ onto Blank r
unfolding onto
blank-blank None = refl
blank-blank (Some []) = refl
blank-blank (Some (e ∷ es)) = refl

blank-held : (e : Entry) (r : Option (List Entry)) → onto Blank (onto (Held e) r) ≡ None
unfolding onto
blank-held e None = refl
blank-held e (Some es) = refl

pub blank-run : (ss : List Sector) → onto Blank (run_of ss) ≡ if (all_blank ss) (Some []) None
unfolding run_of onto all_blank
blank-run [] = refl
blank-run (Blank ∷ ss) = blank-blank (run_of ss) ∙ blank-run ss
blank-run (Held e ∷ ss) = blank-held e (run_of ss)
blank-run (Damaged ∷ ss) = refl

-- the entries weighed one after the other
unfoldable pub fold : (Option Entry → Entry → Option Entry) → Option Entry → List Entry → Option Entry
fold pick best [] = best
fold pick best (e ∷ es) = fold pick (pick best e) es

unfoldable pub close : (Entry → Bool) → (Option Entry → Entry → Option Entry) → Option Entry → Option (List Entry) → Found
close ok pick best None = damaged
close ok pick best (Some es) = if (every ok es) (Ok (fold pick best es)) damaged

close-blank : (ok : Entry → Bool) (pick : Option Entry → Entry → Option Entry) (best : Option Entry) (b : Bool)
    → if b (Ok best) damaged ≡ close ok pick best (if b (Some []) None)
unfolding close every fold
close-blank ok pick best true = refl
close-blank ok pick best false = refl

close-held : (ok : Entry → Bool) (pick : Option Entry → Entry → Option Entry) (best : Option Entry) (e : Entry) (r : Option (List Entry))
    → if (ok e) (close ok pick (pick best e) r) damaged ≡ close ok pick best (onto (Held e) r)
unfolding close every fold onto
close-held ok pick best e None = elim (ok e) as (λ b. if b damaged damaged ≡ damaged {A = Option Entry}) [ true ↦ refl | false ↦ refl ]
close-held ok pick best e (Some es) =
    elim (ok e) as (λ b. if b (if (every ok es) (Ok (fold pick (pick best e) es)) damaged) damaged ≡ if (b & every ok es) (Ok (fold pick (pick best e) es)) damaged)
    [ true ↦ refl | false ↦ refl ]

close-damaged : (ok : Entry → Bool) (pick : Option Entry → Entry → Option Entry) (best : Option Entry) (r : Option (List Entry)) → damaged ≡ close ok pick best (onto Damaged r)
unfolding close onto
close-damaged ok pick best r = refl

-- the scan is the run, tested, and its entries weighed
pub scan-close : (ok : Entry → Bool) (pick : Option Entry → Entry → Option Entry) (ss : List Sector) (best : Option Entry)
    → scan_in ok pick ss best ≡ close ok pick best (run_of ss)
unfolding scan_in run_of
scan-close ok pick [] best = close-blank ok pick best true
scan-close ok pick (Blank ∷ ss) best = close-blank ok pick best (all_blank ss) ∙ ap (close ok pick best) (sym (blank-run ss))
scan-close ok pick (Held e ∷ ss) best = rw (scan-close ok pick ss (pick best e)) (close-held ok pick best e (run_of ss))
scan-close ok pick (Damaged ∷ ss) best = close-damaged ok pick best (run_of ss)

pub nil : (xs : List Entry) → xs ≡ xs ++ []
nil [] = refl
nil (x ∷ xs) = ap {B = List Entry} (λ r. x ∷ r) (nil xs)

-- weighing is a function of the list where one more entry at the end is one more weighed
pub fold-snoc : (pick : Option Entry → Entry → Option Entry) (g : List Entry → Option Entry)
    → ((pre : List Entry) (e : Entry) → pick (g pre) e ≡ g (pre ++ (e ∷ [])))
    → (pre es : List Entry) → fold pick (g pre) es ≡ g (pre ++ es)
unfolding fold
fold-snoc pick g step pre [] = ap g (nil pre)
fold-snoc pick g step pre (e ∷ es) =
    rw (step pre e) (fold-snoc pick g step (pre ++ (e ∷ [])) es ∙ ap g (append_assoc pre (e ∷ []) es))
