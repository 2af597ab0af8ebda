-- An entry that is checked is refused with the check's number; one that passes goes on.
use Rattle.std.proofs.Common.{◌≡◌, refl, ap, Bool, true, false, not, eqb, Result, Ok, Err}
use Rattle.rules.specs.declared.Entry.{Entry}
use Rattle.rules.specs.declared.refusal.Refusal.{Refusal}
use Rattle.rules.specs.declared.refusal.Refusal.TheVariants.{NoBib, NoStatus}
use Rattle.rules.specs.Plain.{if}
use Rattle.rules.specs.Sector.{status_fits}
use Rattle.rules.specs.Refusals.{number}
use Rattle.rules.specs.Write.{Plan, refuse, refuse_if}
use Rattle.sector.specs.Flaws.{checked}

abbrev told : Bool → Bool → Result (Unit {0}) Refusal
told nobody fits = if nobody (Err NoBib) (if fits (Ok tt) (Err NoStatus))

-- what document 01 refuses ahead of all else, by whether there is no bib and whether the status fits
abbrev ahead : Bool → Bool → Plan → Plan
ahead nobody fits rest = refuse_if nobody 2 (refuse_if (not fits) 14 rest)

refuses : (nobody fits : Bool) (r : Refusal) (rest : Plan) → told nobody fits ≡ Err r → ahead nobody fits rest ≡ refuse (number r)
unfolding refuse_if
refuses true fits r rest is = let e : NoBib ≡ r = cc in ap (λ (x : Refusal). refuse (number x)) e
refuses false true r rest is = absurd (cc)
refuses false false r rest is = let e : NoStatus ≡ r = cc in ap (λ (x : Refusal). refuse (number x)) e

fine : (nobody fits : Bool) → told nobody fits ≡ Ok tt → (nobody ≡ false) × (fits ≡ true)
fine true fits is = absurd (cc)
fine false true is = (refl, refl)
fine false false is = absurd (cc)

module _ (e : Entry) where
  pub checked-refuses : (r : Refusal) (rest : Plan) → checked e ≡ Err r → refuse_if (eqb e.key 0) 2 (refuse_if (not (status_fits e.status e.value)) 14 rest) ≡ refuse (number r)
  unfolding checked
  checked-refuses r rest is = refuses (eqb e.key 0) (status_fits e.status e.value) r rest is

  pub checked-fine : checked e ≡ Ok tt → (eqb e.key 0 ≡ false) × (status_fits e.status e.value ≡ true)
  unfolding checked
  checked-fine is = fine (eqb e.key 0) (status_fits e.status e.value) is

  pub checked-goes : (rest : Plan) → checked e ≡ Ok tt → refuse_if (eqb e.key 0) 2 (refuse_if (not (status_fits e.status e.value)) 14 rest) ≡ rest
  unfolding refuse_if
  checked-goes rest is = let s = checked-fine is in rw (s.0, s.1)
