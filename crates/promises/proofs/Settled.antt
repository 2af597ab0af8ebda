-- A call's outcome is settled; refused, it leaves the card, and gives zeros beside its number.
use Rattle.std.specs.Prelude.{Option, None, Some}
use mathlib.Core.Bool.{Bool, true, false}
use Prim.Native.Nat.{ℕ, zero, suc}
use mathlib.Core.Path.{refl, sym, ◌∙◌, ◌≡◌}
use mathlib.Core.List.{List}
use lib.ListN.{length}
use lib.Dec.{ltb, eqb}
use Rattle.rules.specs.declared.Entry.{Entry}
use Rattle.rules.specs.declared.Head.{Head}
use Rattle.rules.specs.declared.Answer.{Answer}
use Rattle.rules.specs.Layout.{head_of, beginning}
use Rattle.rules.specs.Walk.{Visit, stands_on, data_of, walk, left}
use Rattle.rules.specs.Write.{Plan, plan_card, plan_answer, post, strike, refuse, accept}
use Rattle.rules.specs.Next.{standing_above, hop_or, hop_to, next_from, key_above, next_in, next, hop, hopping, Hop}
use Rattle.rules.specs.Calls.{format_call, post_call, strike_call, look_call, next_call, called, planned, answered}
use Rattle.rules.specs.Look.{look_on, look_in, look}
use Rattle.rules.specs.Answers.{refused, sheet, ended, answer}
use Rattle.rules.specs.Format.{format}
use Rattle.rules.specs.Plain.{if}
use Rattle.rules.specs.Season.{season}
use Rattle.promises.specs.Promises.{CallsAreSettled, PanelIsSettled, RefusedMeansUnchanged, ReadsChangeNothing, SeasonIsSettled}

pub calls-are-settled : CallsAreSettled
calls-are-settled card k one two a b = λ i. record { card = (a.1 ∙ sym b.1) i; answer = (a.0 ∙ sym b.0) i }

pub panel-is-settled : PanelIsSettled
panel-is-settled time field one two a b = a ∙ sym b

-- an answer that is 0, or a refusal with zeros beside its number
abbrev pub Bare : Answer → Type 0
Bare a = (a.code ≡ 0 → ⊥) → a ≡ refused a.code

pub bare-zero : (a : Answer) → a.code ≡ 0 → Bare a
bare-zero a z n = absurd (n z)

pub bare-refused : (c : ℕ) → Bare (refused c)
unfolding refused
bare-refused c n = refl

pub plan-bare : (p : Plan) → Bare (plan_answer p)
unfolding plan_answer
plan-bare (refuse c) = bare-refused c
plan-bare (accept new) = bare-refused 0

pub sheet-bare : (bib reads : ℕ) (o : Option Entry) → Bare (sheet bib reads o)
unfolding sheet
sheet-bare bib reads None = bare-zero (sheet bib reads None) refl
sheet-bare bib reads (Some e) = bare-zero (sheet bib reads (Some e)) refl

look_on-bare : (bib t : ℕ) (w : Option (List Visit)) → Bare (look_on bib t w)
unfolding look_on
look_on-bare bib t None = bare-refused 4
look_on-bare bib t (Some p) = sheet-bare bib (length p) (stands_on t bib p)

pub bare-if : (b : Bool) (x y : Answer) → Bare x → Bare y → Bare (if b x y)
bare-if true x y p q = p
bare-if false x y p q = q

look-bare : (bib t : ℕ) (card : List ℕ) (o : Option Head) → Bare (look_in bib t card o)
unfolding look_in
look-bare bib t card None = bare-refused 1
look-bare bib t card (Some h) =
    bare-if (eqb bib 0) (refused 2) _ (bare-refused 2) (bare-if (ltb t (beginning card)) (refused 13) _ (bare-refused 13) (look_on-bare bib t (walk h card t bib)))

pub ended-bare : Bare ended
unfolding ended
ended-bare = bare-zero ended refl

to-bare : (o : Option Entry) (on : ℕ → Answer) → ((x : ℕ) → Bare (on x)) → Bare (hopping (hop_to o) on)
unfolding hop_to hopping
to-bare None on f = ended-bare
to-bare (Some e) on f = f e.key

or-bare : (o : Option Entry) (h : Hop) (on : ℕ → Answer) → Bare (hopping h on) → Bare (hopping (hop_or o h) on)
unfolding hop_or hopping
or-bare None h on b = b
or-bare (Some e) h on b = bare-zero (answer 0 e.key e.stamp e.status e.value 0) refl

hop-bare : (k t x : ℕ) (w : Option (List Visit)) (on : ℕ → Answer) → ((y : ℕ) → Bare (on y)) → Bare (hopping (hop k t x w) on)
unfolding hop hopping
hop-bare k t x None on f = bare-refused 4
hop-bare k t x (Some p) on f = or-bare (standing_above k (left t (data_of p))) (hop_to (key_above t x p)) on (to-bare (key_above t x p) on f)

from-bare : (wk : ℕ → Option (List Visit)) (k t f x : ℕ) → Bare (next_from wk k t f x)
unfolding next_from
from-bare wk k t zero x = ended-bare
from-bare wk k t (suc f) x = hop-bare k t x (wk x) (next_from wk k t f) (from-bare wk k t f)

next-bare : (k t : ℕ) (card : List ℕ) (o : Option Head) → Bare (next_in k t card o)
unfolding next_in
next-bare k t card None = bare-refused 1
next-bare k t card (Some h) = bare-if (ltb t (beginning card)) (refused 13) _ (bare-refused 13) (from-bare (walk h card t) k t 4294967296 k)

pub plan-same : (card : List ℕ) (p : Plan) → ((plan_answer p).code ≡ 0 → ⊥) → plan_card card p ≡ card
unfolding plan_card plan_answer refused
plan-same card (refuse c) n = refl
plan-same card (accept new) n = absurd (n refl)

pub refused-means-unchanged : RefusedMeansUnchanged
unfolding called planned answered look next
refused-means-unchanged card (format_call n m td ti) f = (plan-same card (format card n m td ti) f, plan-bare (format card n m td ti) f)
refused-means-unchanged card (post_call bib at status time) f = (plan-same card (post card bib at status time) f, plan-bare (post card bib at status time) f)
refused-means-unchanged card (strike_call bib at) f = (plan-same card (strike card bib at) f, plan-bare (strike card bib at) f)
refused-means-unchanged card (look_call bib t) f = (refl, look-bare bib t card (head_of card) f)
refused-means-unchanged card (next_call bib t) f = (refl, next-bare bib t card (head_of card) f)

pub reads-change-nothing : ReadsChangeNothing
unfolding called answered
reads-change-nothing card bib t = (refl, refl)

pub season-is-settled : SeasonIsSettled
season-is-settled card t target n m td ti one two new other a b =
    let said_of = season card t target n m td ti in
    (a.0 ∙ sym b.0, a.1 ∙ sym b.1, λ Some-number. a.1 ∙ plan-same target said_of (λ z. Some-number (a.0 ∙ z)))
