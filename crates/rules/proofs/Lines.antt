-- A list of lines that the rules are held to: calls with their answers, season cards, buckets with their sectors, histories, times with their digits.
use Prim.Native.Nat.{ℕ, suc}
use mathlib.Core.Bool.{Bool, true, false}
use mathlib.Core.List.{List, [], ◌∷◌}
use Rattle.std.specs.Prelude.{Option, None, Some}
use lib.Dec.{eqb}
use Rattle.rules.specs.declared.Head.{Head}
use Rattle.rules.specs.declared.Entry.{Entry}
use Rattle.rules.specs.declared.Sector.{Sector}
use Rattle.rules.specs.declared.Sector.TheVariants.{Blank, Held, Damaged}
use Rattle.rules.specs.declared.Answer.{Answer}
use Rattle.rules.specs.declared.Digits.{Digits}
use Rattle.rules.specs.declared.State.{State}
use Rattle.rules.specs.Plain.{◌&◌}
use Rattle.rules.specs.Sector.{sector_at, put, encode, decode}
use Rattle.rules.specs.Layout.{head_of, base}
use Rattle.rules.specs.Write.{top_used, plan_answer, plan_card}
use Rattle.rules.specs.History.{history}
use Rattle.rules.specs.Season.{season}
use Rattle.rules.specs.State.{state}
use Rattle.rules.specs.Batch.{batch}
use Rattle.rules.specs.Panel.{panel}
use Rattle.rules.specs.Calls.{Call, Ask, noted}
use Rattle.rules.specs.Bench.{bench_call}

-- no card any more; a call and its answer; a season card on a target as of a stamp, with buckets, sectors, TD, TI and the number it answers,
-- which is the card from then on; other bytes in a sector; a call and its answer on the card with other bytes in a sector;
-- a bucket and its m sectors; the log's first sectors; a sector's bytes; the highest bucket written; the state's eight numbers; a batch's requests
-- and places, its number and answers; a slice lent for a journal; a journal's call and its answer; a bib, a stamp and the sectors lent for its
-- history, the number and the sectors it gives; a time, a field, the number and places it gives
pub data Line : Type 0 where
  anew : Line
  says : Call → Answer → Line
  goes_on : List ℕ → ℕ → ℕ → ℕ → ℕ → ℕ → ℕ → Line
  writes : ℕ → List ℕ → Line
  spoilt : ℕ → List ℕ → Call → Answer → Line
  holds : ℕ → List Sector → Line
  logs : List Sector → Line
  bytes : ℕ → List ℕ → Line
  used : ℕ → Line
  tells : List ℕ → Line
  loads : List ℕ → List ℕ → ℕ → List ℕ → Line
  lent : List ℕ → Line
  notes : Ask → Answer → Line
  recalls : ℕ → ℕ → ℕ → ℕ → List (List ℕ) → Line
  shows : ℕ → ℕ → ℕ → List ℕ → Line

unfoldable pub same : List ℕ → List ℕ → Bool
same [] [] = true
same [] (y ∷ ys) = false
same (x ∷ xs) [] = false
same (x ∷ xs) (y ∷ ys) = eqb x y & same xs ys

unfoldable pub same_answer : Answer → Answer → Bool
same_answer a b = same (a.code ∷ a.bib ∷ a.at ∷ a.status ∷ a.time ∷ a.reads ∷ []) (b.code ∷ b.bib ∷ b.at ∷ b.status ∷ b.time ∷ b.reads ∷ [])

unfoldable pub same_sector : Sector → Sector → Bool
same_sector Blank Blank = true
same_sector Blank (Held e) = false
same_sector Blank Damaged = false
same_sector (Held d) Blank = false
same_sector (Held d) (Held e) = same (d.kind ∷ d.status ∷ d.key ∷ d.stamp ∷ d.value ∷ []) (e.kind ∷ e.status ∷ e.key ∷ e.stamp ∷ e.value ∷ [])
same_sector (Held d) Damaged = false
same_sector Damaged s = false

-- the sectors from sector i are these
unfoldable pub lie : ℕ → List ℕ → ℕ → List Sector → Bool
lie n card i [] = true
lie n card i (s ∷ ss) = same_sector (decode n (sector_at card i)) s & lie n card (suc i) ss

unfoldable pub many : List Sector → ℕ
many [] = 0
many (s ∷ ss) = suc (many ss)

unfoldable pub holds_in : List ℕ → Option Head → ℕ → List Sector → Bool
holds_in card None b ss = false
holds_in card (Some h) b ss = eqb (many ss) h.m & lie h.n card (base h b) ss

unfoldable pub logs_in : List ℕ → Option Head → List Sector → Bool
logs_in card None ss = false
logs_in card (Some h) ss = lie h.n card 1 ss

unfoldable pub used_in : List ℕ → Option Head → ℕ → Bool
used_in card None k = false
used_in card (Some h) k = eqb (top_used h card h.n) k

unfoldable pub same_digits : Digits → ℕ → List ℕ → Bool
same_digits d c ps = eqb d.code c & same d.places ps

unfoldable pub numbers_of : State → List ℕ
numbers_of s = s.code ∷ s.buckets ∷ s.sectors ∷ s.td ∷ s.ti ∷ s.begin ∷ s.last ∷ s.used ∷ []

-- the sectors of entries are these
unfoldable pub sectors_of : List Entry → List (List ℕ) → Bool
sectors_of [] [] = true
sectors_of [] (s ∷ ss) = false
sectors_of (e ∷ es) [] = false
sectors_of (e ∷ es) (s ∷ ss) = same (encode e) s & sectors_of es ss

unfoldable pub right : List ℕ → Line → Bool
right card anew = true
right card (says k a) = same_answer (bench_call card k).answer a
right card (goes_on target t n m td ti c) = eqb (plan_answer (season card t target n m td ti)).code c
right card (writes i bs) = true
right card (spoilt i bs k a) = same_answer (bench_call (put card i bs) k).answer a
right card (holds b ss) = holds_in card (head_of card) b ss
right card (logs ss) = logs_in card (head_of card) ss
right card (bytes i bs) = same (sector_at card i) bs
right card (used k) = used_in card (head_of card) k
right card (tells ns) = same (numbers_of (state card)) ns
right card (loads requests places c answers) = let b = batch card requests places in eqb b.code c & same b.answers answers
right card (lent slice) = true
right card (notes q a) = same_answer (noted card q).answer a
right card (recalls bib t places c ss) = let r = history card bib t places in eqb r.code c & sectors_of r.records ss
right card (shows time field c ps) = same_digits (panel time field) c ps

unfoldable pub card_next : List ℕ → Line → List ℕ
card_next card anew = []
card_next card (says k a) = (bench_call card k).card
card_next card (goes_on target t n m td ti c) = plan_card card (season card t target n m td ti)
card_next card (writes i bs) = put card i bs
card_next card (spoilt i bs k a) = card
card_next card (holds b ss) = card
card_next card (logs ss) = card
card_next card (bytes i bs) = card
card_next card (used k) = card
card_next card (tells ns) = card
card_next card (loads requests places c answers) = (batch card requests places).card
card_next card (lent slice) = slice
card_next card (notes q a) = (noted card q).card
card_next card (recalls bib t places c ss) = card
card_next card (shows time field c ps) = card

unfoldable pub passes : List ℕ → List Line → Bool
passes card [] = true
passes card (l ∷ ls) = right card l & passes (card_next card l) ls
