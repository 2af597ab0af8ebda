-- The season card as the code writes it: entries at the sectors that their places in a level give, pairs read back from the headers of the level below.
use Rattle.std.specs.Prelude.{ℕ, zero, suc, ◌+◌, ◌-◌, ◌*◌, ◌/◌, ◌%◌, ◌≤◌, ◌<◌, List, [], ◌∷◌, ltb, length}
use Rattle.rules.specs.declared.Entry.{Entry}
use Rattle.rules.specs.declared.Head.{Head}
use Rattle.rules.specs.Plain.{if}
use Rattle.rules.specs.Sector.{sector_at, word, put, encode, index_entry}
use Rattle.rules.specs.Layout.{base}

-- the sector of entry j of a level whose buckets of m sectors begin at sector i and take q each
unfoldable pub spot : ℕ → ℕ → ℕ → ℕ → ℕ
spot m q i j = i + m * (j / q) + j % q

-- the buckets that c entries fill
unfoldable pub over : ℕ → ℕ → ℕ
over q c = (c + (q - 1)) / q

-- the entries of a level from entry j on, each at its sector
abbrev pub laid : ℕ → ℕ → ℕ → ℕ → List ℕ → List Entry → List ℕ
laid m q i j card [] = card
laid m q i j card (e ∷ es) = laid m q i (j + 1) (put card (spot m q i j) (encode e)) es

-- bucket b's pair as its header gives it
unfoldable pub pair_on : Head → ℕ → List ℕ → ℕ → Entry
pair_on h s card b = index_entry (word (sector_at card (base h b)) 4) s b

-- the level above c buckets from bucket b + j on, each pair read when its turn comes
abbrev pub raised : Head → ℕ → ℕ → ℕ → ℕ → ℕ → ℕ → List ℕ → List ℕ
raised h s q b i j zero card = card
raised h s q b i j (suc c) card = raised h s q b i (j + 1) c (put card (spot h.m q i j) (encode (pair_on h s card (b + j))))

-- the levels above the c buckets from bucket b on, which are the card's last
abbrev pub tiers : Head → ℕ → ℕ → ℕ → ℕ → ℕ → List ℕ → List ℕ
tiers h s q zero b c card = card
tiers h s q (suc f) b c card =
    if (ltb 1 (over q c)) (tiers h s q f (b + c) (over q c) (raised h s q b (base h (b + c)) 0 c card))
    (raised h s q b (base h (b + c)) 0 c card)

-- the next fresh bucket when the levels above c buckets are there, `fresh` being the next before
abbrev pub heap : ℕ → ℕ → ℕ → ℕ → ℕ
heap q zero fresh c = fresh
heap q (suc f) fresh c = if (ltb 1 (over q c)) (heap q f (fresh + over q c) (over q c)) (fresh + over q c)

-- the next fresh bucket of a season card of c entries, the dummy with them
unfoldable pub fresh : ℕ → ℕ → ℕ
fresh q c = heap q (over q c) (1 + over q c) (over q c)

-- a card on which each of the c entries of a level has its sector
pub record Room (m q i c : ℕ) (card : List ℕ) : Type 0 where
  pub some : 1 ≤ q
  pub long : length card ≤ 4000000
  pub lies : (k : ℕ) → k < c → 16 * spot m q i k + 16 ≤ length card
