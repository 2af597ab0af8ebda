-- The levels of a season card, sector by sector: what is put into their buckets are the entries in hand and pairs.
use mathlib.Core.Path.{◌≡◌, sym, subst}
use Prim.Native.Nat.{ℕ, zero, suc, ◌+◌, ◌≤◌, ◌<◌}
use native.Mathlib.Omega.{arith}
use mathlib.Core.List.{List, [], ◌∷◌, ◌++◌}
use lib.ListN.{length, take, drop, take-append-drop}
use Rattle.rules.specs.declared.Entry.{Entry}
use Rattle.rules.specs.declared.Head.{Head}
use Rattle.rules.specs.Layout.{size_of}
use Rattle.rules.specs.Rewrite.{Rise, into, pair}
use Rattle.rules.specs.Season.{quota, parts, filled, pairs_from, storey_of, storey, until_one, tower}
use Rattle.laws.proofs.Entries.{Fine}
use Rattle.laws.proofs.Lists.{All, all_left, all_right}
use Rattle.laws.proofs.Puts.{Chain, chain_more, chain_same, chain-size, into-chain, pair_ok}
use Rattle.tree.proofs.Towers.{storey-up, until-up, tower-up}

module _ (h : Head) (n4096 : h.n ≤ 4096) (s : ℕ) (s32 : s < 4294967296) (Q : Entry → Type 0) (qp : (b : ℕ) (ks : List Entry) → Q (pair s b ks)) where
  abbrev P : Entry → Type 0
  P d = Fine h.n d × Q d

  abbrev Every : List (List Entry) → Type 0
  Every [] = Unit {0}
  Every (p ∷ ps) = All P p × Every ps

  parts-every : (q f : ℕ) (es : List Entry) → All P es → Every (parts q f es)
  unfolding parts
  parts-every q zero es a = tt
  parts-every q (suc f) [] a = tt
  parts-every q (suc f) (e ∷ es) a =
      let both : All P (take q (e ∷ es) ++ drop q (e ∷ es)) = subst (All P) (sym (take-append-drop q (e ∷ es))) a in
      (all_left P (take q (e ∷ es)) (drop q (e ∷ es)) both, parts-every q f (drop q (e ∷ es)) (all_right P (take q (e ∷ es)) (drop q (e ∷ es)) both))

  filled-chain : (b : ℕ) (ps : List (List Entry)) (card : List ℕ) → 1 ≤ b → b + length ps ≤ h.n + 1 → size_of h ≡ length card → Every ps
      → Chain h Q card (filled h b ps card)
  unfolding filled
  filled-chain b [] card lo hi size a = chain_same h Q card
  filled-chain b (p ∷ ps) card lo hi size a =
      let one = into-chain h Q card size b lo (omega arith) p a.0 in
      let new = into h b p card in
      chain_more h Q card new (filled h (b + 1) ps new) one (filled-chain (b + 1) ps new (omega arith) (omega arith) (chain-size h Q card new size one) a.1)

  pairs-every : (card : List ℕ) → size_of h ≡ length card → (b : ℕ) (ps : List (List Entry)) → 1 ≤ b → b + length ps ≤ h.n + 1 → Every ps
      → All P (pairs_from s b ps)
  unfolding pairs_from
  pairs-every card size b [] lo hi a = tt
  pairs-every card size b (p ∷ ps) lo hi a =
      (pair_ok h n4096 s s32 Q qp card size b p a.0 lo (omega arith), pairs-every card size (b + 1) ps (omega arith) (omega arith) a.1)

  -- one level
  pub storey-chain : (r : Rise) → 1 ≤ r.fresh → (storey h s r).fresh ≤ h.n + 1 → size_of h ≡ length r.card → All P r.hand
      → Chain h Q r.card (storey h s r).card × All P (storey h s r).hand
  unfolding storey storey_of
  storey-chain r lo hi size a =
      let ps = parts (quota h) (length r.hand) r.hand in
      let all = parts-every (quota h) (length r.hand) r.hand a in
      (filled-chain r.fresh ps r.card lo hi size all, pairs-every r.card size r.fresh ps lo hi all)

  -- the levels above it
  abbrev Towers : ℕ → Type 0
  Towers f = (r : Rise) → 1 ≤ r.fresh → (tower h s f r).fresh ≤ h.n + 1 → size_of h ≡ length r.card → All P r.hand → Chain h Q r.card (tower h s f r).card

  until-chain : (f : ℕ) → Towers f → (card : List ℕ) (up : Rise) (ps : List Entry) → 1 ≤ up.fresh → (until_one ps up (tower h s f)).fresh ≤ h.n + 1
      → size_of h ≡ length card → Chain h Q card up.card → All P up.hand → Chain h Q card (until_one ps up (tower h s f)).card
  unfolding until_one
  until-chain f ih card up [] lo hi size c a = c
  until-chain f ih card up (p ∷ []) lo hi size c a = c
  until-chain f ih card up (p ∷ d ∷ ps) lo hi size c a =
      chain_more h Q card up.card (tower h s f up).card c (ih up lo hi (chain-size h Q card up.card size c) a)

  pub tower-chain : (f : ℕ) → Towers f
  unfolding tower
  tower-chain zero r lo hi size a = chain_same h Q r.card
  tower-chain (suc f) r lo hi size a =
      let up = storey h s r in
      let high = until-up up.hand up (tower h s f) (tower-up h s f) in
      let low = storey-up h s r in
      let one = storey-chain r lo (omega arith) size a in
      until-chain f (tower-chain f) r.card up up.hand (omega arith) hi size one.0 one.1
