-- However a card of ours began, it answers for the records that it had then.
use mathlib.Core.Path.{◌≡◌, sym, ap, ap₂, subst, ◌∙◌}
use mathlib.Core.Logic.{inl, inr}
use mathlib.Core.Bool.{true}
use mathlib.Core.List.{List, []}
use Prim.Native.Nat.{ℕ, ◌-◌, ◌≤◌, ◌<◌}
use lib.ListN.{length}
use Rattle.rules.specs.declared.Entry.{Entry}
use Rattle.rules.specs.declared.Head.{Head}
use Rattle.rules.specs.Plain.{only, last_of, zeros}
use Rattle.rules.specs.Layout.{size_of}
use Rattle.rules.specs.Format.{format, formatted, meant}
use Rattle.rules.specs.Season.{built, season, standing_at}
use Rattle.rules.specs.Sector.{encode, put, root_entry}
use Rattle.rules.specs.Walk.{copy_of, standing}
use Rattle.rules.specs.Write.{accept}
use Rattle.laws.proofs.Bytes.{Bytes, get-bytes}
use Rattle.laws.proofs.Lists.{All, all_map}
use Rattle.laws.proofs.Zeros.{zero-eq}
use Rattle.tree.proofs.Begin.{format-inv, format-keeps, nothing}
use Rattle.tree.proofs.Keeps.{Keeps}
use Rattle.laws.proofs.Tells.{Rec}
use Rattle.tree.proofs.Seasoned.{said, to-passed, season-keeps, season-passed}
use Rattle.tree.proofs.Standing.{standing-records}
use Rattle.tree.proofs.Tree.{some_inj}
use Rattle.promises.specs.Calls.{Formatted, Seasoned, Begun, BegunAlike}
use Rattle.promises.proofs.Numbers.{formatted-plan}

-- a card that answers, from its beginning on, for the records rs
pub record Starts (h : Head) (begin : ℕ) (rs : List Entry) (card : List ℕ) : Type 0 where
  pub keeps : Keeps h card (λ t. said rs) begin begin
  pub past : All (λ e. e.stamp ≤ begin) rs

pub formatted-head : (h : Head) (card : List ℕ) (f : Formatted h card) → meant f.1 f.2 f.3 f.4 ≡ h
formatted-head h card f = some_inj (sym (format-keeps f.0 f.1 f.2 f.3 f.4 card (formatted-plan h card f)).state.head ∙ f.7)

pub formatted-starts : (h : Head) (card : List ℕ) → Formatted h card → Starts h 0 [] card
unfolding copy_of only last_of standing
formatted-starts h card f =
    record {
      keeps =
          subst (λ z. Keeps z card (λ t. nothing) 0 0) (formatted-head h card f) (format-keeps f.0 f.1 f.2 f.3 f.4 card (formatted-plan h card f));
      past = tt;
    }

-- a season card of any card of bytes
pub season-starts : (source : List ℕ) → Bytes source → (t : ℕ) → t < 4294967296 → (target : List ℕ) (n m td ti : ℕ) (new : List ℕ)
    → season source t target n m td ti ≡ accept new → Starts (meant n m td ti) t (standing_at source t).records new
season-starts source by t small target n m td ti new q =
    let p = season-passed source t target n m td ti new q in
    let recs = standing-records source by t in
    record {
      keeps = season-keeps (meant n m td ti) t target (standing_at source t) new small recs p.3;
      past = all_map (Rec t) (λ e. e.stamp ≤ t) (λ e r. r.4) (standing_at source t).records recs.0;
    }

-- the head is the one meant, and the records are those that stood
module _ (P : Head → List Entry → Type 0) (h : Head) (t : ℕ) (rs : List Entry) (card : List ℕ) where
  pub seasoned-of : ((source : List ℕ) → Bytes source → (target : List ℕ) (n m td ti : ℕ) → t < 4294967296 → season source t target n m td ti ≡ accept card
      → P (meant n m td ti) (standing_at source t).records) → Seasoned h t rs card → P h rs
  seasoned-of f (source, target, n, m, td, ti, by, small, q, hq, rq) =
      let bytes = get-bytes source by in
      let s = season-starts source bytes t small target n m td ti card q in
      let same : meant n m td ti ≡ h = some_inj (sym s.keeps.state.head ∙ hq) in
      subst (λ z. P z rs) same (subst (P (meant n m td ti)) rq (f source bytes target n m td ti small q))

pub begun-starts : (h : Head) (begin : ℕ) (rs : List Entry) (card : List ℕ) → Begun h begin rs card → Starts h begin rs card
begun-starts h begin rs card (inl (f, b, r)) =
    subst (λ z. Starts h z rs card) (sym b) (subst (λ z. Starts h 0 z card) (sym r) (formatted-starts h card f))
begun-starts h begin rs card (inr s) =
    seasoned-of (λ z es. Starts z begin es card) h begin rs card (λ source by target n m td ti small q. season-starts source by begin small target n m td ti card q) s

same_format : (h : Head) (c d : List ℕ) → Formatted h c → Formatted h d → c ≡ d
unfolding format
same_format h c d f e =
    let a = format-inv f.0 (meant f.1 f.2 f.3 f.4) c (formatted-plan h c f) in
    let b = format-inv e.0 (meant e.1 e.2 e.3 e.4) d (formatted-plan h d e) in
    let heads : meant f.1 f.2 f.3 f.4 ≡ meant e.1 e.2 e.3 e.4 = formatted-head h c f ∙ sym (formatted-head h d e) in
    sym a.3 ∙ ap₂ formatted heads (zero-eq f.0 e.0 a.2 b.2 (a.1 ∙ ap size_of heads ∙ sym b.1)) ∙ b.3

-- the card built on a blank target
abbrev onto : Head → ℕ → List Entry → List ℕ → List ℕ
onto h t rs target = put (built h t rs target).card 1 (encode (root_entry t ((built h t rs target).fresh - 1)))

abbrev Built : Head → ℕ → List Entry → List ℕ → Type 0
Built h t rs card = (target : List ℕ) × (zeros target ≡ true) × (length target ≡ size_of h) × (onto h t rs target ≡ card)

season-built : (source : List ℕ) (t : ℕ) (target : List ℕ) (n m td ti : ℕ) (new : List ℕ) → season source t target n m td ti ≡ accept new
    → Built (meant n m td ti) t (standing_at source t).records new
season-built source t target n m td ti new q =
    let p = to-passed (meant n m td ti) t target (standing_at source t) new (season-passed source t target n m td ti new q).3 in
    (target, p.blank, p.long, p.leaves)

same-built : (h : Head) (t : ℕ) (rs : List Entry) (c d : List ℕ) → Built h t rs c → Built h t rs d → c ≡ d
same-built h t rs c d a b = sym a.3 ∙ ap (onto h t rs) (zero-eq a.0 b.0 a.1 b.1 (a.2 ∙ sym b.2)) ∙ b.3

-- one geometry and the same records give one season card
pub same-season : (one two : List ℕ) (t : ℕ) → (standing_at one t).records ≡ (standing_at two t).records → (target other : List ℕ) (n m td ti : ℕ) (c d : List ℕ)
    → season one t target n m td ti ≡ accept c → season two t other n m td ti ≡ accept d → c ≡ d
same-season one two t same target other n m td ti c d p q =
    let h = meant n m td ti in
    same-built h t (standing_at two t).records c d (subst (λ z. Built h t z c) same (season-built one t target n m td ti c p)) (season-built two t other n m td ti d q)

seasoned-built : (h : Head) (t : ℕ) (rs : List Entry) (card : List ℕ) → Seasoned h t rs card → Built h t rs card
seasoned-built h t rs card =
    seasoned-of (λ z es. Built z t es card) h t rs card (λ source by target n m td ti small q. season-built source t target n m td ti card q)

-- two cards begun alike are one card, which starts with the same records
pub alike-starts : (h : Head) (card other : List ℕ) → BegunAlike h card other
    → (begin : ℕ) × (rs : List Entry) × Starts h begin rs card × (other ≡ card)
alike-starts h card other (inl (f, e)) = (0, [], formatted-starts h card f, same_format h other card e f)
alike-starts h card other (inr (begin, rs, f, e)) =
    (begin, rs, begun-starts h begin rs card (inr f), same-built h begin rs other card (seasoned-built h begin rs other e) (seasoned-built h begin rs card f))
