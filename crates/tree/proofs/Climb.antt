-- A write climbs the tree: afterwards the tree holds the new entry.
use mathlib.Core.Path.{◌∙◌, ◌≡◌, ap, ap₂, refl, subst, sym}
use mathlib.Core.Logic.{◌⊎◌, inl, inr, ⊎_elim}
use mathlib.Core.Bool.{Bool, false, true}
use Rattle.std.specs.Prelude.{Option, Some}
use Prim.Native.Nat.{◌+◌, ◌<◌, ◌≤◌, suc, zero, ℕ}
use native.Mathlib.Omega.{arith}
use mathlib.Core.List.{List, [], ◌++◌, ◌∷◌, append_assoc}
use lib.ListN.{length}
use lib.Dec.{eqb, leb}
use borrow.Author.Tests.{eq-eqb, le-leb, lt-leb, ne_eqb}
use Rattle.rules.specs.declared.Entry.{Entry}
use Rattle.rules.specs.declared.Head.{Head}
use Rattle.rules.specs.Bucket.{bucket}
use Rattle.rules.specs.Plain.{every, if, keep_if, largest, only}
use Rattle.rules.specs.Rewrite.{Rise}
use Rattle.rules.specs.Sector.{is_data, is_index}
use Rattle.rules.specs.Walk.{Visit, copy_of, down_to, follow, go, go_in, met, path, standing}
use Rattle.rules.specs.Write.{climb, place_if}
use Rattle.laws.proofs.Tools.{eq-or-ne, le-or-lt}
use Rattle.laws.proofs.Lists.{All, all_append, all_map, copy-snoc-other, copy-snoc-same, follow-all, follow-gap, follow-le, upper, upper-gt, upper-le}
use Rattle.laws.proofs.Entries.{Good, Fine}
use Rattle.laws.proofs.Fresh.{place_if-fresh, climb-mono}
use Rattle.laws.proofs.Heads.{Lim}
use Rattle.tree.proofs.Tree.{Early, Kids, Reading, Shape, Span, Tree, tree-frame, tree-not, turn-data, turn-index}
use Rattle.tree.proofs.Pairs.{away, away-tree, kids-one, kids-two, same-upper}
use Rattle.tree.proofs.Content.{content-fresh}
use Rattle.tree.proofs.Outcome.{Closed, One, Open, Outcome, Two}
use Rattle.tree.proofs.Level.{Before, place-level}
use Rattle.tree.proofs.AsOf.{Late}
use Rattle.tree.proofs.Ready.{Ready}

-- g with the entry e
abbrev pub upd : (ℕ → Option Entry) → Entry → ℕ → Option Entry
upd g e x = if (eqb e.key x) (standing (Some e)) (g x)

-- the walk's steps in a tree
path-data : (rd : Reading) (g : ℕ → Option Entry) (t b lo hi x f : ℕ) (tr : Tree rd g zero b lo hi) → path rd t x (suc f) b lo ≡ Some (record { number = b; entries = tr.0 } ∷ [])
unfolding path go_in go
path-data rd g t b lo hi x f tr = rw (tr.1, turn-data t x lo hi tr.0 tr.2)

path-index : (rd : Reading) (g : ℕ → Option Entry) (t : ℕ) → Early t rd → (k b lo hi x f : ℕ) (tr : Tree rd g (suc k) b lo hi) (d : Entry)
    → follow x tr.0 ≡ Some d
    → path rd t x (suc f) b lo ≡ met (record { number = b; entries = tr.0 }) (path rd t x f d.value d.key)
unfolding path go_in go down_to
path-index rd g t early k b lo hi x f tr d q = rw (tr.1, turn-index t x lo hi tr.0 tr.2, early b tr.0 tr.1, q)

-- the entry followed is the same for all keys that lie between the same two index keys
only-cong : (p q : Entry → Bool) (es : List Entry) → All (λ e. p e ≡ q e) es → only p es ≡ only q es
unfolding only
only-cong p q [] a = refl
only-cong p q (e ∷ es) a = ap₂ (λ b r. keep_if b e r) a.0 (only-cong p q es a.1)

follow-at : (x : ℕ) (es : List Entry) (d : Entry) → follow x es ≡ Some d → follow d.key es ≡ Some d
unfolding follow
follow-at x es d q =
    let le = follow-le x es d q in
    ap largest (only-cong (λ e. leb e.key d.key) (λ e. leb e.key x) es
    (all_map (λ e. e.key ≤ x → e.key ≤ d.key) (λ e. leb e.key d.key ≡ leb e.key x)
    (λ e f. ⊎_elim
    (λ k. le-leb e.key d.key (f k) ∙ sym (le-leb e.key x k))
    (λ k. lt-leb e.key d.key (omega arith) ∙ sym (lt-leb e.key x k))
    (le-or-lt e.key x))
    es (follow-gap x es d q))) ∙ q

follow_one : (x y : ℕ) (es : List Entry) (c d : Entry) → follow x es ≡ Some c → follow y es ≡ Some d → c.key ≡ d.key → c ≡ d
follow_one x y es c d p q k =
    let e : Some c ≡ Some d = sym (follow-at x es c p) ∙ ap (λ z. follow z es) k ∙ follow-at y es d q in
    cc

-- the new entry in a data bucket
vals-snoc : (g : ℕ → Option Entry) (lo hi : ℕ) (es : List Entry) (e : Entry) → ((x : ℕ) → lo ≤ x → x < hi → standing (copy_of x es) ≡ g x)
    → (x : ℕ) → lo ≤ x → x < hi → standing (copy_of x (es ++ (e ∷ []))) ≡ upd g e x
vals-snoc g lo hi es e c x p q =
    ⊎_elim
    (λ k. ap standing (copy-snoc-same x es e k) ∙ sym (rw (eq-eqb e.key x k)))
    (λ n. ap standing (copy-snoc-other x es e n) ∙ c x p q ∙ sym (rw (ne_eqb e.key x n)))
    (eq-or-ne e.key x)

-- the start of a write of e, with f the first fresh bucket
abbrev pub start : List ℕ → Entry → ℕ → Rise
start card e f = record { hand = e ∷ []; fresh = f; card = card }

abbrev pub Climbs : (h : Head) (card : List ℕ) (g : ℕ → Option Entry) (e : Entry) (f0 t : ℕ) (k b lo hi f : ℕ) → Type 0
Climbs h card g e f0 t k b lo hi f =
    (p : List Visit) × (path (bucket h card) t e.key f b lo ≡ Some p)
    × ((climb h e.stamp p (start card e f0)).fresh ≤ h.n + 1 → Outcome h card g (upd g e) k b lo hi e.stamp (climb h e.stamp p (start card e f0)))

module _ (h : Head) (lim : Lim h) (card : List ℕ) (g : ℕ → Option Entry) (t : ℕ) (early : Early t (bucket h card))
    (e : Entry) (fine : Fine h.n e) (isd : (is_index e ≡ false) × (is_data e ≡ true)) (f0 : ℕ) (ready : Ready h card f0) (f1 : 1 ≤ f0) where
  leaf-level : (b lo hi f : ℕ) (tr : Tree (bucket h card) g zero b lo hi) → lo < hi → hi ≤ 4294967296 → lo ≤ e.key → e.key < hi
      → Climbs h card g e f0 t zero b lo hi (suc f)
  unfolding climb place_if every
  leaf-level b lo hi f tr lt h32 le lh = (
    record { number = b; entries = tr.0 } ∷ [],
    path-data (bucket h card) g t b lo hi e.key f tr,
    place-level h card g (upd g e) zero b lo hi e.stamp (start card e f0) tr.0
        (record {
          lim = lim;
          same1 = λ c cs q. q;
          late = (omega arith, tt);
          added = inl (e, copy-snoc-same e.key tr.0 e refl, refl, isd.1);
          ready1 = ready;
          fresh1 = f1;
          here = tr.1;
          old = tr;
          range = (lt, h32, fine.0.stamp);
          heads = tr.2.0;
          shape = shape-snoc tr.0 tr.2;
          content = vals-snoc g lo hi tr.0 e tr.3;
          good = (fine, tt);
          atmost = omega arith;
        }),
  )
    where
      shape-snoc : (es : List Entry) → Shape false lo hi es → Shape false lo hi (es ++ (e ∷ []))
      shape-snoc [] s = absurd s.0
      shape-snoc (x ∷ es) s = (s.0, all_append (Span false lo hi) (x ∷ es) (e ∷ []) s.1 ((isd.0, le, lh, isd.1), tt))

  module _ (k b lo hi : ℕ) (tr : Tree (bucket h card) g (suc k) b lo hi) (lt : lo < hi) (h32 : hi ≤ 4294967296) (le : lo ≤ e.key) (lh : e.key < hi) where
    abbrev es : List Entry
    es = tr.0

    abbrev d : Entry
    d = (tr.3 e.key le lh).0

    abbrev u : ℕ
    u = upper e.key es hi

    sd : follow e.key es ≡ Some d
    sd = (tr.3 e.key le lh).1

    outside : (x : ℕ) → (x < d.key) ⊎ (u ≤ x) → g x ≡ upd g e x
    outside x o =
        let a = follow-le e.key es d sd in
        let c = upper-gt e.key es hi lh in
        sym (rw (ne_eqb e.key x (λ z. ⊎_elim (λ q. omega arith) (λ q. omega arith) o)))

    -- below, a bucket was changed
    closed-up : (card' : List ℕ) (f : ℕ) → Closed h card card' g (upd g e) k d.value d.key u e.stamp f
        → Closed h card card' g (upd g e) (suc k) b lo hi e.stamp f
    closed-up card' f c =
        let w = c.within in
        let span = follow-all (Span true lo hi) e.key es d tr.2.1 sd in
        let ul = upper-le e.key es hi in
        let nb : b ≡ c.spot → ⊥ = λ z. tree-not (bucket h card) g g b (suc k) lo hi tr lt c.height c.spot c.low c.high w.3 (inr (inr (omega arith))) c.spot-tree (sym z) in
        record {
          ready = c.ready;
          grows = c.grows;
          mark = c.mark;
          spot = c.spot;
          height = c.height;
          low = c.low;
          high = c.high;
          spot-tree = c.spot-tree;
          within = (omega arith, omega arith, omega arith, w.3);
          same = c.same;
          tree = (
            es,
            c.same b es nb tr.1,
            tr.2,
            λ x lx xh.
                let cx = tr.3 x lx xh in
                ⊎_elim
                (λ eq.
                let ce : cx.0 ≡ d = follow_one x e.key es cx.0 d cx.1 sd eq in
                let su : upper x es hi ≡ u = same-upper (bucket h card) g (upd g e) k lo hi es tr.3 e.key d sd outside x lx xh eq in
                (d, cx.1 ∙ ap Some ce, rw su c.tree))
                (λ ne.
                let aw = away (bucket h card) g (upd g e) k lo hi es tr.3 e.key d sd outside x lx xh ne in
                let at = away-tree (bucket h card) g (upd g e) k lo hi es tr.3 e.key d sd outside x lx xh ne in
                let fl = follow-le x es cx.0 cx.1 in
                let ug = upper-gt x es hi xh in (
                  cx.0,
                  cx.1,
                  tree-frame (bucket h card) (bucket h card') (upd g e) g c.spot c.height c.low c.high c.spot-tree w.3 c.same
                      k cx.0.value cx.0.key (upper x es hi) (omega arith)
                      (⊎_elim (λ a. let a1 = a.1 in inr (inl (omega arith))) (λ a. let a1 = a.1 in inl (omega arith)) aw) at,
                ))
                (eq-or-ne cx.0.key d.key),
          );
        }

    shape-more : (ps : List Entry) → All (Span true lo hi) ps → Shape true lo hi (es ++ ps)
    shape-more ps a = go es tr.2
      where
        go : (xs : List Entry) → Shape true lo hi xs → Shape true lo hi (xs ++ ps)
        go [] s = absurd s.0
        go (x ∷ xs) s = (s.0, all_append (Span true lo hi) (x ∷ xs) ps s.1 a)

    -- the pairs that came up from below stand for the child
    came_up : (r : Rise) (ps : List Entry) → 1 ≤ r.fresh → r.hand ≡ ps → Open h card r.card e.stamp r.fresh
        → Late e.stamp ps → All (Span true lo hi) ps → Kids (bucket h r.card) (upd g e) k (es ++ ps) lo hi → Good h.n ps → length ps ≤ 2
        → Before h card g (upd g e) (suc k) b lo hi e.stamp r es
    came_up r ps lf hand o late span kids good most =
        record {
          lim = lim;
          same1 = o.same;
          late = rw hand late;
          added = inr o.mark;
          ready1 = o.ready;
          fresh1 = lf;
          here = tr.1;
          old = tr;
          range = (lt, h32, fine.0.stamp);
          heads = tr.2.0;
          shape = rw hand (shape-more ps span);
          content = rw hand kids;
          good = rw hand good;
          atmost = rw hand most;
        }

    -- below, one new bucket stands for the child, or two
    one_up : (r : Rise) (p : Entry) → 1 ≤ r.fresh → r.hand ≡ p ∷ [] → One h card r.card (upd g e) k d.key u e.stamp r.fresh p
        → Before h card g (upd g e) (suc k) b lo hi e.stamp r es
    one_up r p lf hand o =
        let rd1 = bucket h r.card in
        let pr = o.pair1 in
        let pk = pr.0 in
        let span = follow-all (Span true lo hi) e.key es d tr.2.1 sd in
        let kids1 = content-fresh (bucket h card) rd1 g o.opened.same (suc k) lo hi es tr.3 in
        came_up r (p ∷ []) lf hand o.opened (omega arith, tt) ((pr.1, omega arith, omega arith, pr.1), tt)
        (kids-one rd1 g (upd g e) k lo hi es kids1 e.key d sd outside p pk (rw pk o.tree1)) (pr.2, tt) (omega arith)

    two_up : (r : Rise) (p q : Entry) → 1 ≤ r.fresh → r.hand ≡ p ∷ q ∷ [] → Two h card r.card (upd g e) k d.key u e.stamp r.fresh p q
        → Before h card g (upd g e) (suc k) b lo hi e.stamp r es
    two_up r p q lf hand o =
        let rd1 = bucket h r.card in
        let pr = o.pair1 in
        let qr = o.pair2 in
        let pk = pr.0 in
        let md = o.mid in
        let ul = upper-le e.key es hi in
        let span = follow-all (Span true lo hi) e.key es d tr.2.1 sd in
        let kids1 = content-fresh (bucket h card) rd1 g o.opened.same (suc k) lo hi es tr.3 in
        came_up r (p ∷ q ∷ []) lf hand o.opened (omega arith, (omega arith, tt)) ((pr.1, omega arith, omega arith, pr.1), ((qr.1, omega arith, omega arith, qr.1), tt))
        (subst (λ z. Kids rd1 (upd g e) k z lo hi) (append_assoc es (p ∷ []) (q ∷ []))
        (kids-two rd1 g (upd g e) k lo hi es kids1 e.key d sd outside p q pk md.0 md.1 (rw pk o.tree1) o.tree2))
        (pr.2, (qr.2, tt)) (omega arith)

    -- from the outcome below to the one here
    up : (r : Rise) → 1 ≤ r.fresh → Outcome h card g (upd g e) k d.value d.key u e.stamp r
        → (place_if h e.stamp (record { number = b; entries = es }) r.hand r).fresh ≤ h.n + 1
        → Outcome h card g (upd g e) (suc k) b lo hi e.stamp (place_if h e.stamp (record { number = b; entries = es }) r.hand r)
    unfolding place_if
    up r lf (inl c) = subst (λ z. (place_if h e.stamp (record { number = b; entries = es }) z r).fresh ≤ h.n + 1
        → Outcome h card g (upd g e) (suc k) b lo hi e.stamp (place_if h e.stamp (record { number = b; entries = es }) z r)) (sym c.0)
        (λ cap. inl (c.0, closed-up r.card r.fresh c.1))
    up r lf (inr (inl c)) = subst (λ z. (place_if h e.stamp (record { number = b; entries = es }) z r).fresh ≤ h.n + 1
        → Outcome h card g (upd g e) (suc k) b lo hi e.stamp (place_if h e.stamp (record { number = b; entries = es }) z r)) (sym c.1)
        (place-level h card g (upd g e) (suc k) b lo hi e.stamp r es (one_up r c.0 lf c.1 c.2))
    up r lf (inr (inr c)) = subst (λ z. (place_if h e.stamp (record { number = b; entries = es }) z r).fresh ≤ h.n + 1
        → Outcome h card g (upd g e) (suc k) b lo hi e.stamp (place_if h e.stamp (record { number = b; entries = es }) z r)) (sym c.2)
        (place-level h card g (upd g e) (suc k) b lo hi e.stamp r es (two_up r c.0 c.1 lf c.2 c.3))

  pub climb-tree : (k b lo hi f : ℕ) → Tree (bucket h card) g k b lo hi → lo < hi → hi ≤ 4294967296 → lo ≤ e.key → e.key < hi → k < f
      → Climbs h card g e f0 t k b lo hi f
  unfolding climb met
  climb-tree k b lo hi zero tr lt h32 le lh kf = absurd (omega arith)
  climb-tree zero b lo hi (suc f) tr lt h32 le lh kf = leaf-level b lo hi f tr lt h32 le lh
  climb-tree (suc k) b lo hi (suc f) tr lt h32 le lh kf =
      let c = tr.3 e.key le lh in
      let es = tr.0 in
      let dl = follow-le e.key es c.0 c.1 in
      let ug = upper-gt e.key es hi lh in
      let ul = upper-le e.key es hi in
      let ih = climb-tree k c.0.value c.0.key (upper e.key es hi) f c.2 (omega arith) (omega arith) dl ug (omega arith) in
      let r = climb h e.stamp ih.0 (start card e f0) in
      let v : Visit = record { number = b; entries = es } in (
        v ∷ ih.0,
        path-index (bucket h card) g t early k b lo hi e.key f tr c.0 c.1 ∙ rw ih.1,
        λ cap.
            let cf = climb-mono h e.stamp ih.0 (start card e f0) in
            let pf = place_if-fresh h e.stamp v r.hand r in
            up k b lo hi tr lt h32 le lh r (omega arith) (ih.2 (omega arith)) cap,
      )
