-- A level built from nothing: entries in key order go into fresh buckets, and the pairs of these buckets speak for them.
use mathlib.Core.Path.{◌≡◌, refl, sym, ◌∙◌, subst}
use mathlib.Core.Logic.{⊎_elim}
use mathlib.Core.Bool.{true}
use Rattle.std.specs.Prelude.{Option, Some}
use Prim.Native.Nat.{ℕ, zero, suc, ◌+◌, ◌-◌, ◌≤◌, ◌<◌, min}
use native.Mathlib.Omega.{arith}
use mathlib.Core.List.{List, [], ◌∷◌, ◌++◌, append-nil}
use lib.ListN.{length, take, drop, take-append-drop, length-take, length-drop}
use borrow.Author.Tests.{le-leb, le-ltb}
use Rattle.rules.specs.declared.Entry.{Entry}
use Rattle.rules.specs.declared.Head.{Head}
use Rattle.rules.specs.Bucket.{bucket, blanks_of}
use Rattle.rules.specs.Layout.{base}
use Rattle.rules.specs.Plain.{only, larger, largest}
use Rattle.rules.specs.Rewrite.{into, pair}
use Rattle.rules.specs.Season.{parts, filled, pairs_from}
use Rattle.rules.specs.Sector.{sector_at, is_index}
use Rattle.rules.specs.Walk.{follow}
use Rattle.laws.proofs.Blocks.{blank-room}
use Rattle.laws.proofs.Entries.{Fine, pair-fine}
use Rattle.laws.proofs.Halves.{Sorted, follow-low, follow-high, upper-low, upper-high, sorted-low, sorted-high}
use Rattle.laws.proofs.Heads.{Lim}
use Rattle.laws.proofs.Lists.{All, all_map, all_both, all_left, all_right, follow-gap, upper}
use Rattle.laws.proofs.Tools.{le-or-lt}
use Rattle.tree.proofs.Content.{Content, is_idx, tree-make, content-low, content-high, content-fresh, shape-sound}
use Rattle.tree.proofs.Outcome.{key_of-head}
use Rattle.tree.proofs.Ready.{Ready, Fresh, fresh-bucket}
use Rattle.tree.proofs.Tree.{Reading, Span, HeadIs, Shape, Tree, Kids, tree-fresh, some_inj}

one-follow : (x : ℕ) (p : Entry) → p.key ≤ x → follow x (p ∷ []) ≡ Some p
unfolding follow only largest larger
one-follow x p le = rw (le-leb p.key x le)

one-upper : (x : ℕ) (p : Entry) (u : ℕ) → p.key ≤ x → upper x (p ∷ []) u ≡ u
unfolding upper
one-upper x p u le = rw (le-ltb x p.key le)

-- index entries, one more before the others
kids-cons : (rd : Reading) (g : ℕ → Option Entry) (k lo d hi : ℕ) (p : Entry) (ps : List Entry) → p.key ≡ lo → lo < d → d < hi → HeadIs d ps → Sorted ps
    → Tree rd g k p.value lo d → Kids rd g k ps d hi → Kids rd g k (p ∷ ps) lo hi
kids-cons rd g k lo d hi p [] pk ld dh hd so tp ks = absurd hd
kids-cons rd g k lo d hi p (c ∷ bs) pk ld dh hd so tp ks = λ x lx xh.
    ⊎_elim
    (λ (le : d ≤ x).
    let e = ks x le xh in
    let ge = (follow-gap x (c ∷ bs) e.0 e.1).0 (omega arith) in
    (e.0, follow-high x (p ∷ []) (c ∷ bs) e.0 e.1 (omega arith, tt), rw (upper-high x (p ∷ []) (c ∷ bs) hi (omega arith, tt)) e.2))
    (λ (gt : x < d).
    let later = all_map (λ e. c.key < e.key) (λ e. x < e.key) (λ e l. omega arith) bs so.0 in (
      p,
      follow-low x (p ∷ []) (c ∷ bs) (omega arith, later) ∙ one-follow x p (omega arith),
      rw (upper-low x (p ∷ []) c bs hi (omega arith) (omega arith) so.0, one-upper x p c.key (omega arith), hd, pk) tp,
    ))
    (le-or-lt d x)

kids-one : (rd : Reading) (g : ℕ → Option Entry) (k lo hi : ℕ) (p : Entry) → p.key ≡ lo → Tree rd g k p.value lo hi → Kids rd g k (p ∷ []) lo hi
kids-one rd g k lo hi p pk tp = λ x lx xh. (p, one-follow x p (omega arith), rw (one-upper x p hi (omega arith), pk) tp)

-- the only index entry leads to all
pub kids-single : (rd : Reading) (g : ℕ → Option Entry) (k lo hi : ℕ) (p : Entry) → p.key ≡ lo → lo < hi → Kids rd g k (p ∷ []) lo hi
    → Tree rd g k p.value lo hi
kids-single rd g k lo hi p pk lh ks =
    let c = ks lo (omega arith) lh in
    let e : p ≡ c.0 = some_inj (sym (one-follow lo p (omega arith)) ∙ c.1) in
    let t : Tree rd g k p.value p.key hi = rw (← e, one-upper lo p hi (omega arith)) at c.2 in
    rw pk at t

head-left : (lo : ℕ) (ls bs : List Entry) → 1 ≤ length ls → HeadIs lo (ls ++ bs) → HeadIs lo ls
head-left lo [] bs n k = absurd (omega arith)
head-left lo (e ∷ ls) bs n k = k

head-lt : (lo d : ℕ) (ls : List Entry) → HeadIs lo ls → All (λ e. e.key < d) ls → lo < d
head-lt lo d [] k a = absurd k
head-lt lo d (e ∷ ls) k a = let z = a.0 in omega arith

sorted-left : (ls bs : List Entry) → Sorted (ls ++ bs) → Sorted ls
sorted-left [] bs s = tt
sorted-left (e ∷ ls) bs s = (all_left (λ d. e.key < d.key) ls bs s.0, sorted-left ls bs s.1)

sorted-right : (ls bs : List Entry) → Sorted (ls ++ bs) → Sorted bs
sorted-right [] bs s = s
sorted-right (e ∷ ls) bs s = sorted-right ls bs s.1

-- the pair of the bucket b comes first
abbrev pub FirstAt : ℕ → List Entry → Type 0
FirstAt b [] = Unit {0}
FirstAt b (p ∷ ps) = p.value ≡ b

-- an entry stamped s can be read
abbrev pub Stamped : ℕ → Reading → Type 0
Stamped s rd = (c : ℕ) × (cs : List Entry) × (rd c ≡ Some cs) × (All (λ e. e.stamp ≡ s → ⊥) cs → ⊥)

-- the entries es, in key order, are to go into buckets from b on
pub record Hand (h : Head) (card : List ℕ) (g : ℕ → Option Entry) (s b k lo hi : ℕ) (es : List Entry) : Type 0 where
  pub ready : Ready h card b
  pub one : 1 ≤ b
  pub shape : Shape (is_idx k) lo hi es
  pub sorted : Sorted es
  pub content : Content (bucket h card) g k es lo hi
  pub fine : All (Fine h.n) es

-- they are there, and the pairs ps speak for them
pub record Row (h : Head) (card card' : List ℕ) (g : ℕ → Option Entry) (s b k lo hi f : ℕ) (es ps : List Entry) : Type 0 where
  pub ready : Ready h card' f
  pub front : (j : ℕ) → j < 1 + h.n → sector_at card' j ≡ sector_at card j
  pub same : (c : ℕ) (cs : List Entry) → bucket h card c ≡ Some cs → bucket h card' c ≡ Some cs
  pub content : Kids (bucket h card') g k ps lo hi
  pub shape : Shape true lo hi ps
  pub sorted : Sorted ps
  pub fine : All (Fine h.n) ps
  pub stamps : All (λ e. e.stamp ≡ s) ps
  pub first : FirstAt b ps
  pub next : f ≡ b + length ps
  pub stamped : All (λ e. e.stamp ≡ s) es → Stamped s (bucket h card')

pub parts-nil : (q f : ℕ) → parts q f [] ≡ []
unfolding parts
parts-nil q zero = refl
parts-nil q (suc f) = refl

pair_is : (s b : ℕ) (es : List Entry) (lo hi : ℕ) → HeadIs lo es → lo < hi
    → Span true lo hi (pair s b es) × ((pair s b es).key ≡ lo) × ((pair s b es).stamp ≡ s) × ((pair s b es).value ≡ b)
unfolding pair is_index
pair_is s b es lo hi hd lh = let k = key_of-head lo es hd in ((refl, omega arith, omega arith, refl), k, refl, refl)

some-stamped : (s : ℕ) (es : List Entry) → 1 ≤ length es → All (λ e. e.stamp ≡ s) es → All (λ e. e.stamp ≡ s → ⊥) es → ⊥
some-stamped s [] n a u = omega arith
some-stamped s (e ∷ es) n a u = u.0 a.0

module _ (h : Head) (lim : Lim h) (g : ℕ → Option Entry) (s q : ℕ) (s32 : s < 4294967296) (qm : q ≤ h.m) where
  -- one bucket with the first part
  abbrev Laying : List ℕ → ℕ → ℕ → ℕ → ℕ → List Entry → Type 0
  Laying card b k lo hi part =
      Fresh h card (into h b part card) b part × Tree (bucket h (into h b part card)) g k b lo hi

  lay-part : (card : List ℕ) (b k lo hi : ℕ) (part : List Entry) → Hand h card g s b k lo hi part → b ≤ h.n → length part ≤ q
      → Laying card b k lo hi part
  unfolding blanks_of
  lay-part card b k lo hi part i bn len =
      let room = blank-room h.n card (base h b) h.m (i.ready.blank b (omega arith) bn) in
      let fb = fresh-bucket h card b b part i.ready (omega arith) i.one bn (omega arith) i.fine (shape-sound (is_idx k) lo hi part i.shape) in
      let card1 = into h b part card in (
        fb,
        tree-make (bucket h card1) g k b lo hi part fb.here i.shape (content-fresh (bucket h card) (bucket h card1) g fb.same k lo hi part i.content),
      )

  row_last : (card : List ℕ) (b k lo hi : ℕ) (part : List Entry) → Hand h card g s b k lo hi part → hi ≤ 4294967296 → lo < hi → b ≤ h.n
      → length part ≤ q → 1 ≤ length part
      → Row h card (into h b part card) g s b k lo hi (b + 1) part (pair s b part ∷ [])
  row_last card b k lo hi part i hm lh bn len pos =
      let l = lay-part card b k lo hi part i bn len in
      let p = pair_is s b part lo hi i.shape.0 lh in
      let card1 = into h b part card in
      record {
        ready = l.0.ready;
        front = l.0.front;
        same = l.0.same;
        content = kids-one (bucket h card1) g k lo hi (pair s b part) p.1 (rw p.3 l.1);
        shape = (p.1, (p.0, tt));
        sorted = (tt, tt);
        fine = (pair-fine h.n s b lo part (key_of-head lo part i.shape.0) (omega arith) s32 i.one bn lim.n4096, tt);
        stamps = (p.2, tt);
        first = p.3;
        next = omega arith;
        stamped = λ a. (b, part, l.0.here, some-stamped s part pos a);
      }

  -- the first part, of entries that go on with d
  part-hand : (card : List ℕ) (b k lo hi : ℕ) (part : List Entry) (d : Entry) (bs : List Entry) → Hand h card g s b k lo hi (part ++ (d ∷ bs))
      → 1 ≤ length part → Hand h card g s b k lo d.key part
  part-hand card b k lo hi part d bs i pos =
      let sp = (all_right (Span (is_idx k) lo hi) part (d ∷ bs) i.shape.1).0 in
      let dh = sp.2 in
      record {
        ready = i.ready;
        one = i.one;
        shape = (
          head-left lo part (d ∷ bs) pos i.shape.0,
          all_map (λ e. Span (is_idx k) lo hi e × (e.key < d.key)) (Span (is_idx k) lo d.key) (λ e z. (z.0.0, z.0.1, z.1, z.0.3)) part
              (all_both (Span (is_idx k) lo hi) (λ e. e.key < d.key) part
              (all_left (Span (is_idx k) lo hi) part (d ∷ bs) i.shape.1) (sorted-low part d bs i.sorted)),
        );
        sorted = sorted-left part (d ∷ bs) i.sorted;
        content = content-low (bucket h card) g k lo hi part d bs i.sorted dh i.content;
        fine = all_left (Fine h.n) part (d ∷ bs) i.fine;
      }

  -- the entries from d on, with the first part in its bucket
  rest-hand : (card : List ℕ) (b k lo hi : ℕ) (part : List Entry) (d : Entry) (bs : List Entry) → Hand h card g s b k lo hi (part ++ (d ∷ bs))
      → Fresh h card (into h b part card) b part → Hand h (into h b part card) g s (b + 1) k d.key hi (d ∷ bs)
  rest-hand card b k lo hi part d bs i fb =
      let card1 = into h b part card in
      let one = i.one in
      let sp = all_right (Span (is_idx k) lo hi) part (d ∷ bs) i.shape.1 in
      let dl = sp.0.1 in
      record {
        ready = fb.ready;
        one = omega arith;
        shape = (
          refl,
          all_map (λ e. Span (is_idx k) lo hi e × (d.key ≤ e.key)) (Span (is_idx k) d.key hi) (λ e z. (z.0.0, z.1, z.0.2, z.0.3)) (d ∷ bs)
              (all_both (Span (is_idx k) lo hi) (λ e. d.key ≤ e.key) (d ∷ bs) sp
              (omega arith, all_map (λ e. d.key < e.key) (λ e. d.key ≤ e.key) (λ e w. omega arith) bs (sorted-high part d bs i.sorted))),
        );
        sorted = sorted-right part (d ∷ bs) i.sorted;
        content = content-fresh (bucket h card) (bucket h card1) g fb.same k d.key hi (d ∷ bs)
            (content-high (bucket h card) g k lo hi part d bs i.sorted dl i.content);
        fine = all_right (Fine h.n) part (d ∷ bs) i.fine;
      }

  row_more : (card card' : List ℕ) (b k lo hi f : ℕ) (part : List Entry) (d : Entry) (bs ps : List Entry) → Hand h card g s b k lo hi (part ++ (d ∷ bs))
      → hi ≤ 4294967296 → 1 ≤ length part → length part ≤ q → b ≤ h.n
      → (Hand h (into h b part card) g s (b + 1) k d.key hi (d ∷ bs) → Row h (into h b part card) card' g s (b + 1) k d.key hi f (d ∷ bs) ps)
      → Row h card card' g s b k lo hi f (part ++ (d ∷ bs)) (pair s b part ∷ ps)
  row_more card card' b k lo hi f part d bs ps i hm pos len bn rows =
      let pi = part-hand card b k lo hi part d bs i pos in
      let l = lay-part card b k lo d.key part pi bn len in
      let fb = l.0 in
      let card1 = into h b part card in
      let sp = (all_right (Span (is_idx k) lo hi) part (d ∷ bs) i.shape.1).0 in
      let dh = sp.2 in
      let ld = head-lt lo d.key part pi.shape.0 (sorted-low part d bs i.sorted) in
      let w = rows (rest-hand card b k lo hi part d bs i fb) in
      let p = pair_is s b part lo hi pi.shape.0 (omega arith) in
      record {
        ready = w.ready;
        front = λ j lt. w.front j lt ∙ fb.front j lt;
        same = λ c cs z. w.same c cs (fb.same c cs z);
        content = kids-cons (bucket h card') g k lo d.key hi (pair s b part) ps p.1 ld dh w.shape.0 w.sorted
            (rw p.3 (tree-fresh (bucket h card1) (bucket h card') g w.same k b lo d.key l.1)) w.content;
        shape = (
          p.1,
          (
            p.0,
            all_map (Span true d.key hi) (Span true lo hi) (λ e z. let a = z.1 in (z.0, omega arith, z.2, z.3)) ps w.shape.1,
          ),
        );
        sorted = (
          all_map (Span true d.key hi) (λ e. (pair s b part).key < e.key) (λ e z. let z1 = z.1 in let pk = p.1 in omega arith) ps w.shape.1,
          w.sorted,
        );
        fine = (pair-fine h.n s b lo part (key_of-head lo part pi.shape.0) (omega arith) s32 i.one bn lim.n4096, w.fine);
        stamps = (p.2, w.stamps);
        first = p.3;
        next = let n = w.next in omega arith;
        stamped = λ a. (b, part, w.same b part fb.here, some-stamped s part pos (all_left (λ e. e.stamp ≡ s) part (d ∷ bs) a));
      }

  abbrev Filled : ℕ → Type 0
  Filled f =
      (card : List ℕ) (b k lo hi : ℕ) (es : List Entry) → Hand h card g s b k lo hi es → hi ≤ 4294967296 → lo < hi → length es ≤ f
      → b + length (parts q f es) ≤ h.n + 1
      → Row h card (filled h b (parts q f es) card) g s b k lo hi (b + length (parts q f es)) es (pairs_from s b (parts q f es))

  row-add : (card : List ℕ) (b k lo hi : ℕ) (part rest : List Entry) (f : ℕ) → Filled f → Hand h card g s b k lo hi (part ++ rest)
      → hi ≤ 4294967296 → lo < hi → 1 ≤ length part → length part ≤ q → length rest ≤ f → b + 1 + length (parts q f rest) ≤ h.n + 1
      → Row h card (filled h (b + 1) (parts q f rest) (into h b part card)) g s b k lo hi (b + 1 + length (parts q f rest)) (part ++ rest)
      (pair s b part ∷ pairs_from s (b + 1) (parts q f rest))
  unfolding filled pairs_from
  row-add card b k lo hi part [] f rows i hm lh pos len lf cap =
      let i1 : Hand h card g s b k lo hi part = rw (append-nil part) at i in
      let nl = parts-nil q f in
      let e : b + 1 + 0 ≡ b + 1 = omega arith in
      rw (nl, append-nil part, e) (row_last card b k lo hi part i1 hm lh (omega arith) len pos)
  row-add card b k lo hi part (d ∷ bs) f rows i hm lh pos len lf cap =
      let sp = (all_right (Span (is_idx k) lo hi) part (d ∷ bs) i.shape.1).0 in
      let c = parts q f (d ∷ bs) in
      row_more card (filled h (b + 1) c (into h b part card)) b k lo hi (b + 1 + length c) part d bs (pairs_from s (b + 1) c) i hm pos len (omega arith)
      (λ j. rows (into h b part card) (b + 1) k d.key hi (d ∷ bs) j hm sp.2 lf cap)

  pub filled_row : (f : ℕ) → 1 ≤ q → Filled f
  unfolding parts filled pairs_from
  filled_row zero q1 card b k lo hi [] i hm lh len cap = absurd i.shape.0
  filled_row zero q1 card b k lo hi (e ∷ es) i hm lh len cap = absurd (omega arith)
  filled_row (suc f) q1 card b k lo hi [] i hm lh len cap = absurd i.shape.0
  filled_row (suc f) q1 card b k lo hi (e ∷ es) i hm lh len cap =
      let part = take q (e ∷ es) in
      let rest = drop q (e ∷ es) in
      let tad : part ++ rest ≡ e ∷ es = take-append-drop q (e ∷ es) in
      let lt : length part ≡ min q (length (e ∷ es)) = length-take q (e ∷ es) in
      let ld : length rest ≡ length (e ∷ es) - q = length-drop q (e ∷ es) in
      let c = parts q f rest in
      let n : b + 1 + length c ≡ b + suc (length c) = omega arith in
      let w = row-add card b k lo hi part rest f (filled_row f q1) (subst (Hand h card g s b k lo hi) (sym tad) i) hm lh
      (omega arith) (omega arith) (omega arith) (omega arith) in
      subst (λ z. Row h card (filled h (b + 1) c (into h b part card)) g s b k lo hi (b + suc (length c)) z (pair s b part ∷ pairs_from s (b + 1) c)) tad
      (subst (λ z. Row h card (filled h (b + 1) c (into h b part card)) g s b k lo hi z (part ++ rest) (pair s b part ∷ pairs_from s (b + 1) c)) n w)
