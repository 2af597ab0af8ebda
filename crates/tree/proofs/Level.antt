-- One level of a write: the hand goes into the bucket, or the bucket is made anew with it.
use mathlib.Core.Path.{◌∙◌, ◌≡◌, ap, ap₂, refl, subst, sym}
use mathlib.Core.Logic.{◌⊎◌, inl, inr, ⊎_elim}
use mathlib.Core.Bool.{Bool, false, true}
use Rattle.std.specs.Prelude.{Option, Some}
use Prim.Native.Nat.{◌+◌, ◌-◌, ◌/◌, ◌<◌, ◌≤◌, min, ℕ}
use native.Mathlib.Omega.{arith}
use mathlib.Core.List.{List, [], ◌++◌, ◌∷◌, append-nil}
use lib.ListN.{drop, length, length-append, length-drop, length-take, take, take-append-drop}
use borrow.Author.Tests.{le-leb, le-ltb, lt-leb, lt-ltb}
use Rattle.rules.specs.declared.Entry.{Entry}
use Rattle.rules.specs.declared.Head.{Head}
use Rattle.rules.specs.Bucket.{blanks_of, bucket}
use Rattle.rules.specs.Layout.{base}
use Rattle.rules.specs.Plain.{if}
use Rattle.rules.specs.Rewrite.{Rise, into, kept, key_of, limit_of, one_bucket, pair, renew, two_buckets}
use Rattle.rules.specs.Sector.{is_data, is_index}
use Rattle.rules.specs.Walk.{Visit, copy_of}
use Rattle.rules.specs.Write.{place}
use Rattle.laws.proofs.Tools.{eq-or-ne, le-or-lt}
use Rattle.laws.proofs.Lists.{All, all_append, all_left, all_map, all_right, copy-all}
use Rattle.laws.proofs.Entries.{Good, Fine, pair-fine}
use Rattle.laws.proofs.Blocks.{blank-room}
use Rattle.laws.proofs.Bytes.{run-good}
use Rattle.laws.proofs.Halves.{Sorted, kept-all, kept-length, kept-sorted, sorted-high, sorted-low}
use Rattle.laws.proofs.Buckets.{bucket-length, bucket-raw}
use Rattle.laws.proofs.Heads.{Lim}
use Rattle.laws.proofs.Into.{block-else}
use Rattle.tree.proofs.AsOf.{Late}
use Rattle.tree.proofs.Tree.{HeadIs, Shape, Span, Tree, tree-fresh}
use Rattle.tree.proofs.Content.{Content, content-frame, content-fresh, content-high, content-kept, content-low, is_idx, shape-sound, tree-make}
use Rattle.tree.proofs.Outcome.{Closed, Mark, One, Outcome, Two, Unmarked, kept-marked, key_of-head, shape-kept, unmarked?}
use Rattle.tree.proofs.Ready.{Ready, fresh-bucket, join-bucket}

zip-span : (i : Bool) (lo hi m : ℕ) (es : List Entry) → All (Span i lo hi) es → All (λ e. e.key < m) es → All (Span i lo m) es
zip-span i lo hi m [] a b = tt
zip-span i lo hi m (e ∷ es) a b = ((a.0.0, a.0.1, b.0, a.0.3), zip-span i lo hi m es a.1 b.1)

zip-span2 : (i : Bool) (lo hi m : ℕ) (es : List Entry) → All (Span i lo hi) es → All (λ e. m ≤ e.key) es → All (Span i m hi) es
zip-span2 i lo hi m [] a b = tt
zip-span2 i lo hi m (e ∷ es) a b = ((a.0.0, b.0, a.0.2, a.0.3), zip-span2 i lo hi m es a.1 b.1)

-- what is known of a level before the hand is placed
pub record Before (h : Head) (card : List ℕ) (g g' : ℕ → Option Entry) (k b lo hi s : ℕ) (r : Rise) (es : List Entry) : Type 0 where
  pub lim : Lim h
  pub same1 : (c : ℕ) (cs : List Entry) → bucket h card c ≡ Some cs → bucket h r.card c ≡ Some cs
  pub late : Late s r.hand
  pub added : ((p : Entry) × (copy_of p.key (es ++ r.hand) ≡ Some p) × (p.stamp ≡ s) × (is_data p ≡ true)) ⊎ Mark s (bucket h r.card)
  pub ready1 : Ready h r.card r.fresh
  pub fresh1 : 1 ≤ r.fresh
  pub here : bucket h card b ≡ Some es
  pub old : Tree (bucket h card) g k b lo hi
  pub range : (lo < hi) × (hi ≤ 4294967296) × (s < 4294967296)
  pub heads : HeadIs lo es
  pub shape : Shape (is_idx k) lo hi (es ++ r.hand)
  pub content : Content (bucket h r.card) g' k (es ++ r.hand) lo hi
  pub good : Good h.n r.hand
  pub atmost : length r.hand ≤ 2

module _ (h : Head) (card : List ℕ) (g g' : ℕ → Option Entry) (k b lo hi s : ℕ) (r : Rise) (es : List Entry) (bf : Before h card g g' k b lo hi s r es) where
  abbrev card1 : List ℕ
  card1 = r.card

  room : length r.hand ≤ length (blanks_of h card1 b) → Closed h card (into h b r.hand card1) g g' k b lo hi s r.fresh
  room fits =
      let j = join-bucket h card1 r.fresh b es r.hand bf.ready1 bf.fresh1 (bf.same1 b es bf.here) fits bf.good
      (shape-sound (is_idx k) lo hi (es ++ r.hand) bf.shape) in
      let card2 = into h b r.hand card1 in
      record {
        ready = j.ready;
        grows = λ c cs q. ⊎_elim
            (λ cb. let e : cs ≡ es = cc (q, ap (bucket h card) cb, bf.here) in
            (r.hand, ap (bucket h card2) cb ∙ j.here ∙ ap (λ z. Some (z ++ r.hand)) (sym e), bf.late))
            (λ ne. ([], j.others c ne ∙ bf.same1 c cs q ∙ ap Some (sym (append-nil cs)), tt))
            (eq-or-ne c b);
        mark = ⊎_elim
            (λ (a : (p : Entry) × (copy_of p.key (es ++ r.hand) ≡ Some p) × (p.stamp ≡ s) × (is_data p ≡ true)).
            (b, es ++ r.hand, j.here, λ u. copy-all (λ e. is_data e ≡ true → e.stamp ≡ s → ⊥) a.0.key (es ++ r.hand) a.0 u a.1 a.3 a.2))
            (λ (m : Mark s (bucket h card1)). ⊎_elim
            (λ (cb : m.0 ≡ b). let e : m.1 ≡ es = cc (m.2, ap (bucket h card1) cb, bf.same1 b es bf.here) in
            (b, es ++ r.hand, j.here, λ u. m.3 (subst (Unmarked s) (sym e) (all_left (λ d. is_data d ≡ true → d.stamp ≡ s → ⊥) es r.hand u))))
            (λ (ne : m.0 ≡ b → ⊥). (m.0, m.1, j.others m.0 ne ∙ m.2, m.3))
            (eq-or-ne m.0 b))
            bf.added;
        spot = b;
        height = k;
        low = lo;
        high = hi;
        spot-tree = bf.old;
        within = (omega arith, omega arith, bf.range.0, bf.range.0);
        same = λ c cs ne q. j.others c ne ∙ bf.same1 c cs q;
        tree = tree-make (bucket h card2) g' k b lo hi (es ++ r.hand) j.here bf.shape
            (content-frame (bucket h card1) (bucket h card2) g' g b k lo hi
            (tree-fresh (bucket h card) (bucket h card1) g bf.same1 k b lo hi bf.old) bf.range.0 (λ c cs ne q. j.others c ne ∙ q) lo hi (es ++ r.hand) bf.content);
      }

  -- the entries that are kept
  abbrev ks : List Entry
  ks = kept lo s (es ++ r.hand)

  ks-shape : Shape (is_idx k) lo hi ks
  ks-shape = shape-kept (is_idx k) lo hi s (es ++ r.hand) bf.shape

  ks-content : Content (bucket h card1) g' k ks lo hi
  ks-content = content-kept (bucket h card1) g' k lo hi lo s (es ++ r.hand) bf.shape bf.content

  es-good : Good h.n es
  es-good = run-good h.n card1 bf.ready1.bytes (base h b) h.m es (bucket-raw h card1 b es (bf.same1 b es bf.here)).1

  fine-all : All (Fine h.n) ks
  fine-all = kept-all (Fine h.n) lo s (es ++ r.hand)
      (all_append (Fine h.n) es r.hand es-good bf.good)

  ks-marked : (a : (p : Entry) × (copy_of p.key (es ++ r.hand) ≡ Some p) × (p.stamp ≡ s) × (is_data p ≡ true)) → Unmarked s ks → ⊥
  ks-marked a u = kept-marked lo s (es ++ r.hand) a.0 a.1 a.2 a.3 u

  -- the kept entries in one fresh bucket, or in two
  one : (b1 : ℕ) → r.fresh ≤ b1 → b1 ≤ h.n → length ks ≤ length (blanks_of h card1 b1)
      → One h card (into h b1 ks card1) g' k lo hi s (b1 + 1) (pair s b1 ks)
  unfolding pair is_index
  one b1 fb fn len =
      let f1 = bf.fresh1 in
      let nb = fresh-bucket h card1 r.fresh b1 ks bf.ready1 fb (omega arith) fn len fine-all (shape-sound (is_idx k) lo hi ks ks-shape) in
      let key = key_of-head lo ks ks-shape.0 in
      let rg = bf.range in
      let card2 = into h b1 ks card1 in
      record {
        opened = record {
          ready = nb.ready;
          mark = ⊎_elim
              (λ (a : (p : Entry) × (copy_of p.key (es ++ r.hand) ≡ Some p) × (p.stamp ≡ s) × (is_data p ≡ true)). (b1, ks, nb.here, ks-marked a))
              (λ (m : Mark s (bucket h card1)). (m.0, m.1, nb.same m.0 m.1 m.2, m.3))
              bf.added;
          same = λ c cs q. nb.same c cs (bf.same1 c cs q);
        };
        pair1 = (key, refl, pair-fine h.n s b1 lo ks key (omega arith) rg.2 (omega arith) fn bf.lim.n4096, refl);
        tree1 = tree-make (bucket h card2) g' k b1 lo hi ks nb.here ks-shape
            (content-fresh (bucket h card1) (bucket h card2) g' nb.same k lo hi ks ks-content);
      }

  two : (x : Entry) (ls : List Entry) (d : Entry) (bs : List Entry) → ks ≡ (x ∷ ls) ++ (d ∷ bs) → (b1 b2 : ℕ) → r.fresh ≤ b1 → b1 < b2 → b2 ≤ h.n
      → length (x ∷ ls) ≤ length (blanks_of h card1 b1) → length (d ∷ bs) ≤ length (blanks_of h (into h b1 (x ∷ ls) card1) b2)
      → Two h card (into h b2 (d ∷ bs) (into h b1 (x ∷ ls) card1)) g' k lo hi s (b2 + 1) (pair s b1 (x ∷ ls)) (pair s b2 (d ∷ bs))
  unfolding pair is_index key_of
  two x ls d bs eq b1 b2 fb b12 fn len1 len2 =
      let f1 = bf.fresh1 in
      let as1 = x ∷ ls in
      let bs1 = d ∷ bs in
      let sh : Shape (is_idx k) lo hi (as1 ++ bs1) = subst (Shape (is_idx k) lo hi) eq ks-shape in
      let so : Sorted (as1 ++ bs1) = subst Sorted eq (kept-sorted lo s (es ++ r.hand)) in
      let cn : Content (bucket h card1) g' k (as1 ++ bs1) lo hi = subst (λ l. Content (bucket h card1) g' k l lo hi) eq ks-content in
      let fa : All (Fine h.n) (as1 ++ bs1) = subst (All (Fine h.n)) eq fine-all in
      let dspan = all_right (Span (is_idx k) lo hi) as1 bs1 sh.1 in
      let xd = sorted-low as1 d bs so in
      let rg = bf.range in
      let dlo = dspan.0.1 in
      let dhi = dspan.0.2 in
      let xk = sh.0 in
      let x0 = xd.0 in
      let sh1 : Shape (is_idx k) lo d.key as1 = (sh.0, zip-span (is_idx k) lo hi d.key as1 (all_left (Span (is_idx k) lo hi) as1 bs1 sh.1) xd) in
      let above = all_map (λ e. d.key < e.key) (λ e. d.key ≤ e.key) (λ e z. omega arith) bs (sorted-high as1 d bs so) in
      let sh2 : Shape (is_idx k) d.key hi bs1 = (refl, zip-span2 (is_idx k) lo hi d.key bs1 dspan (omega arith, above)) in
      let fb1 = fresh-bucket h card1 r.fresh b1 as1 bf.ready1 fb (omega arith) (omega arith) len1 (all_left (Fine h.n) as1 bs1 fa) (shape-sound (is_idx k) lo d.key as1 sh1) in
      let card2 = into h b1 as1 card1 in
      let fb2 = fresh-bucket h card2 (b1 + 1) b2 bs1 fb1.ready (omega arith) (omega arith) fn len2 (all_right (Fine h.n) as1 bs1 fa) (shape-sound (is_idx k) d.key hi bs1 sh2) in
      let card3 = into h b2 bs1 card2 in
      record {
        opened = record {
          ready = fb2.ready;
          mark = ⊎_elim
              (λ (i : (p : Entry) × (copy_of p.key (es ++ r.hand) ≡ Some p) × (p.stamp ≡ s) × (is_data p ≡ true)). ⊎_elim
              (λ (a : Unmarked s as1). (b2, bs1, fb2.here, λ b. ks-marked i (subst (Unmarked s) (sym eq) (all_append (λ e. is_data e ≡ true → e.stamp ≡ s → ⊥) as1 bs1 a b))))
              (λ (z : Unmarked s as1 → ⊥). (b1, as1, fb2.same b1 as1 fb1.here, z))
              (unmarked? s as1))
              (λ (m : Mark s (bucket h card1)). (m.0, m.1, fb2.same m.0 m.1 (fb1.same m.0 m.1 m.2), m.3))
              bf.added;
          same = λ c cs q. fb2.same c cs (fb1.same c cs (bf.same1 c cs q));
        };
        pair1 = (xk, refl, pair-fine h.n s b1 lo as1 xk (omega arith) rg.2 (omega arith) (omega arith) bf.lim.n4096, refl);
        mid = (omega arith, dhi);
        pair2 = (refl, refl, pair-fine h.n s b2 d.key bs1 refl (omega arith) rg.2 (omega arith) fn bf.lim.n4096, refl);
        tree1 = tree-fresh (bucket h card2) (bucket h card3) g' fb2.same k b1 lo d.key
            (tree-make (bucket h card2) g' k b1 lo d.key as1 fb1.here sh1
            (content-fresh (bucket h card1) (bucket h card2) g' fb1.same k lo d.key as1 (content-low (bucket h card1) g' k lo hi as1 d bs so dhi cn)));
        tree2 = tree-make (bucket h card3) g' k b2 d.key hi bs1 fb2.here sh2
            (content-fresh (bucket h card2) (bucket h card3) g' fb2.same k d.key hi bs1
            (content-fresh (bucket h card1) (bucket h card2) g' fb1.same k d.key hi bs1 (content-high (bucket h card1) g' k lo hi as1 d bs so dlo cn)));
      }

  abbrev here-visit : Visit
  here-visit = record { number = b; entries = es }

  limit : (2 ≤ limit_of h es) × (limit_of h es ≤ h.m)
  unfolding limit_of
  limit = go es
    where
      go : (xs : List Entry) → (2 ≤ limit_of h xs) × (limit_of h xs ≤ h.m)
      go [] = (bf.lim.td2, bf.lim.tdm)
      go (x ∷ xs) =
          elim (is_index x) as (λ i. (2 ≤ if i h.ti h.td) × (if i h.ti h.td ≤ h.m))
          [ true ↦ (let z = bf.lim.ti4 in omega arith, bf.lim.tim) | false ↦ (bf.lim.td2, bf.lim.tdm) ]

  abbrev Out : Rise → Type 0
  Out q = q.fresh ≤ h.n + 1 → Outcome h card g g' k b lo hi s q

  out-room : length r.hand ≤ length (blanks_of h card1 b) → Out (place h s here-visit r)
  unfolding place
  out-room le =
      let e : place h s here-visit r ≡ record { hand = []; fresh = r.fresh; card = into h b r.hand card1 }
      = rw (le-leb (length r.hand) (length (blanks_of h card1 b)) le) in
      subst (λ q. q.fresh ≤ h.n + 1 → Outcome h card g g' k b lo hi s q) (sym e) (λ cap. inl (refl, room le))

  place-renew : length (blanks_of h card1 b) < length r.hand → place h s here-visit r ≡ renew h s (limit_of h es) ks r
  unfolding place
  place-renew gt = rw (lt-leb (length r.hand) (length (blanks_of h card1 b)) gt, key_of-head lo es bf.heads)

  -- a fresh bucket has all its sectors blank
  fresh-room : (rise : Rise) (f c : ℕ) → Ready h rise.card f → f ≤ c → c ≤ h.n → length (blanks_of h rise.card c) ≡ h.m
  unfolding blanks_of
  fresh-room rise f c rdy fc cn = blank-room h.n rise.card (base h c) h.m (rdy.blank c fc cn)

  -- and so has the next one, when one is filled
  fresh-again : (f : ℕ) (xs : List Entry) (c : ℕ) → r.fresh ≤ f → f < c → c ≤ h.n → length (blanks_of h (into h f xs card1) c) ≡ h.m
  unfolding blanks_of
  fresh-again f xs c rf fc cn =
      let f1 = bf.fresh1 in
      blank-room h.n (into h f xs card1) (base h c) h.m
      (block-else h card1 bf.ready1.size f (omega arith) (omega arith) xs c (omega arith) (λ z. omega arith) ∙ bf.ready1.blank c (omega arith) cn)

  out_one : length ks < limit_of h es → Out (renew h s (limit_of h es) ks r)
  unfolding renew one_bucket
  out_one lt =
      let e : renew h s (limit_of h es) ks r ≡ one_bucket h s ks r = rw (lt-ltb (length ks) (limit_of h es) lt) in
      subst (λ q. q.fresh ≤ h.n + 1 → Outcome h card g g' k b lo hi s q) (sym e)
      (λ cap. let l = limit.1 in
      let fr = fresh-room r r.fresh r.fresh bf.ready1 (omega arith) (omega arith) in
      inr (inl (pair s r.fresh ks, refl, one r.fresh (omega arith) (omega arith) (omega arith))))

  out-two : (j : ℕ) → j ≡ length ks - length ks / 2 → 2 ≤ length ks → length ks ≤ h.m + 2 → (ls bs : List Entry) → take j ks ≡ ls → drop j ks ≡ bs
      → Out (two_buckets h s ls bs r)
  unfolding two_buckets
  out-two j jj l2 lm ls bs te de cap =
      go ls bs (sym (take-append-drop j ks) ∙ ap₂ ◌++◌ te de) (sym (ap length te) ∙ length-take j ks) (sym (ap length de) ∙ length-drop j ks) cap
    where
      go : (ls bs : List Entry) → ks ≡ ls ++ bs → length ls ≡ min j (length ks) → length bs ≡ length ks - j → (two_buckets h s ls bs r).fresh ≤ h.n + 1
          → Outcome h card g g' k b lo hi s (two_buckets h s ls bs r)
      go [] bs e a c cap = absurd (omega arith)
      go (x ∷ ls) [] e a c cap = absurd (omega arith)
      go (x ∷ ls) (d ∷ bs) e a c cap =
          let m4 = bf.lim.m4 in
          let f = r.fresh in
          let fr = fresh-room r f f bf.ready1 (omega arith) (omega arith) in
          let t = two x ls d bs e f (f + 1) (omega arith) (omega arith) (omega arith) (omega arith) in
          let again = fresh-again f (x ∷ ls) (f + 1) (omega arith) (omega arith) (omega arith) in
          let ff : f + 1 + 1 ≡ f + 2 = omega arith in
          inr (inr (
            pair s f (x ∷ ls),
            pair s (f + 1) (d ∷ bs),
            refl,
            subst (λ z. Two h card (into h (f + 1) (d ∷ bs) (into h f (x ∷ ls) card1)) g' k lo hi s z (pair s f (x ∷ ls)) (pair s (f + 1) (d ∷ bs))) ff
                (t (omega arith)),
          ))

  ks-length : length ks ≤ h.m + 2
  ks-length =
      let a = kept-length lo s (es ++ r.hand) in
      let b2 = length-append es r.hand in
      let c = bucket-length h card b es bf.here in
      let d = bf.atmost in
      omega arith

  pub place-level : Out (place h s here-visit r)
  unfolding renew
  place-level =
      ⊎_elim out-room
      (λ gt. subst Out (sym (place-renew gt))
      (⊎_elim
      (λ le. let l = limit.0 in
      let e : renew h s (limit_of h es) ks r ≡ two_buckets h s (take (length ks - length ks / 2) ks) (drop (length ks - length ks / 2) ks) r
      = rw (le-ltb (length ks) (limit_of h es) le) in
      subst Out (sym e) (out-two (length ks - length ks / 2) refl (omega arith) ks-length (take (length ks - length ks / 2) ks) (drop (length ks - length ks / 2) ks) refl refl))
      out_one
      (le-or-lt (limit_of h es) (length ks))))
      (le-or-lt (length r.hand) (length (blanks_of h card1 b)))
