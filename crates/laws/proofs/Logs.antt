-- The root log: what is read of it, by its sectors alone, and one more root entry at its end.
use Prim.Native.Nat.{◌+◌, ◌<◌, ◌≤◌, ℕ}
use mathlib.Core.Bool.{true}
use mathlib.Core.List.{List, [], ◌++◌, ◌∷◌}
use Rattle.std.specs.Prelude.{Some}
use mathlib.Core.Path.{◌∙◌, ◌≡◌, ap, sym}
use native.Mathlib.Omega.{arith}
use lib.ListN.{length}
use Rattle.rules.specs.declared.Entry.{Entry}
use Rattle.rules.specs.declared.Head.{Head}
use Rattle.rules.specs.Bucket.{log, log_blanks, run, sound_log}
use Rattle.rules.specs.Layout.{size_of}
use Rattle.rules.specs.Plain.{and_then, every}
use Rattle.rules.specs.Rewrite.{fill}
use Rattle.rules.specs.Sector.{is_root, sector_at}
use Rattle.laws.proofs.Blocks.{fill-run}
use Rattle.laws.proofs.Buckets.{every-snoc}
use Rattle.laws.proofs.Entries.{Fine}
use Rattle.laws.proofs.Run.{blanks-agree, run_agree}
use Rattle.laws.proofs.Tools.{guard-true, none-some, then-inv}

-- what is read of the log, by its sectors
sound_log-inv : (es gs : List Entry) → sound_log es ≡ Some gs → (es ≡ gs) × (every is_root gs ≡ true)
unfolding sound_log
sound_log-inv [] gs q = absurd (none-some q)
sound_log-inv (e ∷ es) gs q =
    let t = guard-true (every is_root (e ∷ es)) (e ∷ es) gs q in
    (t.1, ap (every is_root) (sym t.1) ∙ t.0)

pub log-raw : (h : Head) (card : List ℕ) (lg : List Entry) → log h card ≡ Some lg → (run h.n card 1 h.n ≡ Some lg) × (every is_root lg ≡ true)
unfolding log
log-raw h card lg q =
    let inv = then-inv (run h.n card 1 h.n) sound_log lg q in
    let s = sound_log-inv inv.0 lg inv.2 in
    (inv.1 ∙ ap Some s.0, s.1)

sound_log-snoc : (lg : List Entry) (r : Entry) → every is_root lg ≡ true → is_root r ≡ true → sound_log (lg ++ (r ∷ [])) ≡ Some (lg ++ (r ∷ []))
unfolding sound_log
sound_log-snoc [] r a b = rw (every-snoc is_root [] r a b)
sound_log-snoc (x ∷ lg) r a b = rw (every-snoc is_root (x ∷ lg) r a b)

-- one more root entry at the first blank
pub log-grows : (h : Head) (card : List ℕ) (lg : List Entry) (r : Entry) → size_of h ≡ length card → log h card ≡ Some lg → 1 ≤ length (log_blanks h card)
    → Fine h.n r → is_root r ≡ true → log h (fill card (log_blanks h card) (r ∷ [])) ≡ Some (lg ++ (r ∷ []))
unfolding log log_blanks size_of
log-grows h card lg r size q room fine root =
    let inv = log-raw h card lg q in
    rw (fill-run h.n card 1 h.n lg (r ∷ []) (fine, tt) (omega arith) room inv.0) (sound_log-snoc lg r inv.1 root)

pub log-same : (h : Head) (card card' : List ℕ) → ((j : ℕ) → j < 1 + h.n → sector_at card' j ≡ sector_at card j) → log h card' ≡ log h card
unfolding log
log-same h card card' f = ap (λ z. and_then z sound_log) (run_agree h.n card' card 1 h.n (λ j p q. f j (omega arith)))

pub log-blanks-same : (h : Head) (card card' : List ℕ) → ((j : ℕ) → j < 1 + h.n → sector_at card' j ≡ sector_at card j)
    → log_blanks h card' ≡ log_blanks h card
unfolding log_blanks
log-blanks-same h card card' f = blanks-agree card' card 1 h.n (λ j p q. f j (omega arith))
