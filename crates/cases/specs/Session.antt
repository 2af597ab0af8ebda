-- The bench session of document 01: its eleven lines in, its eleven lines out, which the checker computes.
use Rattle.std.specs.Prelude.{ℕ, List, [], ◌∷◌, ◌++◌, T}
use Prim.Native.String.{String}
use Rattle.rules.specs.Bench.{text, bench}
use Rattle.rules.proofs.Lines.{same}

-- each text with its newline
abbrev sheet : List String → List ℕ
sheet [] = []
sheet (s ∷ ss) = text s ++ (text "\n" ++ sheet ss)

abbrev pub input : List ℕ
input =
    sheet
    ("op=format buckets=16 sectors=4 td=3 ti=4"
    ∷ "op=post bib=8 at=10 status=0 time=61230"
    ∷ "op=post bib=3 at=20 status=0 time=58900"
    ∷ "op=post bib=11 at=30 status=0 time=59990"
    ∷ "op=post bib=5 at=40 status=0 time=60000"
    ∷ "op=strike bib=8 at=50"
    ∷ "op=look bib=8 at=49"
    ∷ "op=look bib=8 at=50"
    ∷ "op=next bib=5 at=49"
    ∷ "op=next bib=5 at=50"
    ∷ "op=post bib=9 at=50 status=0 time=1"
    ∷ [])

abbrev pub output : List ℕ
output =
    sheet
    ("code=0 bib=0 at=0 status=0 time=0 reads=0"
    ∷ "code=0 bib=0 at=0 status=0 time=0 reads=0"
    ∷ "code=0 bib=0 at=0 status=0 time=0 reads=0"
    ∷ "code=0 bib=0 at=0 status=0 time=0 reads=0"
    ∷ "code=0 bib=0 at=0 status=0 time=0 reads=0"
    ∷ "code=0 bib=0 at=0 status=0 time=0 reads=0"
    ∷ "code=0 bib=8 at=10 status=0 time=61230 reads=2"
    ∷ "code=0 bib=8 at=0 status=0 time=0 reads=2"
    ∷ "code=0 bib=8 at=10 status=0 time=61230 reads=0"
    ∷ "code=0 bib=11 at=30 status=0 time=59990 reads=0"
    ∷ "code=3 bib=0 at=0 status=0 time=0 reads=0"
    ∷ [])

abbrev pub SessionAsSaid : Type 0
SessionAsSaid = T (same (bench input) output)
