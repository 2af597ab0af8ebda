-- The plain reading of a list of entries, in words of its own: nothing here is taken from the walk, so that a wrong walk cannot move both sides.
use Rattle.std.specs.Prelude.{ℕ, true, false, List, [], ◌∷◌, leb, eqb}
use Rattle.std.specs.Prelude.{Option, None, Some}
use Rattle.rules.specs.declared.Entry.{Entry}

-- the entries stamped t or earlier
unfoldable pub up_to : ℕ → List Entry → List Entry
up_to t [] = []
up_to t (e ∷ es) = elim (leb e.stamp t) [ true ↦ e ∷ up_to t es | false ↦ up_to t es ]

-- the entries for the bib
unfoldable pub entries_for : ℕ → List Entry → List Entry
entries_for bib [] = []
entries_for bib (e ∷ es) = elim (eqb e.key bib) [ true ↦ e ∷ entries_for bib es | false ↦ entries_for bib es ]

-- everything said of a bib up to t
unfoldable pub said_of : ℕ → ℕ → List Entry → List Entry
said_of bib t es = entries_for bib (up_to t es)

-- of an entry and the last one for the bib behind it: that one, or the entry itself if it is for the bib
unfoldable pub last_from : ℕ → Entry → Option Entry → Option Entry
last_from bib e None = elim (eqb e.key bib) [ true ↦ Some e | false ↦ None ]
last_from bib e (Some d) = Some d

-- the last entry for the bib
unfoldable pub last_for : ℕ → List Entry → Option Entry
last_for bib [] = None
last_for bib (e ∷ es) = last_from bib e (last_for bib es)

-- it stands if it is a post; a strike, or no entry, is none
unfoldable pub if_post : Option Entry → Option Entry
if_post None = None
if_post (Some e) = elim (eqb e.kind 1) [ true ↦ Some e | false ↦ None ]

-- what stands for a bib as of t: its last entry stamped t or earlier, if that is a post
unfoldable pub stands_as_of : ℕ → ℕ → List Entry → Option Entry
stands_as_of t bib es = if_post (last_for bib (up_to t es))

-- the stamp of the last entry, or s where there is none
unfoldable pub last_stamp : ℕ → List Entry → ℕ
last_stamp s [] = s
last_stamp s (e ∷ es) = last_stamp e.stamp es
