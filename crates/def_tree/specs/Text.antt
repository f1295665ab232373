-- The one text of a tree.
use Rattle.std.specs.Prelude.{◌++◌, List, [], ◌∷◌, ℕ}
use Rattle.std.specs.List.{flat_map}
use Rattle.ld_forms.specs.Kept.{joined}
use Rattle.def_tree.specs.declared.tree.DefTree.{DefTree}
use Rattle.def_tree.specs.Lines.{Line, lines_of}

-- a line: its words with one space between them, and a line feed
abbrev pub line_text : Line → List ℕ
line_text words = joined words ++ 10 ∷ []

-- the lines one after the other
abbrev pub text_of : DefTree → List ℕ
text_of tree = flat_map line_text (lines_of tree)
