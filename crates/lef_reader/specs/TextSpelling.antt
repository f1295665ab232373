-- Texts spelled out by their sections, and what they say.
use Rattle.std.specs.Prelude.{◌≡◌, ◌++◌, true, List, [], ◌∷◌, ℕ, codes, fold, is_some, unwrap_or}
use Rattle.std.specs.List.{AllByRecursion}
use Rattle.ld_forms.specs.Names.{is_name, is_via_name, per_micron_in}
use Rattle.lef_tree.specs.declared.tree.LefItem.{LefItem}
use Rattle.lef_tree.specs.declared.tree.LefItem.TheVariants as item
use Rattle.lef_tree.specs.declared.tree.LefTree.{LefTree}
use Rattle.lef_reader.specs.MacroSpelling.{AreShapes, IsMacroLine, MacroLine, Shapes, ViaHeader, macro_of, macro_text, via_of, via_text}
use Rattle.lef_reader.specs.Spelling.{IsLayerLine, IsSiteLine, LayerLine, SiteLine, layer_of, layer_text, semicolon, site_of, site_text}
use Rattle.lef_drafts.specs.Values.{Words}

-- a section of a text
pub data TextPart : Type 0 where
  UnitsAre : List ℕ → TextPart
  LayerIs : List ℕ → List LayerLine → TextPart
  ViaIs : List ℕ → ViaHeader → List Shapes → TextPart
  SiteIs : List ℕ → List SiteLine → TextPart
  MacroIs : List ℕ → List MacroLine → TextPart

-- the words of a section
abbrev pub part_words : TextPart → Words
part_words (UnitsAre n) =
    codes "UNITS" ∷ codes "DATABASE" ∷ codes "MICRONS" ∷ n ∷ semicolon ∷ codes "END" ∷ codes "UNITS" ∷ []
part_words (LayerIs name lines) = layer_text name lines
part_words (ViaIs name header more) = via_text name header more
part_words (SiteIs name lines) = site_text name lines
part_words (MacroIs name lines) = macro_text name lines

-- its words are of their forms
abbrev pub IsPart : TextPart → Type 0
IsPart (UnitsAre n) = is_some (per_micron_in n) ≡ true
IsPart (LayerIs name lines) = (is_name name ≡ true) × AllByRecursion IsLayerLine lines
IsPart (ViaIs name header more) = (is_via_name name ≡ true) × AllByRecursion AreShapes more
IsPart (SiteIs name lines) = (is_name name ≡ true) × AllByRecursion IsSiteLine lines
IsPart (MacroIs name lines) = (is_name name ≡ true) × AllByRecursion IsMacroLine lines

-- a tree with one more item
abbrev pub tree_and : LefTree → LefItem → LefTree
tree_and tree i = record tree { items = tree.items ++ i ∷ [] }

-- what the section says of the text
abbrev pub tree_with : LefTree → TextPart → LefTree
tree_with tree (UnitsAre n) = tree_and tree (item.Units (unwrap_or (per_micron_in n) 0))
tree_with tree (LayerIs name lines) = tree_and tree (item.Layer (layer_of name lines))
tree_with tree (ViaIs name header more) = tree_and tree (item.Via (via_of name header more))
tree_with tree (SiteIs name lines) = tree_and tree (item.Site (site_of name lines))
tree_with tree (MacroIs name lines) =
    record { items = tree.items ++ item.Macro (macro_of name tree.passed lines).0 ∷ []; passed = (macro_of name tree.passed lines).1 }

-- the tree of no sections
abbrev pub empty_tree : LefTree
empty_tree = record { items = []; passed = 0 }

-- the tree after these sections
abbrev pub tree_spelled : List TextPart → LefTree
tree_spelled parts = fold tree_with empty_tree parts
