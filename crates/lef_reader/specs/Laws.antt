-- Laws of the grammar, in the words of the LEF reference.
use Rattle.std.specs.Prelude.{◌≡◌, ◌++◌, true, false, List, [], ◌∷◌, ℕ, None, Ok, Err, codes, map}
use Rattle.std.specs.List.{AllByRecursion, flat_map}
use Rattle.ld_words.specs.declared.word.Word.{Word}
use Rattle.ld_words.specs.Reading.{Ending, Reading as WordsRead}
use Rattle.lef_forms.specs.declared.keyword.Keyword.TheVariants as keyword
use Rattle.lef_forms.specs.Forms.{form_of}
use Rattle.lef_forms.specs.Keywords.{is}
use Rattle.ld_forms.specs.Names.{is_name, is_orientation, is_via_name}
use Rattle.lef_drafts.specs.declared.draft.Draft.{Draft}
use Rattle.lef_drafts.specs.declared.draft.Draft.TheVariants as draft
use Rattle.ld_forms.specs.Places.{is_semicolon}
use Rattle.ld_reader.specs.declared.reader.Reader.{Reader}
use Rattle.ld_reader.specs.Laws.{run}
use Rattle.ld_reader.specs.Reading.{at}
use Rattle.lef_forms.specs.declared.class.Class.{Class}
use Rattle.lef_forms.specs.declared.form.Statement.{Statement}
use Rattle.lef_forms.specs.declared.kind.LefKind.TheVariants as kind
use Rattle.lef_reader.specs.declared.so_far.SoFar.{SoFar}
use Rattle.lef_tree.specs.declared.tree.LefItem.{LefItem}
use Rattle.lef_tree.specs.declared.tree.LefItem.TheVariants as item
use Rattle.lef_tree.specs.declared.tree.LefLayer.{LefLayer}
use Rattle.lef_tree.specs.declared.tree.LefSite.{LefSite}
use Rattle.lef_drafts.specs.Drafts.{section_of}
use Rattle.lef_reader.specs.MacroSpelling.{AreShapes, Counted, IsMacroLine, IsPinLine, MacroLine, PinLine, Shapes, ViaHeader, macro_of, macro_text, macro_with, macro_words, pin_of, pin_text, via_of, via_text, with_named_pin}
use Rattle.lef_reader.specs.Reading.{Answer, counted, left_of, lef_of, rules}
use Rattle.lef_reader.specs.Spelling.{AreOther, IsLayerLine, IsPassedOver, IsSiteLine, LayerLine, SiteLine, layer_of, layer_text, layer_with, layer_words, semicolon, site_of, site_text, site_with, site_words}
use Rattle.lef_reader.specs.TextSpelling.{IsPart, TextPart, part_words, tree_spelled}
use Rattle.lef_drafts.specs.Values.{Words}

-- between statements of a text that goes on
abbrev pub in_text : SoFar → Reader SoFar Class Statement
in_text so_far = at (record so_far { done = false })

-- a text has one answer
abbrev pub AnswersAreOne : Type 0
AnswersAreOne = (text : WordsRead) (one other : Answer) → lef_of text ≡ one → lef_of text ≡ other → one ≡ other

-- between statements, these words lead from what was read before them to what is read then, whatever follows
abbrev pub Reads : SoFar → Words → SoFar → Type 0
Reads before words next = (rest : Words) → run rules (in_text before) (words ++ rest) ≡ run rules (in_text next) rest

-- with this section open
abbrev pub with_draft : SoFar → Draft → SoFar
with_draft so_far d = record so_far { draft = d }

-- at the top, with one more item
abbrev pub with_item : SoFar → LefItem → SoFar
with_item so_far i = record so_far { items = so_far.items ++ i ∷ []; draft = draft.Top }

-- a statement of a layer changes what it says, and nothing else
abbrev pub LayerLinesAreRead : Type 0
LayerLinesAreRead = (so_far : SoFar) (layer : LefLayer) (line : LayerLine) → IsLayerLine line
    → Reads (with_draft so_far (draft.Layer layer)) (layer_words line) (with_draft so_far (draft.Layer (layer_with layer line)))

-- a layer of any statements in any order is read as that layer
abbrev pub LayersAreRead : Type 0
LayersAreRead = (so_far : SoFar) (name : List ℕ) (lines : List LayerLine) → is_name name ≡ true → AllByRecursion IsLayerLine lines
    → Reads (with_draft so_far draft.Top) (layer_text name lines) (with_item so_far (item.Layer (layer_of name lines)))

-- a statement of a site changes what it says, and nothing else
abbrev pub SiteLinesAreRead : Type 0
SiteLinesAreRead = (so_far : SoFar) (site : LefSite) (line : SiteLine) → IsSiteLine line
    → Reads (with_draft so_far (draft.Site site)) (site_words line) (with_draft so_far (draft.Site (site_with site line)))

-- a site of any statements in any order is read as that site
abbrev pub SitesAreRead : Type 0
SitesAreRead = (so_far : SoFar) (name : List ℕ) (lines : List SiteLine) → is_name name ≡ true → AllByRecursion IsSiteLine lines
    → Reads (with_draft so_far draft.Top) (site_text name lines) (with_item so_far (item.Site (site_of name lines)))

-- a statement that begins with a word of no row changes nothing but the count
abbrev pub OthersArePassedOver : Type 0
OthersArePassedOver = (so_far : SoFar) (first : List ℕ) (others : Words)
    → is keyword.End first ≡ false → is_semicolon first ≡ false → form_of (section_of so_far.draft) first ≡ None → AreOther others
    → Reads so_far (first ∷ others ++ semicolon ∷ []) (counted so_far)

-- so does any part that is passed over
abbrev pub PartsArePassedOver : Type 0
PartsArePassedOver = (so_far : SoFar) (first : List ℕ) (words : Words) → IsPassedOver (section_of so_far.draft) first words
    → Reads so_far (first ∷ words) (counted so_far)

-- a via of any shapes is read as that via
abbrev pub ViasAreRead : Type 0
ViasAreRead = (so_far : SoFar) (name : List ℕ) (header : ViaHeader) (more : List Shapes) → is_via_name name ≡ true → AllByRecursion AreShapes more
    → Reads (with_draft so_far draft.Top) (via_text name header more) (with_item so_far (item.Via (via_of name header more)))

-- the word of an orientation is no name where that of a via is due, and the fault is at it
abbrev pub OrientationsNameNoVia : Type 0
OrientationsNameNoVia = (so_far : SoFar) (word : List ℕ) (rest : Words) → is_orientation word ≡ true
    → run rules (in_text (with_draft so_far draft.Top)) (codes "VIA" ∷ word ∷ rest) ≡ Err kind.BadName

-- with this macro open, and so many parts that were passed over or left out
abbrev pub in_macro : SoFar → Counted → SoFar
in_macro so_far m = record so_far { passed = m.1; draft = draft.Macro m.0 }

-- a pin of any statements in any order is read as that pin, and left out where the macro has one of its name
abbrev pub PinsAreRead : Type 0
PinsAreRead = (so_far : SoFar) (m : Counted) (name : List ℕ) (lines : List PinLine) → is_name name ≡ true → AllByRecursion IsPinLine lines
    → Reads (in_macro so_far m) (pin_text name lines) (in_macro so_far (with_named_pin m (pin_of name lines)))

-- a statement of a macro, or a section in it, changes what it says, and nothing else
abbrev pub MacroLinesAreRead : Type 0
MacroLinesAreRead = (so_far : SoFar) (m : Counted) (line : MacroLine) → IsMacroLine line
    → Reads (in_macro so_far m) (macro_words line) (in_macro so_far (macro_with m line))

-- at the top, with one more macro
abbrev pub with_macro : SoFar → Counted → SoFar
with_macro so_far m = record so_far { items = so_far.items ++ item.Macro m.0 ∷ []; passed = m.1; draft = draft.Top }

-- a macro of any statements in any order is read as that macro
abbrev pub MacrosAreRead : Type 0
MacrosAreRead = (so_far : SoFar) (name : List ℕ) (lines : List MacroLine) → is_name name ≡ true → AllByRecursion IsMacroLine lines
    → Reads (with_draft so_far draft.Top) (macro_text name lines) (with_macro so_far (macro_of name so_far.passed lines))

-- a text of any such sections in any order, and then END LIBRARY and whatever behind it, has the tree that they say
abbrev pub TextsAreRead : Type 0
TextsAreRead = (parts : List TextPart) (words more : List Word) (ending : Ending) → AllByRecursion IsPart parts
    → map (λ w. w.bytes) words ≡ flat_map part_words parts ++ codes "END" ∷ codes "LIBRARY" ∷ []
    → lef_of (record { words = words ++ more; ending = ending }) ≡ Ok (tree_spelled parts)

-- and what stands behind END LIBRARY is left
abbrev pub WordsBehindAreLeft : Type 0
WordsBehindAreLeft = (parts : List TextPart) (words more : List Word) (ending : Ending) → AllByRecursion IsPart parts
    → map (λ w. w.bytes) words ≡ flat_map part_words parts ++ codes "END" ∷ codes "LIBRARY" ∷ []
    → left_of (record { words = words ++ more; ending = ending }) ≡ record { words = more; ending = ending }
