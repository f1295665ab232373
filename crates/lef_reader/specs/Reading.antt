-- What the statements of a LEF text begin and set, and what the text holds.
use Rattle.std.specs.Prelude.{◌+◌, ◌-◌, ◌^◌, ◌++◌, ◌&&◌, Bool, true, false, List, [], ◌∷◌, ℕ, Option, Some, None, Result, Ok, Err, if◌then◌else◌, min}
use Rattle.ld_words.specs.Reading.{Reading as WordsRead}
use Rattle.ld_forms.specs.declared.passing.Extent.TheVariants as extent
use Rattle.ld_forms.specs.Places.{is_semicolon}
use Rattle.ld_reader.specs.declared.fault.TextFault.{TextFault}
use Rattle.ld_reader.specs.declared.language.Begun.{Begun}
use Rattle.ld_reader.specs.declared.language.Begun.TheVariants as begun
use Rattle.ld_reader.specs.declared.reader.Reader.{Reader}
use Rattle.ld_reader.specs.Reading.{text_of}
use Rattle.ld_reader.specs.Reading as reading
use Rattle.ld_reader.specs.Rules.{Rules}
use Rattle.lef_forms.specs.declared.class.Class.{Class}
use Rattle.lef_forms.specs.declared.form.Form.{Form}
use Rattle.lef_forms.specs.declared.form.Form.TheVariants as form
use Rattle.lef_forms.specs.declared.form.Statement.{Statement}
use Rattle.lef_forms.specs.declared.form.Statement.TheVariants as statement
use Rattle.lef_forms.specs.declared.keyword.Keyword.TheVariants as keyword
use Rattle.lef_forms.specs.declared.kind.LefKind.{LefKind}
use Rattle.lef_forms.specs.declared.kind.LefKind.TheVariants as kind
use Rattle.lef_forms.specs.Classes.{judged}
use Rattle.lef_forms.specs.Forms.{form_of, places_of}
use Rattle.lef_forms.specs.Keywords.{is}
use Rattle.lef_drafts.specs.declared.draft.Closed.{Closed}
use Rattle.lef_drafts.specs.declared.draft.Closed.TheVariants as closed
use Rattle.lef_drafts.specs.declared.draft.Draft.{Draft}
use Rattle.lef_drafts.specs.declared.draft.Draft.TheVariants as draft
use Rattle.lef_drafts.specs.Drafts.{close, closes, ends_bare, lacks_layer, section_of, set}
use Rattle.lef_drafts.specs.Values.{Words}
use Rattle.lef_reader.specs.declared.so_far.SoFar.{SoFar}
use Rattle.lef_tree.specs.declared.tree.LefItem.{LefItem}
use Rattle.lef_tree.specs.declared.tree.LefTree.{LefTree}

-- these items, so many parts that were passed over, and this section open
abbrev pub held : List LefItem → ℕ → Draft → SoFar
held items count d = record { items = items; passed = count; draft = d; done = false }

-- before the first word
abbrev pub start : SoFar
start = held [] 0 draft.Top

-- one more part was passed over or left out; the count stops at its type's end
abbrev pub counted : SoFar → SoFar
counted so_far = record so_far { passed = min (so_far.passed + 1) (2 ^ 64 - 1) }

-- ---- sections

-- behind the end of a section, by what that end gives
abbrev pub by_closed : SoFar → Closed → SoFar
by_closed so_far closed.Text = record so_far { draft = draft.Top; done = true }
by_closed so_far closed.Nothing = record so_far { draft = draft.Top }
by_closed so_far (closed.Item i) = record so_far { items = so_far.items ++ i ∷ []; draft = draft.Top }
by_closed so_far (closed.Inner d) = record so_far { draft = d }
by_closed so_far (closed.LeftOut d) = counted (record so_far { draft = d })

-- the open section has ended
unfoldable pub closed_of : SoFar → SoFar
closed_of so_far = by_closed so_far (close so_far.draft)

-- the word behind END
unfoldable pub closing : SoFar → Words → Result SoFar LefKind
closing so_far [] = Err kind.Unexpected
closing so_far (word ∷ words) = if closes so_far.draft word then Ok (closed_of so_far) else Err kind.Unexpected

-- ---- statements

-- the statement that END begins
abbrev pub end_of : Draft → Statement
end_of d = if ends_bare d then statement.EndAlone else statement.End

-- a rectangle stands on a layer
abbrev pub needs_layer : Statement → Bool
needs_layer statement.Rect = true
needs_layer _ = false

-- a statement is taken, but none that needs a layer where none was named
abbrev pub taken : SoFar → Statement → Begun Class Statement LefKind
taken so_far s =
    if needs_layer s && lacks_layer so_far.draft then begun.Bad kind.Unexpected else begun.Taken s

-- what begins in this form
unfoldable pub begun_by : SoFar → Option Form → Begun Class Statement LefKind
begun_by so_far (Some (form.Taken s)) = taken so_far s
begun_by so_far (Some (form.Passed e)) = begun.Passed e
begun_by so_far None = begun.Passed extent.Statement

-- what a first word begins
unfoldable pub begun_in : SoFar → List ℕ → Begun Class Statement LefKind
begun_in so_far word =
    if is keyword.End word then begun.Taken (end_of so_far.draft)
    else if is_semicolon word then begun.Bad kind.Unexpected
    else begun_by so_far (form_of (section_of so_far.draft) word)

-- what was read with one more statement
unfoldable pub set_in : SoFar → Statement → Words → Result SoFar LefKind
set_in so_far statement.EndAlone values = Ok (closed_of so_far)
set_in so_far statement.End values = closing so_far values
set_in so_far s values = Ok (record so_far { draft = set s values so_far.draft })

-- no section is open
abbrev pub is_top : Draft → Bool
is_top draft.Top = true
is_top _ = false

-- the rules of LEF
abbrev pub rules : Rules SoFar Class Statement LefKind
rules = record {
  judged = judged;
  places = places_of;
  begun = begun_in;
  set = set_in;
  counted = counted;
  is_strict = λ so_far. false;
  is_done = λ so_far. so_far.done;
  may_end = λ so_far. is_top so_far.draft;
  unexpected = kind.Unexpected;
  cut = kind.Cut;
}

-- ---- texts

-- the items that were read, and how many parts were passed over
abbrev pub tree_of : SoFar → LefTree
tree_of so_far = record { items = so_far.items; passed = so_far.passed }

-- an answer for a text: what it holds, or its fault
abbrev pub Answer : Type 0
Answer = Result LefTree (TextFault LefKind)

-- the tree of what was read, or the fault
abbrev pub tree_in : Result (Reader SoFar Class Statement) (TextFault LefKind) → Answer
tree_in (Ok r) = Ok (tree_of r.so_far)
tree_in (Err f) = Err f

-- the answer for a text
abbrev pub lef_of : WordsRead → Answer
lef_of text = tree_in (text_of rules start text)

-- what is left of a text where its reading ends: what stands behind END LIBRARY or behind the word at fault, or how
-- the text ends
abbrev pub left_of : WordsRead → WordsRead
left_of text = reading.left_of rules start text
