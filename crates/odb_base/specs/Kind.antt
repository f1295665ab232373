-- Kinds of objects: their codes and words, and what their objects have.
use Rattle.std.specs.Prelude.{Bool, true, false, List, [], ◌∷◌, ℕ, codes}
use Rattle.odb_base.specs.declared.codes.kind.Kind.{Kind}
use Rattle.odb_base.specs.declared.codes.kind.Kind.TheVariants as kind

-- the kinds of objects, in the order of the codes
abbrev pub kinds : List Kind
kinds = kind.Inst ∷ kind.ITerm ∷ kind.Net ∷ kind.BTerm ∷ kind.Pin ∷ kind.Row ∷ kind.Track ∷ kind.Wire ∷ kind.Blockage ∷ kind.Region ∷ kind.Group ∷ kind.Prop ∷ []

-- the code
abbrev pub kind_code : Kind → ℕ
kind_code kind.Inst = 1
kind_code kind.ITerm = 2
kind_code kind.Net = 3
kind_code kind.BTerm = 4
kind_code kind.Pin = 5
kind_code kind.Row = 6
kind_code kind.Track = 7
kind_code kind.Wire = 8
kind_code kind.Blockage = 9
kind_code kind.Region = 10
kind_code kind.Group = 11
kind_code kind.Prop = 12

-- the word
unfoldable pub kind_word : Kind → List ℕ
kind_word kind.Inst = codes "inst"
kind_word kind.ITerm = codes "iterm"
kind_word kind.Net = codes "net"
kind_word kind.BTerm = codes "bterm"
kind_word kind.Pin = codes "pin"
kind_word kind.Row = codes "row"
kind_word kind.Track = codes "track"
kind_word kind.Wire = codes "wire"
kind_word kind.Blockage = codes "blockage"
kind_word kind.Region = codes "region"
kind_word kind.Group = codes "group"
kind_word kind.Prop = codes "prop"

-- objects of the kind have names
abbrev pub has_names : Kind → Bool
has_names kind.Inst = true
has_names kind.Net = true
has_names kind.BTerm = true
has_names kind.Row = true
has_names kind.Region = true
has_names kind.Group = true
has_names other = false

-- objects of the kind have a placement
abbrev pub has_place : Kind → Bool
has_place kind.Inst = true
has_place kind.Pin = true
has_place other = false

-- objects of the kind have a use
abbrev pub has_usage : Kind → Bool
has_usage kind.Net = true
has_usage kind.BTerm = true
has_usage other = false

-- objects of the kind are terminals, of instances or of the block
abbrev pub is_terminal : Kind → Bool
is_terminal kind.ITerm = true
is_terminal kind.BTerm = true
is_terminal other = false

-- objects of the kind have properties
abbrev pub has_props : Kind → Bool
has_props kind.Inst = true
has_props kind.Net = true
has_props kind.Row = true
has_props kind.Region = true
has_props kind.Group = true
has_props other = false
