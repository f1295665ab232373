-- In what the next word of a text stands.
use Rattle.std.specs.Prelude.{◌+◌, ◌-◌, ◌^◌, ℕ, Option, Some, None, min}
use Rattle.def_forms.specs.declared.keyword.Keyword.{Keyword}
use Rattle.def_forms.specs.declared.keyword.Keyword.TheVariants as keyword
use Rattle.def_forms.specs.declared.section.Section.{Section}
use Rattle.def_forms.specs.declared.section.Section.TheVariants as section
use Rattle.def_reader.specs.declared.inside.Counted.{Counted}
use Rattle.def_reader.specs.declared.inside.Inside.{Inside}
use Rattle.def_reader.specs.declared.inside.Inside.TheVariants as inside

-- a count with one more; it stops at its type's end
abbrev pub one_more : ℕ → ℕ
one_more n = min (n + 1) (2 ^ 64 - 1)

-- the word that begins a section and ends it
abbrev pub word_of : Section → Keyword
word_of section.Definitions = keyword.PropertyDefinitions
word_of section.Vias = keyword.Vias
word_of section.Regions = keyword.Regions
word_of section.Components = keyword.Components
word_of section.Pins = keyword.Pins
word_of section.Blockages = keyword.Blockages
word_of section.SpecialNets = keyword.SpecialNets
word_of section.Nets = keyword.Nets
word_of section.Groups = keyword.Groups

-- what is open behind an element
abbrev pub behind : Option Counted → Inside
behind (Some c) = inside.Section (record c { seen = one_more c.seen })
behind None = inside.Top
