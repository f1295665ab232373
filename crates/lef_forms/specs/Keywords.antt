-- The words that stand for themselves.
use Rattle.std.specs.Prelude.{Bool, List, ℕ, codes}
use Rattle.std.specs.Str.{bytes_eq}
use Rattle.lef_forms.specs.declared.keyword.Keyword.{Keyword}
use Rattle.lef_forms.specs.declared.keyword.Keyword.TheVariants as keyword

-- the word
abbrev pub text_of : Keyword → List ℕ
text_of keyword.Units = codes "UNITS"
text_of keyword.Layer = codes "LAYER"
text_of keyword.Via = codes "VIA"
text_of keyword.Site = codes "SITE"
text_of keyword.Macro = codes "MACRO"
text_of keyword.End = codes "END"
text_of keyword.Library = codes "LIBRARY"
text_of keyword.PropertyDefinitions = codes "PROPERTYDEFINITIONS"
text_of keyword.Spacing = codes "SPACING"
text_of keyword.ViaRule = codes "VIARULE"
text_of keyword.NonDefaultRule = codes "NONDEFAULTRULE"
text_of keyword.Array = codes "ARRAY"
text_of keyword.BeginExt = codes "BEGINEXT"
text_of keyword.EndExt = codes "ENDEXT"
text_of keyword.Database = codes "DATABASE"
text_of keyword.Microns = codes "MICRONS"
text_of keyword.Type = codes "TYPE"
text_of keyword.Direction = codes "DIRECTION"
text_of keyword.Pitch = codes "PITCH"
text_of keyword.Width = codes "WIDTH"
text_of keyword.AcCurrentDensity = codes "ACCURRENTDENSITY"
text_of keyword.DcCurrentDensity = codes "DCCURRENTDENSITY"
text_of keyword.Frequency = codes "FREQUENCY"
text_of keyword.CutArea = codes "CUTAREA"
text_of keyword.TableEntries = codes "TABLEENTRIES"
text_of keyword.Default = codes "DEFAULT"
text_of keyword.Generated = codes "GENERATED"
text_of keyword.TopOfStackOnly = codes "TOPOFSTACKONLY"
text_of keyword.Rect = codes "RECT"
text_of keyword.Mask = codes "MASK"
text_of keyword.Class = codes "CLASS"
text_of keyword.Symmetry = codes "SYMMETRY"
text_of keyword.Size = codes "SIZE"
text_of keyword.By = codes "BY"
text_of keyword.Foreign = codes "FOREIGN"
text_of keyword.Origin = codes "ORIGIN"
text_of keyword.Pin = codes "PIN"
text_of keyword.Obs = codes "OBS"
text_of keyword.Density = codes "DENSITY"
text_of keyword.Timing = codes "TIMING"
text_of keyword.Output = codes "OUTPUT"
text_of keyword.Tristate = codes "TRISTATE"
text_of keyword.Use = codes "USE"
text_of keyword.Port = codes "PORT"

-- whether these bytes are the word
unfoldable pub is : Keyword → List ℕ → Bool
is keyword word = bytes_eq word (text_of keyword)
