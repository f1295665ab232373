-- The words that spell paths, each point written whole.
use Rattle.std.specs.Prelude.{◌++◌, ◌==◌, Bool, List, [], ◌∷◌, ℕ, ℤ, Option, Some, None, if◌then◌else◌, codes, length}
use Rattle.std.specs.Fmt.{signed_decimal}
use Rattle.std.specs.List.{flat_map}
use Rattle.odb_base.specs.declared.codes.orient.Orient.{Orient}
use Rattle.odb_base.specs.Orient.{orient_word}
use Rattle.wires.specs.declared.path.Element.{Element}
use Rattle.wires.specs.declared.path.Element.TheVariants as element
use Rattle.wires.specs.declared.path.Path.{Path}
use Rattle.wires.specs.declared.path.Taper.{Taper}
use Rattle.wires.specs.declared.path.Taper.TheVariants as taper

-- how a plain path is narrowed
abbrev pub taper_words : Taper → List (List ℕ)
taper_words taper.None = []
taper_words taper.Layer = codes "TAPER" ∷ []
taper_words (taper.Rule rule) = codes "TAPERRULE" ∷ rule ∷ []

-- the shape of a special path
abbrev pub shape_words : List ℕ → List (List ℕ)
shape_words shape = if length shape == 0 then [] else codes "+" ∷ codes "SHAPE" ∷ shape ∷ []

-- an extension
abbrev pub ext_words : Option ℤ → List (List ℕ)
ext_words None = []
ext_words (Some ext) = signed_decimal ext ∷ []

-- an orientation
abbrev pub orient_words : Option Orient → List (List ℕ)
orient_words None = []
orient_words (Some orient) = orient_word orient ∷ []

-- an element
unfoldable pub element_words : Element (List ℕ) → List (List ℕ)
element_words (element.Point x y ext) = codes "(" ∷ signed_decimal x ∷ signed_decimal y ∷ (ext_words ext ++ codes ")" ∷ [])
element_words (element.Via via orient) = via ∷ orient_words orient
element_words (element.Rect dx1 dy1 dx2 dy2) =
    codes "RECT" ∷ codes "(" ∷ signed_decimal dx1 ∷ signed_decimal dy1 ∷ signed_decimal dx2 ∷ signed_decimal dy2 ∷ codes ")" ∷ []

-- what stands between the layer of a path and its first point, in a special wire or a plain one
abbrev pub head_words : Bool → Path (List ℕ) (List ℕ) → List (List ℕ)
head_words special path = if special then signed_decimal path.width ∷ shape_words path.shape else taper_words path.taper

-- a path
abbrev pub path_words : Bool → Path (List ℕ) (List ℕ) → List (List ℕ)
path_words special path = path.layer ∷ (head_words special path ++ flat_map element_words path.elements)

-- the paths of a wire
abbrev pub paths_words : Bool → List (Path (List ℕ) (List ℕ)) → List (List ℕ)
paths_words special [] = []
paths_words special (path ∷ paths) = path_words special path ++ flat_map (λ p. codes "NEW" ∷ path_words special p) paths

-- words with one space between them
abbrev pub joined : List (List ℕ) → List ℕ
joined [] = []
joined (w ∷ ws) = w ++ flat_map (λ v. 32 ∷ v) ws
