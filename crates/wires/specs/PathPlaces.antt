-- The places of words in paths: which numbers and names can stand there, and what is wrong with another word.
use Rattle.std.specs.Prelude.{Bool, true, false, List, ℕ, ℤ, pos, Option, Some, None, if◌then◌else◌, is_none}
use Rattle.std.specs.Fmt.{signed_decimal}
use Rattle.std.specs.Int.Signed.{le_z}
use Rattle.std.specs.Option.{option_map}
use Rattle.odb_base.specs.declared.geometry.Point.{Point}
use Rattle.wires.specs.declared.fault.PathFlaw.{PathFlaw}
use Rattle.wires.specs.declared.fault.PathFlaw.TheVariants as flaw
use Rattle.wires.specs.declared.path_word.PathWord.TheVariants as word
use Rattle.wires.specs.declared.spot.Spot.{Spot}
use Rattle.wires.specs.declared.spot.Spot.TheVariants as spot
use Rattle.wires.specs.declared.spot.HeadSpot.{HeadSpot}
use Rattle.wires.specs.declared.spot.HeadSpot.TheVariants as head
use Rattle.wires.specs.declared.spot.PointSpot.{PointSpot}
use Rattle.wires.specs.declared.spot.PointSpot.TheVariants as point
use Rattle.wires.specs.declared.spot.RectSpot.{RectSpot}
use Rattle.wires.specs.declared.spot.RectSpot.TheVariants as rect
use Rattle.wires.specs.Fields.{is_name}
use Rattle.wires.specs.PathWords.{is, number_of, orient_from}

-- ---- names and numbers

-- a lawful name
unfoldable pub name_in : List ℕ → Option (List ℕ)
name_in bytes = if is_name bytes then Some bytes else None

-- the name of a via, which is no orientation
unfoldable pub via_in : List ℕ → Option (List ℕ)
via_in bytes = if is_none (orient_from bytes) then name_in bytes else None

-- the number, if it is not below 0
abbrev pub from_zero : Option ℤ → Option ℤ
from_zero (Some z) = if le_z (pos 0) z then Some z else None
from_zero None = None

-- a number that is not below 0
unfoldable pub size_in : List ℕ → Option ℤ
size_in bytes = from_zero (number_of bytes)

-- a number, or a star for the one before
unfoldable pub coordinate_in : Option ℤ → List ℕ → Option ℤ
coordinate_in former bytes = if is word.Star bytes then former else number_of bytes

-- ---- the number for which a word stands, where a number can stand

-- before the first point
abbrev pub number_in_head : HeadSpot → List ℕ → Option ℤ
number_in_head head.Width bytes = size_in bytes
number_in_head _ bytes = None

-- in a point
abbrev pub number_in_point : PointSpot → Option Point → List ℕ → Option ℤ
number_in_point point.X former bytes = coordinate_in (option_map (λ p. p.x) former) bytes
number_in_point (point.Y x) former bytes = coordinate_in (option_map (λ p. p.y) former) bytes
number_in_point (point.AfterY p) former bytes = size_in bytes
number_in_point (point.Close p ext) former bytes = None

-- in a rectangle
abbrev pub number_in_rect : RectSpot → List ℕ → Option ℤ
number_in_rect rect.Open bytes = None
number_in_rect (rect.Close first second) bytes = None
number_in_rect _ bytes = number_of bytes

-- in a path
abbrev pub number_at : Spot → Option Point → List ℕ → Option ℤ
number_at (spot.Head s) former bytes = number_in_head s bytes
number_at (spot.Point s) former bytes = number_in_point s former bytes
number_at (spot.Rect s) former bytes = number_in_rect s bytes
number_at spot.Element former bytes = None

-- a word as written whole: the number for which it stands, or itself
abbrev pub whole : Option ℤ → List ℕ → List ℕ
whole (Some z) bytes = signed_decimal z
whole None bytes = bytes

-- ---- what is wrong with a word that can't stand where it does

-- before the first point
abbrev pub flaw_of_head : HeadSpot → PathFlaw
flaw_of_head head.Width = flaw.BadNumber
flaw_of_head head.ShapeName = flaw.BadName
flaw_of_head head.RuleName = flaw.BadName
flaw_of_head _ = flaw.Unexpected

-- in a point
abbrev pub flaw_of_point : PointSpot → PathFlaw
flaw_of_point (point.Close p ext) = flaw.Unexpected
flaw_of_point _ = flaw.BadNumber

-- in a rectangle
abbrev pub flaw_of_rect : RectSpot → PathFlaw
flaw_of_rect rect.Open = flaw.Unexpected
flaw_of_rect (rect.Close first second) = flaw.Unexpected
flaw_of_rect _ = flaw.BadNumber

-- in a path
abbrev pub flaw_of : Spot → PathFlaw
flaw_of (spot.Head s) = flaw_of_head s
flaw_of (spot.Point s) = flaw_of_point s
flaw_of (spot.Rect s) = flaw_of_rect s
flaw_of spot.Element = flaw.BadName

-- ---- ends

-- the words may end here
abbrev pub ends : Spot → Bool
ends spot.Element = true
ends _ = false
