-- The elements of a wire code, their bytes, and which of them may follow each other.
use Rattle.std.specs.Prelude.{◌+◌, ◌-◌, ◌<◌, ◌^◌, ◌==◌, ◌&&◌, ◌++◌, Bool, true, List, ℕ, ℤ, pos, neg_ℤ, Option, Some, None, if◌then◌else◌, find, length}
use Rattle.std.specs.List.{flat_map}
use Rattle.std.specs.Ordering.{int_eq}
use Rattle.odb_base.specs.declared.codes.orient.Orient.{Orient}
use Rattle.odb_base.specs.Orient.{orients, orient_code}
use Rattle.odb_fields.specs.Fields.{u8_bytes, u32_bytes, i32_bytes, text_bytes}
use Rattle.wires.specs.declared.fields.TextSort.{TextSort}
use Rattle.wires.specs.declared.fields.TextSort.TheVariants as sort
use Rattle.wires.specs.declared.limits.Limits.{Limits}
use Rattle.wires.specs.declared.item.Item.{Item}
use Rattle.wires.specs.declared.item.Item.TheVariants as item
use Rattle.wires.specs.Fields.{is_between, is_from_to, text_fits}

-- an element of a code, with its texts as bytes
pub data Piece : Type 0 where
  -- a path begins: its layer, width, shape, taper and rule
  Layer : ℕ → ℤ → List ℕ → ℕ → List ℕ → Piece
  -- a point, with its extension
  Point : ℤ → ℤ → Option ℤ → Piece
  -- a via of the block or of the technology, with its orientation
  Via : Bool → ℕ → Option Orient → Piece
  -- a rectangle, by the distances of its corners
  Rect : ℤ → ℤ → ℤ → ℤ → Piece

-- the element without where its texts lie
abbrev pub piece_of : Item → Piece
piece_of (item.Layer layer width shape taper rule) = Layer layer width shape.now taper rule.now
piece_of (item.Point x y ext) = Point x y ext
piece_of (item.Via block via orient) = Via block via orient
piece_of (item.Rect dx1 dy1 dx2 dy2) = Rect dx1 dy1 dx2 dy2

-- ---- bytes

-- a flag and, where there is one, the extension
abbrev pub ext_bytes : Option ℤ → List ℕ
ext_bytes None = u8_bytes 0
ext_bytes (Some ext) = u8_bytes 1 ++ i32_bytes ext

-- 0 for no orientation, else its code and one more
abbrev pub orient_byte : Option Orient → ℕ
orient_byte None = 0
orient_byte (Some orient) = orient_code orient + 1

-- the orientation of such a byte
abbrev pub orient_of : ℕ → Option Orient
orient_of byte = if byte == 0 then None else find (λ orient. orient_code orient == byte - 1) orients

-- whether a via is one of the block
abbrev pub flag_of : Bool → ℕ
flag_of block = if block then 1 else 0

-- the byte by which an element begins
abbrev pub kind_of : Piece → ℕ
kind_of (Layer layer width shape taper rule) = 1
kind_of (Point x y ext) = 2
kind_of (Via block via orient) = 3
kind_of (Rect dx1 dy1 dx2 dy2) = 4

-- the fields behind it
unfoldable pub field_bytes : Piece → List ℕ
field_bytes (Layer layer width shape taper rule) =
    u32_bytes layer ++ (i32_bytes width ++ (text_bytes shape ++ (u8_bytes taper ++ text_bytes rule)))
field_bytes (Point x y ext) = i32_bytes x ++ (i32_bytes y ++ ext_bytes ext)
field_bytes (Via block via orient) = u8_bytes (flag_of block) ++ (u32_bytes via ++ u8_bytes (orient_byte orient))
field_bytes (Rect dx1 dy1 dx2 dy2) = i32_bytes dx1 ++ (i32_bytes dy1 ++ (i32_bytes dx2 ++ i32_bytes dy2))

-- an element as bytes
abbrev pub piece_bytes : Piece → List ℕ
piece_bytes piece = u8_bytes (kind_of piece) ++ field_bytes piece

-- the code with these elements
abbrev pub code_of : List Piece → List ℕ
code_of pieces = flat_map piece_bytes pieces

-- ---- rules

-- a coordinate
abbrev pub is_coordinate : ℤ → Bool
is_coordinate z = is_from_to (neg_ℤ (pos 2000000000)) z

-- an extension is none or not below 0
abbrev pub is_ext : Option ℤ → Bool
is_ext None = true
is_ext (Some ext) = is_from_to (pos 0) ext

-- a rule has a name where the taper is one by a rule, and is empty else
abbrev pub rule_sort : ℕ → TextSort
rule_sort taper = if taper == 2 then sort.Name else sort.Empty

-- how a path is tapered, and the rule by which it is
abbrev pub taper_fits : ℕ → List ℕ → Bool
taper_fits taper rule = is_between 0 2 taper && text_fits (rule_sort taper) rule

-- a layer is tapered in one of these ways
abbrev pub is_tapered : Piece → Bool
is_tapered (Layer layer width shape taper rule) = taper_fits taper rule
is_tapered (Point x y ext) = true
is_tapered (Via block via orient) = true
is_tapered (Rect dx1 dy1 dx2 dy2) = true

-- so many layers, vias of the technology and vias of the block
abbrev pub limits_of : ℕ → ℕ → ℕ → Limits
limits_of layers tech_vias block_vias = record { layers = layers; tech_vias = tech_vias; block_vias = block_vias }

-- each number of four bytes from 1 names a layer and a via of each sort
abbrev pub widest : Limits
widest = limits_of (2 ^ 32 - 1) (2 ^ 32 - 1) (2 ^ 32 - 1)

-- how many vias there are of this sort
abbrev pub vias_of : Limits → Bool → ℕ
vias_of limits block = if block then limits.block_vias else limits.tech_vias

-- each field of an element is within its set and limits
unfoldable pub piece_fits : Limits → Piece → Bool
piece_fits limits (Layer layer width shape taper rule) =
    is_between 1 limits.layers layer && (is_from_to (pos 0) width && (text_fits sort.NameOrEmpty shape && taper_fits taper rule))
piece_fits limits (Point x y ext) = is_coordinate x && (is_coordinate y && is_ext ext)
piece_fits limits (Via block via orient) = is_between 1 (vias_of limits block) via
piece_fits limits (Rect dx1 dy1 dx2 dy2) = is_coordinate dx1 && (is_coordinate dy1 && (is_coordinate dx2 && is_coordinate dy2))

-- how many there are of each is a number of four bytes
pub record AreNumbers (limits : Limits) : Type 0 where
  pub layers : limits.layers < 2 ^ 32
  pub tech_vias : limits.tech_vias < 2 ^ 32
  pub block_vias : limits.block_vias < 2 ^ 32

-- an element may stand in such a wire: a plain one has width 0 and no shape, a special one no taper
abbrev pub suits : Bool → Piece → Bool
suits special (Layer layer width shape taper rule) = if special then taper == 0 else (int_eq width (pos 0) && length shape == 0)
suits special (Point x y ext) = true
suits special (Via block via orient) = true
suits special (Rect dx1 dy1 dx2 dy2) = true
