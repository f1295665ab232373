-- Reading a code: its elements one after another, or its first fault.
use Rattle.std.specs.Prelude.{◌≡◌, ◌-◌, ◌==◌, Bool, true, false, List, [], ◌∷◌, ℕ, zero, suc, ℤ, pos, Option, Some, None, Result, Ok, Err, if◌then◌else◌, is_ok, length}
use Rattle.std.specs.List.{list_all}
use Rattle.odb_fields.specs.Reading.{Cursor, ◌>>=◌, i32_at, text_at, u32_at, u8_at}
use Rattle.wires.specs.declared.fault.WireFault.{WireFault}
use Rattle.wires.specs.declared.fault.WireFault.TheVariants as fault
use Rattle.wires.specs.declared.fields.TextSort.TheVariants as sort
use Rattle.wires.specs.declared.limits.Limits.{Limits}
use Rattle.wires.specs.declared.elements.Due.{Due}
use Rattle.wires.specs.declared.elements.Due.TheVariants as due
use Rattle.wires.specs.declared.item.Item.{Item}
use Rattle.wires.specs.Fields.{field_at, is_between, is_from_to, text_fits}
use Rattle.wires.specs.Pieces.{AreNumbers, Layer, Piece, Point, Rect, Via, is_coordinate, kind_of, orient_of, piece_fits, piece_of, rule_sort, suits, vias_of}

-- ---- one element

-- a layer with its width, shape, taper and rule
unfoldable pub layer_at : Limits → Cursor → Result (Piece × Cursor) WireFault
layer_at limits input = do
  layer ← field_at u32_at (is_between 1 limits.layers) input
  width ← field_at i32_at (is_from_to (pos 0)) layer.1
  shape ← field_at text_at (text_fits sort.NameOrEmpty) width.1
  taper ← field_at u8_at (is_between 0 2) shape.1
  rule ← field_at text_at (text_fits (rule_sort taper.0)) taper.1
  Ok (Layer layer.0 width.0 shape.0 taper.0 rule.0, rule.1)

-- an extension
unfoldable pub stated_at : Cursor → Result (Option ℤ × Cursor) WireFault
stated_at input = do
  ext ← field_at i32_at (is_from_to (pos 0)) input
  Ok (Some ext.0, ext.1)

-- a flag and, where it is 1, an extension
unfoldable pub ext_at : Cursor → Result (Option ℤ × Cursor) WireFault
ext_at input = do
  flag ← field_at u8_at (is_between 0 1) input
  if flag.0 == 1 then stated_at flag.1 else Ok (None, flag.1)

-- a coordinate or distance
unfoldable pub coordinate_at : Cursor → Result (ℤ × Cursor) WireFault
coordinate_at input = field_at i32_at is_coordinate input

-- a point
unfoldable pub point_at : Cursor → Result (Piece × Cursor) WireFault
point_at input = do
  x ← coordinate_at input
  y ← coordinate_at x.1
  ext ← ext_at y.1
  Ok (Point x.0 y.0 ext.0, ext.1)

-- a via
unfoldable pub via_at : Limits → Cursor → Result (Piece × Cursor) WireFault
via_at limits input = do
  block ← field_at u8_at (is_between 0 1) input
  via ← field_at u32_at (is_between 1 (vias_of limits (block.0 == 1))) block.1
  turned ← field_at u8_at (is_between 0 8) via.1
  Ok (Via (block.0 == 1) via.0 (orient_of turned.0), turned.1)

-- a rectangle
unfoldable pub rect_at : Cursor → Result (Piece × Cursor) WireFault
rect_at input = do
  dx1 ← coordinate_at input
  dy1 ← coordinate_at dx1.1
  dx2 ← coordinate_at dy1.1
  dy2 ← coordinate_at dx2.1
  Ok (Rect dx1.0 dy1.0 dx2.0 dy2.0, dy2.1)

-- the least and the greatest byte by which an element may begin
abbrev pub kinds : Due → ℕ × ℕ
kinds due.Layer = (1, 1)
kinds due.Point = (2, 2)
kinds due.Any = (1, 4)

-- the fields of an element that begins by this byte
abbrev pub fields_at : Limits → ℕ → Cursor → Result (Piece × Cursor) WireFault
fields_at limits kind input =
    if kind == 1 then layer_at limits input
    else if kind == 2 then point_at input
    else if kind == 3 then via_at limits input
    else rect_at input

-- an element of those that may stand there
unfoldable pub item_at : Limits → Due → Cursor → Result (Piece × Cursor) WireFault
item_at limits due input = do
  kind ← field_at u8_at (is_between (kinds due).0 (kinds due).1) input
  fields_at limits kind.0 kind.1

-- ---- all elements

-- what must follow an element: after a layer a point, and then whatever there is
abbrev pub due_after : Piece → Due
due_after (Layer layer width shape taper rule) = due.Point
due_after (Point x y ext) = due.Any
due_after (Via block via orient) = due.Any
due_after (Rect dx1 dy1 dx2 dy2) = due.Any

-- the end of the code, where nothing more may be due
abbrev pub end_at : Due → Cursor → Result (List Piece) WireFault
end_at due.Layer input = Err (fault.At input.place)
end_at due.Point input = Err (fault.At input.place)
end_at due.Any input = Ok []

-- an element before those that were read
abbrev pub with_piece : Piece → Result (List Piece) WireFault → Result (List Piece) WireFault
with_piece piece (Ok pieces) = Ok (piece ∷ pieces)
with_piece piece (Err f) = Err f

-- at most n elements, each with at least a byte
unfoldable pub items_in : Limits → ℕ → Due → Cursor → Result (List Piece) WireFault
items_in limits zero due input = end_at due input
items_in limits (suc n) due input =
    if input.place == length input.bytes then end_at due input
    else (item_at limits due input >>= λ p. with_piece p.0 (items_in limits n (due_after p.0) p.1))

-- the elements from a place on
unfoldable pub items_left : Limits → Due → Cursor → Result (List Piece) WireFault
items_left limits due input = items_in limits (length input.bytes - input.place) due input

-- the elements of a code, or its first fault
abbrev pub items_of : Limits → List ℕ → Result (List Piece) WireFault
items_of limits code = items_left limits due.Layer (record { bytes = code; place = 0 })

-- ---- elements in order

-- the element is one of those that may stand there, and its fields are lawful
pub record FitsAt (limits : Limits) (due : Due) (piece : Piece) : Type 0 where
  pub stands : is_between (kinds due).0 (kinds due).1 (kind_of piece) ≡ true
  pub fits : piece_fits limits piece ≡ true

-- these elements may stand one after another, and nothing is due behind the last
abbrev pub AreItems : Limits → Due → List Piece → Type 0
AreItems limits state [] = state ≡ due.Any
AreItems limits state (piece ∷ pieces) = FitsAt limits state piece × AreItems limits (due_after piece) pieces

-- what a call that reads one element says of those that were left and those that are
abbrev pub GivesItem : Limits → Due → Cursor → Result (Option Item) WireFault → Due → Cursor → Type 0
GivesItem limits due input (Ok (Some item)) next after =
    (items_left limits due input ≡ with_piece (piece_of item) (items_left limits next after)) × FitsAt limits due (piece_of item) × (next ≡ due_after (piece_of item))
GivesItem limits due input (Ok None) next after = items_left limits due input ≡ Ok []
GivesItem limits due input (Err f) next after = items_left limits due input ≡ Err f

-- what is answered at the end of a code
abbrev pub Ends : Due → Cursor → Result (Option Item) WireFault → Type 0
Ends due input (Ok (Some item)) = ⊥
Ends due input (Ok None) = end_at due input ≡ Ok []
Ends due input (Err f) = end_at due input ≡ Err f

-- no element was read yet
abbrev pub is_start : Due → Bool
is_start due.Layer = true
is_start due.Point = false
is_start due.Any = false

-- a code without a fault, each element of which may stand in such a wire
abbrev pub all_suit : Bool → Result (List Piece) WireFault → Bool
all_suit special (Ok pieces) = list_all (suits special) pieces
all_suit special (Err f) = false

-- the elements of a code without a fault
abbrev pub pieces_or_none : Result (List Piece) WireFault → List Piece
pieces_or_none (Ok pieces) = pieces
pieces_or_none (Err f) = []

-- the bytes are a code for some numbers of layers and vias
pub record IsReadable (code : List ℕ) : Type 0 where
  pub limits : Limits
  pub numbers : AreNumbers limits
  pub read : is_ok (items_of limits code) ≡ true
