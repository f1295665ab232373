-- The bytes of the parts of which saved records are made: lists, flags, places and rectangles.
use Rattle.std.specs.Prelude.{◌++◌, ◌==◌, ◌/◌, ◌%◌, Bool, List, ℕ, Option, None, Some, if◌then◌else◌, length}
use Rattle.std.specs.List.{flat_map}
use Rattle.odb_base.specs.Kind.{kind_code}
use Rattle.odb_base.specs.Orient.{orient_code}
use Rattle.odb_base.specs.PlaceStatus.{place_status_code}
use Rattle.odb_base.specs.declared.codes.kind.Kind.TheVariants as kind
use Rattle.odb_base.specs.declared.geometry.Placement.{Placement}
use Rattle.odb_base.specs.declared.geometry.Rect.{Rect}
use Rattle.odb_fields.specs.Fields.{i32_bytes, u8_bytes, u32_bytes}
use Rattle.slot_pool.specs.Table.{Table}

-- a flag: 1 where it holds, and 0
abbrev pub flag_bytes : Bool → List ℕ
flag_bytes b = u8_bytes (if b then 1 else 0)

module _ {A : Type 0} where
  -- a list: how many, and each
  unfoldable pub list_bytes : (A → List ℕ) → List A → List ℕ
  list_bytes each xs = u32_bytes (length xs) ++ flat_map each xs

  -- what may be absent: 0, or 1 and the value
  unfoldable pub option_bytes : (A → List ℕ) → Option A → List ℕ
  option_bytes each None = u8_bytes 0
  option_bytes each (Some x) = u8_bytes 1 ++ each x

-- a table: its slots, each empty or with a record, and its free identifiers, top first
unfoldable pub table_bytes : {A : Type 0} → (A → List ℕ) → Table A → List ℕ
table_bytes each t = list_bytes (option_bytes each) t.slots ++ list_bytes u32_bytes t.free

-- a rectangle: its lower left corner, and its upper right one
unfoldable pub rect_bytes : Rect → List ℕ
rect_bytes r = i32_bytes r.xl ++ i32_bytes r.yl ++ i32_bytes r.xh ++ i32_bytes r.yh

-- a placement: the status, the point, and the orientation
unfoldable pub place_bytes : Placement → List ℕ
place_bytes p = u8_bytes (place_status_code p.status) ++ i32_bytes p.x ++ i32_bytes p.y ++ u8_bytes (orient_code p.orientation)

-- the kind of the terminal that stands under this number in the list of a net
abbrev pub term_kind : ℕ → ℕ
term_kind number = if number % 2 == 0 then kind_code kind.ITerm else kind_code kind.BTerm

-- a terminal of a net: its kind, and its identifier
unfoldable pub term_bytes : ℕ → List ℕ
term_bytes number = u8_bytes (term_kind number) ++ u32_bytes (number / 2)
