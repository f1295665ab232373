-- The parts of which saved records are made: lists, what may be absent, places, rectangles and tables.
use Rattle.std.specs.Prelude.{◌==◌, ◌+◌, ◌*◌, ◌||◌, Bool, true, false, List, [], ℕ, ℤ, pos, negsuc, Option, Some, None, Result, Ok, Err, if◌then◌else◌, nat_lt}
use Rattle.odb_base.specs.Geometry.{is_coordinate}
use Rattle.odb_base.specs.Kind.{kind_code, kinds}
use Rattle.odb_base.specs.Orient.{orient_code, orients}
use Rattle.odb_base.specs.PlaceStatus.{place_status_code, place_statuses}
use Rattle.odb_base.specs.declared.codes.kind.Kind.{Kind}
use Rattle.odb_base.specs.declared.codes.orient.Orient.{Orient}
use Rattle.odb_base.specs.declared.codes.place_status.PlaceStatus.{PlaceStatus}
use Rattle.odb_base.specs.declared.codes.place_status.PlaceStatus.TheVariants as status
use Rattle.odb_base.specs.declared.geometry.Placement.{Placement}
use Rattle.odb_base.specs.declared.geometry.Rect.{Rect}
use Rattle.odb_fields.specs.Reading.{Cursor, u32_at, u8_at, ◌>>=◌}
use Rattle.slot_pool.specs.Table.{Table}
use Rattle.saved_fields.specs.Fault as fault
use Rattle.saved_fields.specs.Fault.{Fault}
use Rattle.saved_fields.specs.Fields.{coded_at, coordinate_at, distance_at, flag_at, id_at, is_from, number_at, such}
use Rattle.saved_fields.specs.Reading.{Reading, both, judged, made, many_at, plain, ◌by◌, ◌then◌}

module _ {A : Type 0} where
  -- a list of at most so many items: how many, which is judged before they are looked for, and they
  unfoldable pub list_at : ℕ → Reading A → Reading (List A)
  list_at most each input = (number_at 0 most by λ count. many_at count each) input

  -- a list of at least one item, and of at most so many
  unfoldable pub filled_list_at : ℕ → Reading A → Reading (List A)
  filled_list_at most each input = (number_at 1 most by λ count. many_at count each) input

  -- a list that has no items yet
  unfoldable pub no_list_at : Reading (List A)
  no_list_at input = made (λ n. []) (number_at 0 0) input

  -- the value of what may be absent, where its flag says that it is there
  abbrev pub stated_at : Reading A → Bool → Reading (Option A)
  stated_at each false input = Ok (None, input)
  stated_at each true input = made Some each input

  -- what may be absent: a flag, and the value where it is there
  unfoldable pub option_at : Reading A → Reading (Option A)
  option_at each input = (flag_at by stated_at each) input

-- what isn't there yet
abbrev pub none_if_0 : {A : Type 0} → ℕ → Option (Option A)
none_if_0 n = if n == 0 then Some None else None

-- what may be absent, and isn't there yet: the flag 0
unfoldable pub absent_at : {A : Type 0} → Reading (Option A)
absent_at input = judged none_if_0 (plain u8_at) input

-- a coordinate of what has this status; what is unplaced stands at 0
abbrev pub may_stand : PlaceStatus → ℤ → Bool
may_stand status.Unplaced (pos n) = n == 0
may_stand status.Unplaced (negsuc n) = false
may_stand status.Placed z = is_coordinate z
may_stand status.Fixed z = is_coordinate z
may_stand status.Cover z = is_coordinate z

-- an orientation of what has this status; what is unplaced is turned N
abbrev pub may_be_turned : PlaceStatus → Orient → Bool
may_be_turned status.Unplaced o = orient_code o == 0
may_be_turned status.Placed o = true
may_be_turned status.Fixed o = true
may_be_turned status.Cover o = true

-- an orientation of what has this status
unfoldable pub turn_at : PlaceStatus → Reading Orient
turn_at placed input = judged (such (may_be_turned placed)) (coded_at orient_code orients) input

-- the placement of these fields
abbrev pub placement_of : ((PlaceStatus × ℤ) × ℤ) × Orient → Placement
placement_of t = record { status = t.0.0.0; x = t.0.0.1; y = t.0.1; orientation = t.1 }

-- a placement: the status, the point, and the orientation
unfoldable pub place_at : Reading Placement
place_at input = made placement_of (
    coded_at place_status_code place_statuses
    then (λ placed. distance_at (may_stand placed))
    then (λ t. distance_at (may_stand t.0))
    then (λ t. turn_at t.0.0)
    ) input

-- the rectangle of these coordinates
abbrev pub rect_of : ((ℤ × ℤ) × ℤ) × ℤ → Rect
rect_of t = record { xl = t.0.0.0; yl = t.0.0.1; xh = t.0.1; yh = t.1 }

-- a rectangle: its lower left corner, and its upper right one, which is neither left of it nor below it
unfoldable pub rect_at : Reading Rect
rect_at input = made rect_of (
    both coordinate_at coordinate_at
    then (λ t. distance_at (is_from t.0))
    then (λ t. distance_at (is_from t.0.1))
    ) input

-- the number, where four bytes can hold it, and else 0
abbrev pub fitting : ℕ → ℕ
fitting n = if nat_lt n 4294967296 then n else 0

-- The number of a terminal in the list of a net: twice the identifier of an instance terminal, one more than twice
-- that of a block terminal, and 0, which names nothing, for what can't be a terminal.
abbrev pub term_number : Kind × ℕ → ℕ
term_number t = if kind_code t.0 == 2 then fitting (2 * t.1) else if kind_code t.0 == 4 then fitting (2 * t.1 + 1) else 0

-- a terminal of a net: its kind, and its identifier
unfoldable pub term_at : Reading ℕ
term_at input = made term_number (both (coded_at kind_code kinds) id_at) input

-- ---- tables

-- a table may have so many slots or free identifiers: one of a kind whose objects are still to come has none
abbrev pub may_have : Bool → ℕ → Bool
may_have built n = built || (n == 0)

-- a number of slots within the cap
abbrev pub within_cap : Kind → ℕ → ℕ × Cursor → Result (ℕ × Cursor) Fault
within_cap k cap p = if nat_lt cap p.0 then Err (fault.OverCap k) else Ok p

-- how many slots a table has
unfoldable pub slot_count_at : Bool → Kind → ℕ → Reading ℕ
slot_count_at built k cap input = judged (such (may_have built)) (λ i. plain u32_at i >>= within_cap k cap) input

-- how many free identifiers a table has
unfoldable pub free_count_at : Bool → Reading ℕ
free_count_at built input = judged (such (may_have built)) (plain u32_at) input

-- the table of these slots and free identifiers
abbrev pub table_of : {A : Type 0} → List (Option A) × List ℕ → Table A
table_of t = record { slots = t.0; free = t.1 }

-- a table: its slots, each empty or with a record, and its free identifiers, top first
unfoldable pub table_at : {A : Type 0} → Bool → Kind → ℕ → Reading A → Reading (Table A)
table_at built k cap each input = made table_of (both
    (slot_count_at built k cap by λ count. many_at count (option_at each))
    (free_count_at built by λ count. many_at count id_at)
    ) input
