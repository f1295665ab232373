-- Distances, sizes and rectangles in database units.
use Rattle.std.specs.Prelude.{◌&&◌, Bool, List, ℕ, ℤ, pos, Option, Some, None, is_some, not, unwrap_or}
use Rattle.std.specs.Int.{int_max, int_min, is_negative}
use Rattle.std.specs.Result.{result_ok}
use Rattle.odb_base.specs.declared.geometry.Rect.{Rect}
use Rattle.ld_words.specs.Decimal.{units_of}
use Rattle.lef_tree.specs.declared.tree.LefRect.{LefRect}

-- the number that a distance has: 0 where none is stated, and none where it is no decimal or out of range
abbrev pub distance_of : ℕ → Option (List ℕ) → Option ℤ
distance_of units None = Some (pos 0)
distance_of units (Some word) = result_ok (units_of units word)

-- the distance has a number
unfoldable pub is_distance : ℕ → Option (List ℕ) → Bool
is_distance units stated = is_some (distance_of units stated)

-- the number that a distance has, 0 where it has none
unfoldable pub in_units : ℕ → Option (List ℕ) → ℤ
in_units units stated = unwrap_or (distance_of units stated) (pos 0)

-- a size is a distance that isn't negative
unfoldable pub is_size : ℕ → Option (List ℕ) → Bool
is_size units stated = is_distance units stated && not (is_negative (in_units units stated))

-- each coordinate of two corners has a number
unfoldable pub has_corners : ℕ → LefRect → Bool
has_corners units r = is_distance units (Some r.x1) && is_distance units (Some r.y1) && is_distance units (Some r.x2) && is_distance units (Some r.y2)

-- the rectangle of two corners, which come in any order
unfoldable pub rect_of : ℕ → LefRect → Rect
rect_of units r = record {
  xl = int_min (in_units units (Some r.x1)) (in_units units (Some r.x2));
  yl = int_min (in_units units (Some r.y1)) (in_units units (Some r.y2));
  xh = int_max (in_units units (Some r.x1)) (in_units units (Some r.x2));
  yh = int_max (in_units units (Some r.y1)) (in_units units (Some r.y2));
}
