-- Placements of instances and pins.
use Rattle.std.specs.Prelude.{◌≡◌, pos}
use Rattle.odb_base.specs.Geometry.{IsCoordinate}
use Rattle.odb_base.specs.declared.codes.orient.Orient.TheVariants as orient
use Rattle.odb_base.specs.declared.codes.place_status.PlaceStatus.TheVariants as status
use Rattle.odb_base.specs.declared.geometry.Placement.{Placement}

-- the placement of what has no place
abbrev pub unplaced : Placement
unplaced = record { status = status.Unplaced; x = pos 0; y = pos 0; orientation = orient.N }

-- a placement has lawful coordinates, and one without a place stands at 0, 0 and is turned N
pub record IsPlacement (p : Placement) : Type 0 where
  pub x : IsCoordinate p.x
  pub y : IsCoordinate p.y
  pub unplaced : p.status ≡ status.Unplaced → p ≡ unplaced
