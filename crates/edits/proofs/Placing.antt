-- What holds of a placement that a plan lets pass.
use Rattle.std.proofs.Common.{◌≡◌, ◌<◌, ◌≤◌, ◌&&◌, true, ℤ, pos, negsuc, refl, ap, ◌∙◌, arith}
use Rattle.std.proofs.lemmas.Bool.{and_parts, eqb-true, false≢true, leb-true, ltb-true}
use Rattle.std.proofs.lemmas.Int.{ints}
use Rattle.odb_base.proofs.Coordinates.{coordinate_test}
use Rattle.odb_base.specs.Geometry.{IsCoordinate, is_coordinate}
use Rattle.odb_base.specs.declared.codes.orient.Orient.{Orient}
use Rattle.odb_base.specs.declared.codes.orient.Orient.TheVariants as orient
use Rattle.odb_base.specs.declared.codes.place_status.PlaceStatus.{PlaceStatus}
use Rattle.odb_base.specs.declared.codes.place_status.PlaceStatus.TheVariants as status
use Rattle.block_store.specs.Placements.{IsPlacement, unplaced}
use Rattle.edits.specs.Plan.{fits_status, is_north, is_zero}

zero_is : (n : ℤ) → is_zero n ≡ true → n ≡ pos 0
zero_is (pos n) h = ap pos (eqb-true n 0 h)
zero_is (negsuc n) h = absurd (false≢true h)

north_is : (orientation : Orient) → is_north orientation ≡ true → orientation ≡ orient.N
north_is orient.N h = refl
north_is other h = absurd (false≢true h)

-- who is unplaced stands at 0, 0 and is turned N
stands : (state : PlaceStatus) (x y : ℤ) (orientation : Orient) → fits_status state x y orientation ≡ true → state ≡ status.Unplaced → record { status = state; x = x; y = y; orientation = orientation } ≡ unplaced
stands status.Unplaced x y orientation h e =
    let parts = and_parts (is_zero x && is_zero y) (is_north orientation) h in
    let zeros = and_parts (is_zero x) (is_zero y) parts.0 in
    ap (λ n. record { status = status.Unplaced; x = n; y = y; orientation = orientation }) (zero_is x zeros.0)
    ∙ ap (λ n. record { status = status.Unplaced; x = pos 0; y = n; orientation = orientation }) (zero_is y zeros.1)
    ∙ ap (λ o. record { status = status.Unplaced; x = pos 0; y = pos 0; orientation = o }) (north_is orientation parts.1)
stands other x y orientation h e = cc

pub lawful_placement : (state : PlaceStatus) (x y : ℤ) (orientation : Orient) → is_coordinate x ≡ true → is_coordinate y ≡ true → fits_status state x y orientation ≡ true → IsPlacement (record { status = state; x = x; y = y; orientation = orientation })
lawful_placement state x y orientation along_x along_y fits = record {
  x = (coordinate_test x).0 along_x;
  y = (coordinate_test y).0 along_y;
  unplaced = stands state x y orientation fits;
}
