-- The test of a coordinate is true exactly where the number is within the limit.
use Rattle.std.proofs.Common.{◌<◌, ◌≤◌, ◌↔◌, ℤ, pos, negsuc, arith}
use Rattle.std.specs.Prelude.{IsTrue}
use Rattle.std.proofs.lemmas.Bool.Decides.{nat_tests}
use Rattle.std.proofs.lemmas.Int.{ints}
use Rattle.odb_base.specs.Geometry.{IsCoordinate, is_coordinate}

pub coordinate_test : (z : ℤ) → IsTrue (is_coordinate z) ↔ IsCoordinate z
coordinate_test (pos n) = (
  λ h. let low : n ≤ 2000000000 = grind (arith, nat_tests, h) in (omega (arith, ints), omega (arith, ints, low)),
  λ h. let low : n ≤ 2000000000 = omega (arith, ints, h.1) in grind (arith, nat_tests, low),
)
coordinate_test (negsuc n) = (
  λ h. let low : n < 2000000000 = grind (arith, nat_tests, h) in (omega (arith, ints, low), omega (arith, ints)),
  λ h. let low : n < 2000000000 = omega (arith, ints, h.0) in grind (arith, nat_tests, low),
)
