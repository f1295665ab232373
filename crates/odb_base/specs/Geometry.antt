-- Coordinates and turned sizes.
use Rattle.std.specs.Prelude.{Bool, ℤ, pos, negsuc, ◌≤ℤ◌, nat_le, nat_lt, neg_ℤ}
use Rattle.odb_base.specs.declared.codes.orient.Orient.{Orient}
use Rattle.odb_base.specs.declared.codes.orient.Orient.TheVariants as orient
use Rattle.odb_base.specs.declared.geometry.Rect.{Rect}

-- width and height of an object of these once it is turned
abbrev pub oriented : Orient → ℤ → ℤ → ℤ × ℤ
oriented orient.N w h = (w, h)
oriented orient.S w h = (w, h)
oriented orient.FN w h = (w, h)
oriented orient.FS w h = (w, h)
oriented orient.W w h = (h, w)
oriented orient.E w h = (h, w)
oriented orient.FW w h = (h, w)
oriented orient.FE w h = (h, w)

-- the number is within the limit of coordinates
abbrev pub IsCoordinate : ℤ → Type 0
IsCoordinate n = (neg_ℤ (pos 2000000000) ≤ℤ n) × (n ≤ℤ pos 2000000000)

-- the same as a test
abbrev pub is_coordinate : ℤ → Bool
is_coordinate (pos n) = nat_le n 2000000000
is_coordinate (negsuc n) = nat_lt n 2000000000

-- a rectangle has lawful coordinates, and goes from its lower left corner to its upper right one
pub record IsRect (r : Rect) : Type 0 where
  pub xl : IsCoordinate r.xl
  pub yl : IsCoordinate r.yl
  pub xh : IsCoordinate r.xh
  pub yh : IsCoordinate r.yh
  pub wide : r.xl ≤ℤ r.xh
  pub high : r.yl ≤ℤ r.yh
