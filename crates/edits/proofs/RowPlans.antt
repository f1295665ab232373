-- What holds of the repetition of a row that a plan lets pass.
use Rattle.std.proofs.Common.{◌≡◌, ◌≤◌, ℕ, ℤ, pos, negsuc, Ok, subst, arith, rules}
use Rattle.std.proofs.lemmas.Bool.{and_parts, leb-true}
use Rattle.std.specs.Prelude.{nat_le}
use Rattle.odb_base.specs.Geometry.{IsCoordinate, is_coordinate}
use Rattle.edit_words.specs.declared.refusal.Refusal.TheVariants as refusal
use Rattle.block_store.specs.Rows.{IsRepeated, IsSiteCount}
use Rattle.edits.specs.declared.rows.Repeat.{Repeat}
use Rattle.edits.specs.Plan.{coordinate, is_site_count, site_count}
use Rattle.odb_base.proofs.Coordinates.{coordinate_test}
use Rattle.edits.proofs.Questions.{err_ok, tested}

-- a coordinate that was let pass
pub passed_coordinate : (n : ℤ) (place : ℕ) (m : ℤ) → coordinate n place ≡ Ok m → IsCoordinate m
passed_coordinate n place m h =
    let t = tested (is_coordinate n) n m (refusal.BadValue place) h in
    subst IsCoordinate t.1 ((coordinate_test n).0 t.0)

-- and a number of sites
pub passed_count : (n : ℤ) (place k : ℕ) → site_count n place ≡ Ok k → IsSiteCount k
passed_count (pos n) place k h =
    let t = tested (is_site_count (pos n)) n k (refusal.BadValue place) h in
    let parts = and_parts (nat_le 1 n) (nat_le n 1000000) t.0 in
    let some : 1 ≤ n = leb-true 1 n parts.0 in
    let few : n ≤ 1000000 = leb-true n 1000000 parts.1 in
    let same = t.1 in
    record { some = omega (arith, some, same); few = omega (arith, few, same) }
passed_count (negsuc n) place k h = absurd (err_ok (refusal.BadValue place) k h)

pub record IsLawfulRepeat (r : Repeat) : Type 0 where
  pub nx : IsSiteCount r.nx
  pub ny : IsSiteCount r.ny
  pub sx : IsCoordinate r.sx
  pub sy : IsCoordinate r.sy
  pub repeated : IsRepeated r.form r.nx r.ny r.sx r.sy

pub one_site : IsSiteCount 1
one_site = record { some = omega arith; few = omega arith }

pub no_step : IsCoordinate (pos 0)
no_step = search rules
