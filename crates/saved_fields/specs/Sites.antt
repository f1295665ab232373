-- The sites of a row: their form, how many stand along each axis, and the steps along both.
use Rattle.std.specs.Prelude.{◌==◌, ◌++◌, Bool, false, List, ℕ, ℤ, pos, negsuc}
use Rattle.odb_base.specs.Geometry.{is_coordinate}
use Rattle.odb_base.specs.RowForm.{row_form_code, row_forms}
use Rattle.odb_base.specs.declared.codes.row_form.RowForm.{RowForm}
use Rattle.odb_base.specs.declared.codes.row_form.RowForm.TheVariants as row_form
use Rattle.block_records.specs.declared.row.RowRec.{RowRec}
use Rattle.odb_fields.specs.Fields.{i32_bytes, u8_bytes, u32_bytes}
use Rattle.saved_fields.specs.Fields.{coded_at, distance_at, number_at}
use Rattle.saved_fields.specs.Reading.{Reading, ◌then◌}

-- how many sites a row of this form has along an axis, at most
abbrev pub most_sites : RowForm → ℕ
most_sites row_form.Bare = 1
most_sites row_form.Do = 1000000
most_sites row_form.DoStep = 1000000

-- a step from site to site of a row of this form
abbrev pub may_step : RowForm → ℤ → Bool
may_step row_form.Bare (pos n) = n == 0
may_step row_form.Bare (negsuc n) = false
may_step row_form.Do (pos n) = n == 0
may_step row_form.Do (negsuc n) = false
may_step row_form.DoStep z = is_coordinate z

-- the form, how many sites stand along x and along y, and the steps along both
abbrev pub Sites : Type 0
Sites = (((RowForm × ℕ) × ℕ) × ℤ) × ℤ

abbrev pub sites_of : RowRec → Sites
sites_of r = ((((r.form, r.nx), r.ny), r.sx), r.sy)

unfoldable pub sites_bytes : Sites → List ℕ
sites_bytes t = u8_bytes (row_form_code t.0.0.0.0) ++ u32_bytes t.0.0.0.1 ++ u32_bytes t.0.0.1 ++ i32_bytes t.0.1 ++ i32_bytes t.1

unfoldable pub sites_at : Reading Sites
sites_at input = (
    coded_at row_form_code row_forms
    then (λ form. number_at 1 (most_sites form))
    then (λ t. number_at 1 (most_sites t.0))
    then (λ t. distance_at (may_step t.0.0))
    then (λ t. distance_at (may_step t.0.0.0))
    ) input
