-- The sites of a row are read back, and have no second spelling.
use Rattle.std.proofs.Common.{ℕ, ℤ, refl, arith}
use Rattle.odb_base.specs.RowForm.{row_form_code, row_forms}
use Rattle.odb_base.specs.declared.codes.row_form.RowForm.{RowForm}
use Rattle.odb_base.specs.declared.codes.row_form.RowForm.TheVariants as row_form
use Rattle.odb_fields.specs.Fields.{i32_bytes, u32_bytes}
use Rattle.saved_fields.specs.Fields.{distance_at, number_at}
use Rattle.saved_fields.specs.Sites.{may_step, most_sites, sites_at, sites_bytes}
use Rattle.saved_fields.specs.Lawful.{IsDistance, IsNumber, IsSites}
use Rattle.saved_fields.proofs.Codec.{IsCodec, then_codec}
use Rattle.saved_fields.proofs.Single.{IsSet, coded_codec, distance_codec, number_codec}

row_forms_set : IsSet row_form_code row_forms
row_forms_set = record {
  again = elim [ row_form.Bare ↦ refl | row_form.Do ↦ refl | row_form.DoStep ↦ refl ];
  small = elim [ row_form.Bare ↦ omega arith | row_form.Do ↦ omega arith | row_form.DoStep ↦ omega arith ];
}

pub sites_codec : IsCodec sites_at sites_bytes IsSites
unfolding sites_at sites_bytes
sites_codec =
    let form = coded_codec row_form_code row_forms row_forms_set in
    let nx = then_codec _ (λ form. number_at 1 (most_sites form)) _ u32_bytes _ (λ form. IsNumber 1 (most_sites form)) form (λ form. number_codec 1 (most_sites form)) in
    let ny = then_codec _ (λ (t : RowForm × ℕ). number_at 1 (most_sites t.0)) _ u32_bytes _ (λ t. IsNumber 1 (most_sites t.0)) nx (λ t. number_codec 1 (most_sites t.0)) in
    let sx = then_codec _ (λ (t : (RowForm × ℕ) × ℕ). distance_at (may_step t.0.0)) _ i32_bytes _ (λ t. IsDistance (may_step t.0.0)) ny (λ t. distance_codec (may_step t.0.0)) in
    then_codec _ (λ (t : ((RowForm × ℕ) × ℕ) × ℤ). distance_at (may_step t.0.0.0)) _ i32_bytes _ (λ t. IsDistance (may_step t.0.0.0)) sx (λ t. distance_codec (may_step t.0.0.0))
