-- Row forms: their codes.
use Rattle.std.specs.Prelude.{List, [], ◌∷◌, ℕ}
use Rattle.odb_base.specs.declared.codes.row_form.RowForm.{RowForm}
use Rattle.odb_base.specs.declared.codes.row_form.RowForm.TheVariants as row_form

-- the row forms, in the order of the codes
abbrev pub row_forms : List RowForm
row_forms = row_form.Bare ∷ row_form.Do ∷ row_form.DoStep ∷ []

-- the code
abbrev pub row_form_code : RowForm → ℕ
row_form_code row_form.Bare = 0
row_form_code row_form.Do = 1
row_form_code row_form.DoStep = 2
