-- A row that is being read.
use Rattle.std.specs.Prelude.{Bool, List, [], ◌∷◌, ℕ, Option, Some, None, Result, Ok, Err, if◌then◌else◌, is_none, is_some, slice_get}
use Rattle.odb_base.specs.declared.codes.row_form.RowForm.{RowForm}
use Rattle.odb_base.specs.declared.codes.row_form.RowForm.TheVariants as form
use Rattle.odb_fields.specs.Reading.{◌>>=◌}
use Rattle.ld_reader.specs.declared.language.Begun.TheVariants as begun
use Rattle.def_forms.specs.declared.flaw.Flaw.{Flaw}
use Rattle.def_forms.specs.declared.form.Statement.{Statement}
use Rattle.def_forms.specs.declared.form.Statement.TheVariants as statement
use Rattle.def_forms.specs.declared.keyword.Keyword.TheVariants as keyword
use Rattle.def_forms.specs.Keywords.{is}
use Rattle.def_tree.specs.declared.floorplan.DefRow.{DefRow}
use Rattle.def_drafts.specs.declared.row.RowDraft.{RowDraft}
use Rattle.def_drafts.specs.declared.row.Sites.{Sites}
use Rattle.def_drafts.specs.Options.{Begins, no_options, options_begun, options_set}
use Rattle.def_drafts.specs.Values.{Words, coordinate_at, count_at, name_at, orientation_at}

-- behind its name
abbrev pub new_row : List ℕ → RowDraft
new_row name = record { name = name; sites = None; options = no_options }

-- the word of an option: a row has properties alone
unfoldable pub row_option : List ℕ → Begins
row_option word = if is keyword.Property word then begun.Taken statement.Property else begun.Within statement.Stray

-- what a word begins
abbrev pub row_begun : RowDraft → List ℕ → Begins
row_begun r word = if is_none r.sites then begun.Within statement.RowSites else options_begun r.options word (row_option word)

-- by whether the words have STEP, or DO
abbrev pub form_in : Words → RowForm
form_in words =
    if is_some (slice_get words 7) then form.DoStep
    else if is_some (slice_get words 4) then form.Do
    else form.Bare

-- `site x y orientation [DO nx BY ny [STEP sx sy]]`
abbrev pub sites_in : List ℕ → Words → Sites
sites_in site words =
    record {
      site = site;
      x = coordinate_at words 1;
      y = coordinate_at words 2;
      orientation = orientation_at words 3;
      form = form_in words;
      nx = count_at words 5;
      ny = count_at words 6;
      sx = coordinate_at words 8;
      sy = coordinate_at words 9;
    }

-- with one more statement
unfoldable pub row_set : RowDraft → Statement → Words → Result RowDraft Flaw
row_set r statement.RowSites words = name_at words 0 >>= λ site. Ok (record r { sites = Some (sites_in site words) })
row_set r other words = options_set r.options other words >>= λ options. Ok (record r { options = options })

-- its name and what it is
abbrev pub with_sites : RowDraft → Option Sites → Option (List ℕ × DefRow)
with_sites r (Some s) =
    Some (
      r.name,
      record {
        site = s.site;
        x = s.x;
        y = s.y;
        orientation = s.orientation;
        form = s.form;
        nx = s.nx;
        ny = s.ny;
        sx = s.sx;
        sy = s.sy;
        props = r.options.props;
      },
    )
with_sites r None = None

abbrev pub row_of : RowDraft → Option (List ℕ × DefRow)
row_of r = with_sites r r.sites
