-- What a row of sites states of itself.
use Rattle.std.proofs.Common.{refl}
use Rattle.std.specs.Prelude.{◌≡◌, ◌≤◌, true, List, [], ℕ, ℤ, pos, Some, length}
use Rattle.odb_base.specs.Geometry.{IsCoordinate}
use Rattle.odb_base.specs.Name.{IsName}
use Rattle.odb_base.specs.declared.codes.row_form.RowForm.{RowForm}
use Rattle.odb_base.specs.declared.codes.row_form.RowForm.TheVariants as form
use Rattle.block_records.specs.declared.row.RowRec.{RowRec}
use Rattle.tech.specs.Technology.{Technology}
use Rattle.block_store.specs.declared.entry.RowEntry.{RowEntry}
use Rattle.block_store.specs.KindLaws.{KindLaws}
use Rattle.block_store.specs.Lens.{Lens}

-- a row has 1 to 1,000,000 sites along each axis
pub record IsSiteCount (n : ℕ) : Type 0 where
  pub some : 1 ≤ n
  pub few : n ≤ 1000000

-- how often a site stands along x and along y, and at which steps, as far as the row spells it out: without DO it stands once, and without STEP the steps are 0
abbrev pub IsRepeated : RowForm → ℕ → ℕ → ℤ → ℤ → Type 0
IsRepeated form.Bare nx ny sx sy = (nx ≡ 1) × (ny ≡ 1) × (sx ≡ pos 0) × (sy ≡ pos 0)
IsRepeated form.Do nx ny sx sy = (sx ≡ pos 0) × (sy ≡ pos 0)
IsRepeated form.DoStep nx ny sx sy = Unit {0}

-- the fields of a row: a lawful name, a site of the technology, and counts and steps within their limits
pub record IsRowRec (tech : Technology) (r : RowRec) : Type 0 where
  pub name : IsName r.name
  pub site_from_one : 1 ≤ r.site
  pub site : r.site ≤ length tech.sites
  pub x : IsCoordinate r.x
  pub y : IsCoordinate r.y
  pub nx : IsSiteCount r.nx
  pub ny : IsSiteCount r.ny
  pub sx : IsCoordinate r.sx
  pub sy : IsCoordinate r.sy
  pub repeated : IsRepeated r.form r.nx r.ny r.sx r.sy

pub record IsRow (tech : Technology) (e : RowEntry) : Type 0 where
  pub fields : IsRowRec tech e.fields
  pub props : e.props ≡ []

abbrev pub row_name : Lens RowEntry (List ℕ)
row_name = record {
  get = λ e. e.fields.name;
  set = λ name e. record e { fields = record e.fields { name = name } };
  set_get = λ name e. refl;
  get_set = λ e. refl;
  set_set = λ new old e. refl;
}

-- no object names a row, and a row has no list of objects yet
abbrev pub row_laws : KindLaws RowEntry
row_laws = record {
  built = true;
  Links = Unit {0};
  see = λ e. tt;
  none = tt;
  name = Some row_name;
  Is = λ parts e. IsRow parts.tech e;
}
