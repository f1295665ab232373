-- What a terminal of the block states of itself.
use Rattle.std.proofs.Common.{refl}
use Rattle.std.specs.Prelude.{◌≡◌, IsTrue, true, List, [], ℕ, Some}
use Rattle.odb_base.specs.Direction.{is_bterm_direction}
use Rattle.odb_base.specs.Name.{IsName}
use Rattle.block_store.specs.declared.entry.BTermEntry.{BTermEntry}
use Rattle.block_store.specs.KindLaws.{KindLaws}
use Rattle.block_store.specs.Lens.{Lens}

-- a block terminal has a lawful name and direction
pub record IsBTerm (e : BTermEntry) : Type 0 where
  pub name : IsName e.fields.name
  pub direction : IsTrue (is_bterm_direction e.fields.direction)
  pub kept : e.fields.kept ≡ []
  pub pins : e.pins ≡ []

-- the net that a block terminal is joined to, 0 for none
pub record BTermLinks : Type 0 where
  pub net : ℕ

abbrev pub bterm_name : Lens BTermEntry (List ℕ)
bterm_name = record {
  get = λ e. e.fields.name;
  set = λ name e. record e { fields = record e.fields { name = name } };
  set_get = λ name e. refl;
  get_set = λ e. refl;
  set_set = λ new old e. refl;
}

abbrev pub bterm_laws : KindLaws BTermEntry
bterm_laws = record {
  built = true;
  Links = BTermLinks;
  see = λ e. record { net = e.fields.net };
  none = record { net = 0 };
  name = Some bterm_name;
  Is = λ parts e. IsBTerm e;
}
