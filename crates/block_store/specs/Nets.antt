-- What a net states of itself.
use Rattle.std.proofs.Common.{refl}
use Rattle.std.specs.Prelude.{◌≡◌, true, List, [], ℕ, Some}
use Rattle.odb_base.specs.Name.{IsName}
use Rattle.block_store.specs.declared.entry.NetEntry.{NetEntry}
use Rattle.block_store.specs.KindLaws.{KindLaws}
use Rattle.block_store.specs.Lens.{Lens}

-- a net has a lawful name
pub record IsNet (e : NetEntry) : Type 0 where
  pub name : IsName e.fields.name
  pub kept : e.fields.kept ≡ []
  pub special_kept : e.fields.special_kept ≡ []
  pub wires : e.wires ≡ []
  pub props : e.props ≡ []

-- the terminals of a net, by their numbers
pub record NetLinks : Type 0 where
  pub terms : List ℕ

abbrev pub net_name : Lens NetEntry (List ℕ)
net_name = record {
  get = λ e. e.fields.name;
  set = λ name e. record e { fields = record e.fields { name = name } };
  set_get = λ name e. refl;
  get_set = λ e. refl;
  set_set = λ new old e. refl;
}

abbrev pub net_laws : KindLaws NetEntry
net_laws = record {
  built = true;
  Links = NetLinks;
  see = λ e. record { terms = e.terms };
  none = record { terms = [] };
  name = Some net_name;
  Is = λ parts e. IsNet e;
}
