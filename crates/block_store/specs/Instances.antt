-- What an instance states of itself.
use Rattle.std.proofs.Common.{refl}
use Rattle.std.specs.Prelude.{◌≡◌, true, List, [], ℕ, Option, Some, length, option_map}
use Rattle.odb_base.specs.Name.{IsName}
use Rattle.library.specs.Masters.{master_at}
use Rattle.library.specs.declared.master.Master.{Master}
use Rattle.block_store.specs.declared.entry.InstEntry.{InstEntry}
use Rattle.block_store.specs.KindLaws.{KindLaws}
use Rattle.block_store.specs.Lens.{Lens}
use Rattle.block_store.specs.Placements.{IsPlacement}

-- how many terminals the master of an identifier has
abbrev pub term_count : List Master → ℕ → Option ℕ
term_count library id = option_map (λ m. length m.terminals) (master_at library id)

-- an instance has a lawful name and placement, a master of the library, and a terminal for each of the master's
pub record IsInst (library : List Master) (e : InstEntry) : Type 0 where
  pub name : IsName e.fields.name
  pub place : IsPlacement e.fields.place
  pub fitted : term_count library e.fields.master ≡ Some (length e.fields.terminals)
  pub group : e.fields.group ≡ 0
  pub kept : e.fields.kept ≡ []
  pub props : e.props ≡ []

-- the terminals of an instance, in the order of its master's
pub record InstLinks : Type 0 where
  pub terminals : List ℕ

abbrev pub inst_name : Lens InstEntry (List ℕ)
inst_name = record {
  get = λ e. e.fields.name;
  set = λ name e. record e { fields = record e.fields { name = name } };
  set_get = λ name e. refl;
  get_set = λ e. refl;
  set_set = λ new old e. refl;
}

abbrev pub inst_laws : KindLaws InstEntry
inst_laws = record {
  built = true;
  Links = InstLinks;
  see = λ e. record { terminals = e.fields.terminals };
  none = record { terminals = [] };
  name = Some inst_name;
  Is = λ parts e. IsInst parts.library e;
}
