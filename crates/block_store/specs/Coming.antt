-- What kinds that are still to come state: there are no such objects.
use Rattle.std.specs.Prelude.{false, List, ℕ, Option}
use Rattle.block_store.specs.KindLaws.{KindLaws}
use Rattle.block_store.specs.Lens.{Lens}

abbrev pub coming_laws : {Entry : Type 0} → Option (Lens Entry (List ℕ)) → KindLaws Entry
coming_laws name = record {
  built = false;
  Links = Unit {0};
  see = λ e. tt;
  none = tt;
  name = name;
  Is = λ parts e. ⊥;
}
