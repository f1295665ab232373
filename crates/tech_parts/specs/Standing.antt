-- What stood in a technology and a library at a time, and how a database that grew goes back there.
use Rattle.std.specs.Prelude.{◌≡◌, ◌≤◌, ◌-◌, ◌++◌, List, ℕ, length}
use Rattle.tech.specs.Technology.{with_units}
use Rattle.block_store.specs.Database.{Database, cut_to, with_tech}
use Rattle.tech_parts.specs.declared.adding.Added.{Added}
use Rattle.tech_parts.specs.declared.standing.Standing.{Standing}

-- what stands in a database
abbrev pub standing_of : Database → Standing
standing_of d = record {
  units = d.tech.units;
  layers = length d.tech.layers;
  vias = length d.tech.vias;
  sites = length d.tech.sites;
  masters = length d.library;
}

-- the database with the units and the first of each list that stood then
abbrev pub back_to : Standing → Database → Database
back_to s d = cut_to s.layers s.vias s.sites s.masters (with_tech (with_units s.units d.tech) d)

-- the list is the other with more behind it
pub record IsLonger {A : Type 0} (old new : List A) : Type 0 where
  pub more : List A
  pub is : new ≡ old ++ more

-- more parts stand than before, and nothing else has changed but the units
pub record HasMoreParts (old new : Database) : Type 0 where
  pub layers : IsLonger old.tech.layers new.tech.layers
  pub vias : IsLonger old.tech.vias new.tech.vias
  pub sites : IsLonger old.tech.sites new.tech.sites
  pub masters : IsLonger old.library new.library
  pub block : new.block ≡ old.block
  pub cap : new.cap ≡ old.cap

-- at least so much stands
pub record HasAtLeast (s : Standing) (d : Database) : Type 0 where
  pub layers : s.layers ≤ length d.tech.layers
  pub vias : s.vias ≤ length d.tech.vias
  pub sites : s.sites ≤ length d.tech.sites
  pub masters : s.masters ≤ length d.library

-- what was entered since, the last one with this identifier
abbrev pub added_after : Standing → ℕ → Database → Added
added_after s last d = record {
  layers = length d.tech.layers - s.layers;
  vias = length d.tech.vias - s.vias;
  sites = length d.tech.sites - s.sites;
  masters = length d.library - s.masters;
  last = last;
}
