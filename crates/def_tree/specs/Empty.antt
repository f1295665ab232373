-- What a text holds that states nothing.
use Rattle.std.specs.Prelude.{[], None, codes}
use Rattle.def_tree.specs.declared.tree.DefTree.{DefTree}
use Rattle.def_tree.specs.Definitions.{no_definitions}

-- the header of an empty block, and no elements
abbrev pub empty_tree : DefTree
empty_tree = record {
  design = [];
  divider = codes "/";
  bus = codes "[]";
  units = 0;
  definitions = no_definitions;
  die = None;
  rows = [];
  tracks = [];
  vias = [];
  regions = [];
  components = [];
  pins = [];
  blockages = [];
  nets = [];
  groups = [];
}
