-- A net of which nothing is said.
use Rattle.std.specs.Prelude.{false, []}
use Rattle.odb_base.specs.declared.codes.usage.Usage.TheVariants as usage
use Rattle.def_tree.specs.declared.nets.DefNet.{DefNet}
use Rattle.def_tree.specs.Connections.{no_connections}

abbrev pub empty_net : DefNet
empty_net =
    record {
      special = false;
      connections = no_connections;
      usage = usage.None;
      kept = [];
      special_kept = [];
      wires = [];
      special_wires = [];
      props = [];
      special_props = [];
    }
