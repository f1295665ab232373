-- What a net joins.
use Rattle.std.specs.Prelude.{[]}
use Rattle.def_tree.specs.declared.connections.Connections.{Connections}

-- nothing
abbrev pub no_connections : Connections
no_connections = record { pins = []; terminals = []; every = [] }
