-- The definitions of properties, by owner and name.
use Rattle.std.specs.Prelude.{List, [], ℕ}
use Rattle.odb_base.specs.declared.codes.owner.Owner.{Owner}
use Rattle.odb_base.specs.declared.codes.owner.Owner.TheVariants as owner
use Rattle.def_tree.specs.declared.definitions.DefDefinition.{DefDefinition}
use Rattle.def_tree.specs.declared.definitions.DefDefinitions.{DefDefinitions}
use Rattle.def_tree.specs.ByName.{put}

-- none
abbrev pub no_definitions : DefDefinitions
no_definitions = record { design = []; component = []; net = []; special_net = []; row = []; region = []; group = []; component_pin = [] }

-- those of an owner
abbrev pub definitions_of : Owner → DefDefinitions → List (List ℕ × DefDefinition)
definitions_of owner.Design d = d.design
definitions_of owner.Component d = d.component
definitions_of owner.Net d = d.net
definitions_of owner.SpecialNet d = d.special_net
definitions_of owner.Row d = d.row
definitions_of owner.Region d = d.region
definitions_of owner.Group d = d.group
definitions_of owner.ComponentPin d = d.component_pin

-- with one more of an owner
abbrev pub with_definition : Owner → List ℕ → DefDefinition → DefDefinitions → DefDefinitions
with_definition owner.Design name it d = record d { design = put name it d.design }
with_definition owner.Component name it d = record d { component = put name it d.component }
with_definition owner.Net name it d = record d { net = put name it d.net }
with_definition owner.SpecialNet name it d = record d { special_net = put name it d.special_net }
with_definition owner.Row name it d = record d { row = put name it d.row }
with_definition owner.Region name it d = record d { region = put name it d.region }
with_definition owner.Group name it d = record d { group = put name it d.group }
with_definition owner.ComponentPin name it d = record d { component_pin = put name it d.component_pin }
