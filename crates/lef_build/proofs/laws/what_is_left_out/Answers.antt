use Rattle.lef_build.proofs.Second.{second_layers, second_macros, second_sites, second_vias}
use Rattle.lef_build.proofs.laws.what_is_left_out.Goals as goal

pub returns-clause-layers : goal.returns-clause-layers
returns-clause-layers c = second_layers

pub returns-clause-vias : goal.returns-clause-vias
returns-clause-vias c = second_vias

pub returns-clause-sites : goal.returns-clause-sites
returns-clause-sites c = second_sites

pub returns-clause-macros : goal.returns-clause-macros
returns-clause-macros c = second_macros
