use Rattle.lef_build.proofs.Standing.{items_are_entered, macros_have_sites, vias_are_on_layers}
use Rattle.lef_build.proofs.laws.what_parts_name.Goals as goal

pub returns-clause-entered : goal.returns-clause-entered
returns-clause-entered c = items_are_entered

pub returns-clause-layers : goal.returns-clause-layers
returns-clause-layers c = vias_are_on_layers

pub returns-clause-sites : goal.returns-clause-sites
returns-clause-sites c = macros_have_sites
