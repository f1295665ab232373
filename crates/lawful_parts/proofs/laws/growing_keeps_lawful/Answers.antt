use Rattle.lawful_parts.proofs.Growing.{entering_keeps_libraries, growing_keeps_libraries, layers_keep_lawful, sites_keep_lawful, units_keep_lawful, vias_keep_lawful}
use Rattle.lawful_parts.proofs.laws.growing_keeps_lawful.Goals as goal

pub returns : goal.returns
returns c = record {
  units = units_keep_lawful;
  layers = layers_keep_lawful;
  vias = vias_keep_lawful;
  sites = sites_keep_lawful;
  libraries = growing_keeps_libraries;
  masters = entering_keeps_libraries;
}
