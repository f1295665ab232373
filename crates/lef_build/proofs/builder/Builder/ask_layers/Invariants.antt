use Rattle.std.proofs.Common.{◌≡◌, drop}
use Rattle.tech.specs.Technology.{find_layer}
use Rattle.lef_build.specs.Causes.{unknown_layers}
use Rattle.lef_build.proofs.builder.Builder.ask_layers.Given as goal

abbrev pub invariant-loop-shape : goal.invariant-loop-shape
invariant-loop-shape l = record {
  asked : unknown_layers l.self.tech (drop l.shape-index l.shapes) ≡ unknown_layers l.self.tech l.shapes;
  found : l.found ≡ find_layer l.self.tech l.last;
}
