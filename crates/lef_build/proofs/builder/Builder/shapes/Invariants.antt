use Rattle.std.proofs.Common.{◌≡◌, take}
use Rattle.tech.specs.Technology.{find_layer}
use Rattle.lef_build.specs.Distances.{has_corners}
use Rattle.lef_build.specs.Stated.{shape_of}
use Rattle.lef_build.proofs.Walked.{IsMadeOf}
use Rattle.lef_build.proofs.builder.Builder.shapes.Given as goal

abbrev pub invariant-loop-shape : goal.invariant-loop-shape
invariant-loop-shape l = record {
  made : IsMadeOf (λ s. has_corners l.self.tech.units s.rect) (shape_of l.self.tech) (take l.shape-index l.shapes) l.made;
  found : l.found ≡ find_layer l.self.tech l.last;
}
