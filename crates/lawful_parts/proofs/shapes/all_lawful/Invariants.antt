use Rattle.std.proofs.Common.{◌≡◌, drop}
use Rattle.std.specs.List.{list_all}
use Rattle.lawful_parts.specs.Tests.{is_shape}
use Rattle.lawful_parts.proofs.shapes.all_lawful.Given as goal

abbrev pub invariant-loop-shape : goal.invariant-loop-shape
invariant-loop-shape l = list_all (is_shape l.tech) (drop l.shape-index l.shapes) ≡ list_all (is_shape l.tech) l.shapes
