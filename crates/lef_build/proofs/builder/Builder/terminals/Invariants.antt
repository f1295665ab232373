use Rattle.std.proofs.Common.{take}
use Rattle.lef_build.specs.Causes.{are_good_shapes}
use Rattle.lef_build.specs.Stated.{terminal_of}
use Rattle.lef_build.proofs.Walked.{IsMadeOf}
use Rattle.lef_build.proofs.builder.Builder.terminals.Given as goal

abbrev pub invariant-loop-pin : goal.invariant-loop-pin
invariant-loop-pin l = IsMadeOf (λ pin. are_good_shapes l.self.tech.units pin.shapes) (terminal_of l.self.tech) (take l.pin-index l.pins) l.made
