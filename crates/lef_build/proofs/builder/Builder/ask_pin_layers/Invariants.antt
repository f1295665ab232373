use Rattle.std.proofs.Common.{◌≡◌, drop}
use Rattle.lef_build.specs.Causes.{unknown_pin_layers}
use Rattle.lef_build.proofs.builder.Builder.ask_pin_layers.Given as goal

abbrev pub invariant-loop-pin : goal.invariant-loop-pin
invariant-loop-pin l = unknown_pin_layers l.self.tech (drop l.pin-index l.pins) ≡ unknown_pin_layers l.self.tech l.pins
