use Rattle.std.proofs.Common.{◌≡◌, take}
use Rattle.wires.specs.Paths.{paths_bytes}
use Rattle.wires.proofs.encoding.encode.Given as goal

abbrev pub invariant-loop-path : goal.invariant-loop-path
invariant-loop-path l = l.bytes.items ≡ paths_bytes (take l.path-index l.path-items)
