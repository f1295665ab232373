use Rattle.wires.proofs.Decoded.{encoded}
use Rattle.wires.proofs.laws.codes_are_read_back.Goals as goal

pub returns : goal.returns
returns c = encoded
