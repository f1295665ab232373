use Rattle.wires.proofs.Accepted.{accepted_codes}
use Rattle.wires.proofs.laws.accepted_codes_are_decoded.Goals as goal

pub returns : goal.returns
returns c = accepted_codes
