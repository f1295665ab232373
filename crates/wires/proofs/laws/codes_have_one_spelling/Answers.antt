use Rattle.wires.proofs.Decoded.{decoded}
use Rattle.wires.proofs.Grouped.{same_paths}
use Rattle.wires.proofs.laws.codes_have_one_spelling.Goals as goal

pub returns : goal.returns
returns c = record { spelling = λ limits code paths are e. (let d = decoded limits code paths are e in (d.1, d.0)); elements = same_paths }
