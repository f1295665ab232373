use Rattle.saved_reader.proofs.Within.{answer_units, answer_within}
use Rattle.saved_reader.proofs.reading.read_saved.Goals as goal

pub returns-clause-within : goal.returns-clause-within
returns-clause-within c = answer_within c.args.cap c.args.bytes.now c.read_all.result c.read_all.ensures

pub returns-clause-units : goal.returns-clause-units
returns-clause-units c = answer_units c.args.cap c.args.bytes.now c.read_all.result c.read_all.ensures
