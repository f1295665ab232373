use Rattle.odb_run.proofs.LineLemmas.{line-end-found}
use Rattle.odb_run.proofs.run.line_end.Goals as goal

pub returns-clause-end : goal.returns-clause-end
returns-clause-end c = line-end-found c.args.bytes.now c.memchr.result c.memchr.ensures
