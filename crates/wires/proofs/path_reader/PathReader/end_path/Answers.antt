use Rattle.std.proofs.Common.{sym}
use Rattle.std.proofs.lemmas.List.Elements.{All-push}
use Rattle.wires.specs.Paths.{IsShort}
use Rattle.wires.proofs.path_reader.PathReader.end_path.Goals as goal

pub returns-in_ok-push-in-Some-clause-short : goal.returns-in_ok-push-in-Some-clause-short
returns-in_ok-push-in-Some-clause-short c = λ short. record {
  done = rw (c.in_ok-push-in-Some.ensures.ok) (All-push IsShort c.args.self.now.done _ short.done (c.in_ok-ended-in-Some.ensures.short (rw (sym c.in-Some.ensures.value) at short.last)));
  last = rw (c.take.ensures.after) tt;
}
