-- The sink has gained what is done of the bytes.
use Rattle.std.proofs.Common.{length, take, ◌-◌, ◌≡◌, ◌≤◌, IsTrue}
use Rattle.odb_outside.specs.Writing.{Grows}
use Rattle.odb_outside.proofs.sink.write_all.Given as goal

abbrev pub invariant-loop-done : goal.invariant-loop-done
invariant-loop-done g l =
    let sink = g.K.Sink in
    record {
      done : l.done ≤ length l.bytes;
      ready : IsTrue (sink.ready l.sink);
      grown : Grows (sink.held l.initial.sink) (sink.held l.sink) (take l.done l.bytes);
      later : sink.faults l.initial.sink ≤ sink.faults l.sink;
      rest : sink.rest l.sink ≡ sink.rest l.initial.sink;
    }

abbrev pub decreases-loop-done : goal.decreases-loop-done
decreases-loop-done g l = length l.bytes - l.done
