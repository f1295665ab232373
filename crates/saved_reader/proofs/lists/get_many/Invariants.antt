-- The items so far, and those still to be read.
use Rattle.std.proofs.Common.{◌≡◌, ◌-◌}
use Rattle.saved_fields.specs.Reading.{many_at}
use Rattle.saved_reader.proofs.Gathered.{with_front}
use Rattle.saved_reader.proofs.lists.get_many.Given as goal

abbrev pub invariant-loop : goal.invariant-loop
invariant-loop g l = with_front l.items.items (many_at (l.count - l.counter) g.T.Spelled.format.at l.input) ≡ many_at l.count g.T.Spelled.format.at l.fn.input
