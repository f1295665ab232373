-- The terminals so far, and those still to be read.
use Rattle.std.proofs.Common.{◌≡◌, ◌-◌}
use Rattle.saved_fields.specs.Parts.{term_at}
use Rattle.saved_fields.specs.Reading.{many_at}
use Rattle.saved_reader.proofs.Gathered.{with_front}
use Rattle.saved_reader.proofs.lists.get_term_numbers.Given as goal

abbrev pub invariant-loop : goal.invariant-loop
invariant-loop l = with_front l.numbers.items (many_at (l.count - l.counter) term_at l.input) ≡ many_at l.count term_at l.fn.input
