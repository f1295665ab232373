use Rattle.std.proofs.Common.{◌≡◌, ◌-◌, ◌||◌, true, length}
use Rattle.std.specs.Prelude.{is_some}
use Rattle.wires.specs.Gathered.{gathered}
use Rattle.wires.specs.Paths.{with_pieces}
use Rattle.wires.specs.Reading.{is_start, items_left, items_of}
use Rattle.wires.proofs.decoding.read_elements.Given as goal

abbrev pub invariant-elements : goal.invariant-elements
invariant-elements l = record {
  read : items_of l.limits l.code ≡ with_pieces (gathered l.paths) (items_left l.limits l.elements.due l.elements.input);
  last : (is_start l.elements.due || is_some l.paths.last) ≡ true;
}

abbrev pub decreases-elements : goal.decreases-elements
decreases-elements l = length l.elements.input.bytes - l.elements.input.place
