use Rattle.std.proofs.Common.{◌≡◌, ◌-◌, length}
use Rattle.wires.specs.Reading.{all_suit, items_left, items_of}
use Rattle.wires.proofs.judging.is_lawful_within.Given as goal

abbrev pub invariant-elements : goal.invariant-elements
invariant-elements l = all_suit l.special (items_of l.limits l.code) ≡ all_suit l.special (items_left l.limits l.elements.due l.elements.input)

abbrev pub decreases-elements : goal.decreases-elements
decreases-elements l = length l.elements.input.bytes - l.elements.input.place
