-- What is left of the list begins with the next number.
use Rattle.std.proofs.Common.{◌≡◌, length}
use Rattle.odb_base.specs.Ids.{first}
use Rattle.link_list.specs.Standing.{last_or, number}
use Rattle.link_list.proofs.Walking.{from}
use Rattle.link_list.proofs.edits.last.Given as goal

abbrev pub invariant-loop-next : goal.invariant-loop-next
invariant-loop-next g l = record {
  first : l.next ≡ number (first (from l.next g.ids));
  last : last_or l.last (from l.next g.ids) ≡ last_or 0 g.ids;
}

abbrev pub decreases-loop-next : goal.decreases-loop-next
decreases-loop-next g l = length (from l.next g.ids)
