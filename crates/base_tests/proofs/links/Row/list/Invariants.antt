-- What is listed and what is left make the list.
use Rattle.std.proofs.Common.{◌≡◌, ◌-◌, ◌++◌, length}
use Rattle.link_list.specs.Standing.{members_from}
use Rattle.link_list.specs.VecLinks.{link_of, members}
use Rattle.base_tests.proofs.links.Row.list.Given as goal

abbrev pub invariant-loop-next : goal.invariant-loop-next
invariant-loop-next l =
    let row = l.self-inside in
    l.list.items ++ members_from (link_of row.cells) (length row.cells - length l.list.items) l.next ≡ members row.cells row.head

abbrev pub decreases-loop-next : goal.decreases-loop-next
decreases-loop-next l = length l.self-inside.cells - length l.list.items
