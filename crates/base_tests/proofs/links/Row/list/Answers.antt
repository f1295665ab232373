use Rattle.std.proofs.Common.{◌<◌, arith, length}
use Rattle.link_list.specs.VecLinks.{link_of, members}
use Rattle.link_list.proofs.Vectors.{listed_more}
use Rattle.base_tests.proofs.links.Row.list.Goals as goal

pub loop-next-preserved : goal.loop-next-preserved
loop-next-preserved c =
    let row = c.self.inside in
    let room : length c.loop-next.list.items < length row.cells = omega (arith, c.loop-next.list.ok.0) in
    listed_more (link_of row.cells) c.loop-next.list.items c.push.new.self.items (members row.cells row.head) (length row.cells) c.loop-next.next c.after-next.result
    room c.loop-next-test.true c.in_ok-push.ensures.items c.after-next.ensures c.loop-next.invariant
