use Rattle.std.proofs.Common.{rules, ◌≡◌, []}
use Rattle.block_store.specs.Block.{free_in}
use Rattle.odb_fields.specs.Fields.{u32_bytes}
use Rattle.saved_reader.proofs.Appending.{list_appended}
use Rattle.odb_save.proofs.lists.put_free.Goals as goal

pub returns-clause-ok : goal.returns-clause-ok
returns-clause-ok c =
    let none : c.loop-id.id-iterator ≡ [] = search rules in
    list_appended u32_bytes (free_in c.args.kind c.args.block.now.block) c.loop-id.id-iterator _ _ _ _ none c.count_free.ensures c.in_ok-put_u32.ensures.ok c.loop-id.invariant.bytes
