use Rattle.std.proofs.Common.{rules, ◌≡◌, []}
use Rattle.block_store.specs.Lists.{list_at}
use Rattle.odb_fields.specs.Fields.{u32_bytes}
use Rattle.saved_reader.proofs.Appending.{list_appended}
use Rattle.saved_reader.proofs.saves.put_members.Goals as goal

pub returns-clause-ok : goal.returns-clause-ok
returns-clause-ok c =
    let none : c.loop-member.member-iterator ≡ [] = search rules in
    list_appended u32_bytes (list_at c.args.list c.args.block.now.block) c.loop-member.member-iterator _ _ _ _ none c.count_members.ensures c.in_ok-put_u32.ensures.ok c.loop-member.invariant.bytes
