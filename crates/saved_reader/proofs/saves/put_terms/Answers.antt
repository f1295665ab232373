use Rattle.std.proofs.Common.{rules, ◌≡◌, []}
use Rattle.block_store.specs.declared.list_of.ListOf.TheVariants as list
use Rattle.block_store.specs.Lists.{list_at}
use Rattle.saved_fields.specs.Bytes.{term_bytes}
use Rattle.saved_reader.proofs.Appending.{list_appended}
use Rattle.saved_reader.proofs.saves.put_terms.Goals as goal

pub returns-clause-ok : goal.returns-clause-ok
returns-clause-ok c =
    let none : c.loop-term.term-iterator ≡ [] = search rules in
    list_appended term_bytes (list_at (list.Terms c.args.net) c.args.block.now.block) c.loop-term.term-iterator _ _ _ _ none c.count_members.ensures c.in_ok-put_u32.ensures.ok c.loop-term.invariant.bytes
