use Rattle.std.proofs.Common.{◌≡◌, subst}
use Rattle.block_store.specs.Block.{next_in}
use Rattle.block_store.specs.Names.{find_in}
use Rattle.block_steps.proofs.Judged.{nameable}
use Rattle.block_steps.proofs.judging.can_name.Goals as goal

pub returns-then-from-next_id : goal.returns-then-from-next_id
returns-then-from-next_id c =
    let next : c.args.id ≡ next_in c.args.kind c.args.block.now.block = cc in
    let found : c.find.result ≡ find_in c.args.kind c.args.name.now c.args.block.now.block = subst (λ n. c.find.result ≡ find_in c.args.kind n c.args.block.now.block) c.bytes.ensures.value c.find.ensures in
    nameable c.args.kind c.args.block.now.block c.args.id c.args.name.now c.find.result c.is_none.result c.bytes.ensures.lawful found c.is_none.ensures next
