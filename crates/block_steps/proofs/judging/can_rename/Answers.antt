use Rattle.std.proofs.Common.{◌≡◌, subst}
use Rattle.block_store.specs.Names.{find_in}
use Rattle.block_steps.proofs.Judged.{renameable}
use Rattle.block_steps.proofs.judging.can_rename.Goals as goal

pub returns-then-has_name : goal.returns-then-has_name
returns-then-has_name c =
    let has = c.has_name.ensures.0 c.if-has_name.true in
    let found : c.find.result ≡ find_in c.args.kind c.args.name.now c.args.block.now.block = subst (λ n. c.find.result ≡ find_in c.args.kind n c.args.block.now.block) c.bytes.ensures.value c.find.ensures in
    renameable c.args.kind c.args.block.now.block c.args.id c.args.name.now c.find.result c.is_none.result c.bytes.ensures.lawful found c.is_none.ensures has.0 has.1
