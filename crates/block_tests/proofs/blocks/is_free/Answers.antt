use Rattle.std.proofs.Common.{◌≡◌, None}
use Rattle.block_store.specs.Names.{find_in}
use Rattle.block_store.proofs.Naming.{free_names_are_not_found}
use Rattle.block_tests.proofs.blocks.is_free.Goals as goal

pub returns-in-None-clause-free : goal.returns-in-None-clause-free
returns-in-None-clause-free c =
    let none : find_in c.args.kind c.args.name.now c.args.block.now.block ≡ None = cc (c.in-None.ensures, c.bytes.ensures.value) in
    λ _. (free_names_are_not_found c.args.kind c.args.block.now.block c.args.name.now).0 none

pub returns-in-None-clause-but : goal.returns-in-None-clause-but
returns-in-None-clause-but c =
    let none : find_in c.args.kind c.args.name.now c.args.block.now.block ≡ None = cc (c.in-None.ensures, c.bytes.ensures.value) in
    λ _ id other named. absurd ((free_names_are_not_found c.args.kind c.args.block.now.block c.args.name.now).0 none other named)
