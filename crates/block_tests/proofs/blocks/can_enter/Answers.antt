use Rattle.std.proofs.Common.{◌≡◌, ◌∙◌, true, sym}
use Rattle.slot_pool.specs.Table.{is_live}
use Rattle.block_store.specs.Alone.{OfInst}
use Rattle.block_tests.proofs.blocks.can_enter.Goals as goal

pub returns-then-live-2 : goal.returns-then-live-2
returns-then-live-2 c =
    let net : is_live c.args.block.now.block.net 1 ≡ true = sym c.live.ensures ∙ c.if-live.true in
    let iterm : is_live c.args.block.now.block.iterm c.args.iterm ≡ true = sym c.live-then-live.ensures ∙ c.if-live-2.true in
    λ free. record { has = net; outside = (OfInst c.args.iterm iterm, c.is_in_no_terms.ensures free) }
