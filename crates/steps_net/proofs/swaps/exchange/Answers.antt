use Rattle.std.proofs.Common.{IsTrue, ap, ◌∙◌}
use Rattle.slot_pool.specs.Table.{is_live}
use Rattle.edit_words.specs.declared.memo.Memo.TheVariants as memo
use Rattle.block_store.specs.Moves.{with_master, with_terminals}
use Rattle.block_store.proofs.Shown.{live_on}
use Rattle.steps_net.specs.Back.{master_of}
use Rattle.steps_net.proofs.SwapsPlaces.{had_master, had_terms, live_after, swapped_is}
use Rattle.steps_net.proofs.swaps.exchange.Goals as goal

pub set_master-master-requires : goal.set_master-master-requires
set_master-master-requires g c = live_after c.args.inst c.args.terminals c.args.block.now.block _ (rw c.items.ensures at c.set_places.ensures.block) c.requires.live

pub set_terminals-terminals-requires : goal.set_terminals-terminals-requires
set_terminals-terminals-requires g c =
    let live : IsTrue (is_live c.set_places.new.block.block.inst c.args.inst) = live_after c.args.inst c.args.terminals c.args.block.now.block _ (rw c.items.ensures at c.set_places.ensures.block) c.requires.live in
    rw c.set_master-master.ensures.block (live_on (λ e. record e { fields = record e.fields { master = c.args.master } }) c.args.inst c.set_places.new.block.block.inst c.args.inst live)

pub returns-clause-memo : goal.returns-clause-memo
returns-clause-memo g c =
    let placed = rw c.items.ensures at c.set_places.ensures.block in
    let master = had_master c.args.inst _ c.args.terminals c.args.block.now.block (rw placed at c.set_master-master.ensures.value) in
    let terms = had_terms c.args.inst c.args.master _ c.args.terminals c.args.block.now.block (rw (c.set_master-master.ensures.block, placed) at c.set_terminals-terminals.ensures.value) in
    ap (λ m. memo.Swapped m c.set_terminals-terminals.result) master ∙ ap (memo.Swapped (master_of c.args.block.now.block c.args.inst)) terms

pub returns-clause-block : goal.returns-clause-block
returns-clause-block g c =
    let placed = rw c.items.ensures at c.set_places.ensures.block in
    c.set_terminals-terminals.ensures.block
    ∙ ap (with_terminals c.args.inst c.args.terminals) c.set_master-master.ensures.block
    ∙ ap (λ b. with_terminals c.args.inst c.args.terminals (with_master c.args.inst c.args.master b)) placed
    ∙ swapped_is c.args.inst c.args.master c.args.terminals c.args.block.now.block
