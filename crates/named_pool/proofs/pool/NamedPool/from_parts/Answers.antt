use Rattle.std.proofs.Common.{ap, ◌≡◌, ◌∙◌, List, Option, subst, sym}
use Rattle.slot_pool.specs.Mapped.{plain}
use Rattle.slot_pool.specs.Table.{IsGood, Table}
use Rattle.slot_pool.proofs.Mapped.{good_shown}
use Rattle.named_pool.specs.declared.cells.NameCell.{NameCell}
use Rattle.named_pool.specs.declared.cells.NameCells.{NameCells}
use Rattle.named_pool.specs.Cells.{cell, chain_of, name_of}
use Rattle.named_pool.specs.Held.{objects}
use Rattle.named_pool.specs.Names.{AreNamed}
use Rattle.named_pool.proofs.HeldUpTo.{holds_none}
use Rattle.named_pool.proofs.pool.NamedPool.from_parts.Goals as goal

pub from_parts-requires-clause-good : goal.from_parts-requires-clause-good
from_parts-requires-clause-good g c =
    let now : Table (NameCell g.row.R.Denot) = record { slots = c.in_ok-cells_of.field-0.items; free = c.args.free.items } in
    let shown : plain (λ (c : NameCell g.row.R.Denot). c.value) now ≡ record { slots = c.args.slots.items; free = c.args.free.items } = ap (λ (s : List (Option g.row.R.Denot)). record { slots = s; free = c.args.free.items }) c.in_ok-cells_of.ensures in
    good_shown (λ (c : NameCell g.row.R.Denot). c.value) now (subst IsGood (sym shown) c.requires.good)

pub hold_all-requires-clause-none : goal.hold_all-requires-clause-none
hold_all-requires-clause-none g c =
    let own = g.R.Named.own_name in
    let cells : NameCells g.row.R.Denot = record { pool = c.in_ok-pool.pool } in
    holds_none own cells c.new-index.result (c.new-index.ensures.stands (cell cells) (name_of own cells) (chain_of cells))

pub hold_all-requires-clause-names : goal.hold_all-requires-clause-names
hold_all-requires-clause-names g c =
    let own = g.R.Named.own_name in
    let cells : NameCells g.row.R.Denot = record { pool = c.in_ok-pool.pool } in
    let shown : objects cells ≡ record { slots = c.args.slots.items; free = c.args.free.items } =
    ap (plain (λ (c : NameCell g.row.R.Denot). c.value)) c.in_ok-pool.ensures.table ∙ ap (λ (s : List (Option g.row.R.Denot)). record { slots = s; free = c.args.free.items }) c.in_ok-cells_of.ensures
    in
    subst (λ t. AreNamed own t) (sym shown) c.requires.names
