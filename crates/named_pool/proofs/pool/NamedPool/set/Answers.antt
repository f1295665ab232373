use Rattle.std.proofs.Common.{refl, ap, ◌≡◌, ◌∙◌, Some, sym}
use Rattle.std.specs.Option.{option_map}
use Rattle.slot_pool.specs.Table.{record_at, replaced}
use Rattle.slot_pool.proofs.Mapped.{at_plain, on_found, plain_replaced}
use Rattle.named_pool.specs.declared.cells.NameCell.{NameCell}
use Rattle.named_pool.specs.Held.{objects}
use Rattle.named_pool.proofs.Moving.{changed_is}
use Rattle.named_pool.proofs.pool.NamedPool.set.Goals as goal

pub invariant_of-self : goal.invariant_of-self
invariant_of-self g c =
    let own = g.R.Named.own_name in
    let was = c.change.result.now in
    let now : NameCell g.row.R.Denot = record { value = c.set.new.object; chain = was.chain } in
    let name : own now.value ≡ own was.value = ap own c.set.ensures.new ∙ g.met.F.Field.named was.value c.args.value in
    changed_is own c.self.inside.cells _ c.self.inside.index c.args.id was now c.change.ensures.value refl name refl c.self.invariant

pub returns-clause-table : goal.returns-clause-table
returns-clause-table g c =
    let id = c.args.id in
    let old = c.self.inside.cells in
    let was = c.change.result.now in
    let now : NameCell g.row.R.Denot = record { value = c.set.new.object; chain = was.chain } in
    let found : record_at (objects old) id ≡ Some was.value = at_plain (λ (c : NameCell g.row.R.Denot). c.value) old.pool.table id ∙ ap (option_map (λ (c : NameCell g.row.R.Denot). c.value)) c.change.ensures.value in
    rw (← c.self.view_is) (plain_replaced (λ (c : NameCell g.row.R.Denot). c.value) id now old.pool.table ∙ ap (λ y. replaced id y (objects old)) c.set.ensures.new
    ∙ sym (on_found (g.F.Field.with_value c.args.value) id was.value (objects old) found))
