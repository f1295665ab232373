use Rattle.std.proofs.Common.{ap}
use Rattle.odb_save.proofs.SoundFields.{free_short}
use Rattle.odb_save.proofs.Written.{table_appended}
use Rattle.odb_save.proofs.tables.put_table.Goals as goal

pub put_free-requires : goal.put_free-requires
put_free-requires c = free_short _ c.args.kind c.db.invariant

pub returns-clause-ok : goal.returns-clause-ok
returns-clause-ok c =
    table_appended c.args.kind c.db.inside.block.block c.args.db.now.block _ _ _ _ _ (ap (λ d. d.block) c.db.view_is) c.slots.ensures.count
    c.in_ok-put_u32.ensures.ok c.in_ok-put_slots.ensures.ok c.in_ok-put_free.ensures.ok
