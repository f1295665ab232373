use Rattle.std.proofs.Common.{None, Err}
use Rattle.odb_base.specs.declared.codes.kind.Kind.TheVariants as kind
use Rattle.steps_net.specs.Room.{lacking}
use Rattle.block_steps.proofs.Rooms.{full_told}
use Rattle.block_steps.proofs.room.room_for_inst.Goals as goal

pub returns-in-Err-clause-full : goal.returns-in-Err-clause-full
returns-in-Err-clause-full c =
    let old = c.args.block.now in
    full_told kind.Inst 1 old.cap old.block (lacking kind.ITerm c.args.terminals old.cap old.block None) (Err c.in-Err.fault) c.in-Err.ensures.full c.in-Err.ensures.kind
