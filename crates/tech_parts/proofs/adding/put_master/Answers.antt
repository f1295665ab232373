use Rattle.tech_parts.proofs.Causes.{master_may}
use Rattle.tech_parts.proofs.adding.put_master.Goals as goal

pub add_master-requires-clause-lawful : goal.add_master-requires-clause-lawful
add_master-requires-clause-lawful c = (master_may c.args.db.now c.args.master c.requires).lawful

pub add_master-requires-clause-new : goal.add_master-requires-clause-new
add_master-requires-clause-new c = (master_may c.args.db.now c.args.master c.requires).new

pub add_master-requires-clause-room : goal.add_master-requires-clause-room
add_master-requires-clause-room c = (master_may c.args.db.now c.args.master c.requires).room
