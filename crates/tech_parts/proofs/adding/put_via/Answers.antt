use Rattle.tech_parts.proofs.Causes.{via_may}
use Rattle.tech_parts.proofs.adding.put_via.Goals as goal

pub add_via-requires-clause-lawful : goal.add_via-requires-clause-lawful
add_via-requires-clause-lawful c = (via_may c.args.db.now c.args.via c.requires).lawful

pub add_via-requires-clause-new : goal.add_via-requires-clause-new
add_via-requires-clause-new c = (via_may c.args.db.now c.args.via c.requires).new

pub add_via-requires-clause-room : goal.add_via-requires-clause-room
add_via-requires-clause-room c = (via_may c.args.db.now c.args.via c.requires).room
