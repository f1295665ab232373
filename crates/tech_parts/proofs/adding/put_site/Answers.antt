use Rattle.tech_parts.proofs.Causes.{site_may}
use Rattle.tech_parts.proofs.adding.put_site.Goals as goal

pub add_site-requires-clause-lawful : goal.add_site-requires-clause-lawful
add_site-requires-clause-lawful c = (site_may c.args.db.now c.args.site c.requires).lawful

pub add_site-requires-clause-new : goal.add_site-requires-clause-new
add_site-requires-clause-new c = (site_may c.args.db.now c.args.site c.requires).new

pub add_site-requires-clause-room : goal.add_site-requires-clause-room
add_site-requires-clause-room c = (site_may c.args.db.now c.args.site c.requires).room
