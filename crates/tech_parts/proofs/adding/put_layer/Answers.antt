use Rattle.tech_parts.proofs.Causes.{layer_may}
use Rattle.tech_parts.proofs.adding.put_layer.Goals as goal

pub add_layer-requires-clause-lawful : goal.add_layer-requires-clause-lawful
add_layer-requires-clause-lawful c = (layer_may c.args.db.now c.args.layer c.requires).lawful

pub add_layer-requires-clause-new : goal.add_layer-requires-clause-new
add_layer-requires-clause-new c = (layer_may c.args.db.now c.args.layer c.requires).new

pub add_layer-requires-clause-room : goal.add_layer-requires-clause-room
add_layer-requires-clause-room c = (layer_may c.args.db.now c.args.layer c.requires).room
