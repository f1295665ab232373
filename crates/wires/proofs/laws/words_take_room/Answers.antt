use Rattle.wires.proofs.Room.{words_take}
use Rattle.wires.proofs.laws.words_take_room.Goals as goal

pub returns : goal.returns
returns c = words_take
