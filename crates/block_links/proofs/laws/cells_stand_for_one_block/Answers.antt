use Rattle.block_links.proofs.Reading.{read_off}
use Rattle.block_links.proofs.laws.cells_stand_for_one_block.Goals as goal

pub returns : goal.returns
returns c = λ cells block stands. read_off cells block stands
