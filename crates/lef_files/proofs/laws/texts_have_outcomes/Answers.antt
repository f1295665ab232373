use Rattle.lef_files.proofs.TextEnds.{texts-have}
use Rattle.lef_files.proofs.laws.texts_have_outcomes.Goals as goal

pub returns : goal.returns
returns c = texts-have
