use Rattle.lef_reader.proofs.SpelledMacros.{orientations-name-none, vias-read}
use Rattle.lef_reader.proofs.laws.vias_are_read.Goals as goal

pub returns : goal.returns
returns c = record { vias = vias-read; orientations = orientations-name-none }
