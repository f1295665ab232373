use Rattle.lef_reader.proofs.Spelled.{layer-line-read, layers-read}
use Rattle.lef_reader.proofs.laws.layers_are_read.Goals as goal

pub returns : goal.returns
returns c = record { lines = layer-line-read; layers = layers-read }
