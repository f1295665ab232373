use Rattle.steps_net.proofs.SwapsMade.{keep_names}
use Rattle.steps_net.proofs.laws.swaps_keep_names.Goals as goal

pub returns : goal.returns
returns c = λ tech library cap b inst master sound can. keep_names tech library cap b inst master sound can
