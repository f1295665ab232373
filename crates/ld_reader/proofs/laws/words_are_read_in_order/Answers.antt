use Rattle.ld_reader.proofs.Answered.{cut-only}
use Rattle.ld_reader.proofs.Filled.{fault-line, lines-nothing, words-left}
use Rattle.ld_reader.proofs.laws.words_are_read_in_order.Goals as goal

pub returns : goal.returns
returns g c = record { lines = lines-nothing g.L.Language.rules; fault = fault-line g.L.Language.rules; cut = cut-only g.L.Language.rules; left = words-left g.L.Language.rules }
