use Rattle.odb_base.proofs.Splits.{back_in_place}
use Rattle.link_list.proofs.laws.put_back.Goals as goal

pub returns : goal.returns
returns c = back_in_place
