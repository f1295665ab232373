use Rattle.slot_pool.proofs.Tables.{IsGood-taken, IsGood-given, IsGood-untaken, IsGood-replaced}
use Rattle.slot_pool.proofs.laws.good_after_moves.Goals as goal

pub returns : goal.returns
returns g c = record {
  take = λ x t good. IsGood-taken x t.slots t.free good;
  give = IsGood-given;
  untake = IsGood-untaken;
  replace = IsGood-replaced;
}
