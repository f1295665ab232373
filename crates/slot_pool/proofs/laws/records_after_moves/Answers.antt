use Rattle.slot_pool.proofs.Records.{records_after_take, records_after_give, records_after_replace}
use Rattle.slot_pool.proofs.laws.records_after_moves.Goals as goal

pub returns : goal.returns
returns g c = record {
  take = records_after_take;
  give = records_after_give;
  replace = records_after_replace;
}
