use Rattle.named_list.proofs.Ids.{cut_keeps_distinct, cut_keeps_ids, entering_keeps_distinct, growing_keeps_ids, growing_keeps_names, last_has_last_id}
use Rattle.named_list.proofs.laws.ids_after_changes.Goals as goal

pub returns : goal.returns
returns g c = record {
  ids = growing_keeps_ids;
  names = growing_keeps_names g.T.Named.name_of;
  last = last_has_last_id;
  cut = cut_keeps_ids;
  distinct_entered = entering_keeps_distinct g.T.Named.name_of;
  distinct_cut = cut_keeps_distinct g.T.Named.name_of;
}
