use Rattle.named_list.proofs.Ids.{found_are_named, named_are_found, unfound_are_absent}
use Rattle.named_list.proofs.laws.ids_and_names.Goals as goal

pub returns : goal.returns
returns g c = record {
  named = named_are_found g.T.Named.name_of;
  found = found_are_named g.T.Named.name_of;
  absent = unfound_are_absent g.T.Named.name_of;
}
