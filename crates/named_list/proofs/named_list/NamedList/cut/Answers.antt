use Rattle.std.proofs.Common.{sym}
use Rattle.std.proofs.lemmas.List.{take-map}
use Rattle.named_list.proofs.Keeping.{kept-cut}
use Rattle.named_list.proofs.named_list.NamedList.cut.Goals as goal

pub invariant_of-self : goal.invariant_of-self
invariant_of-self g c = rw c.truncate.ensures.entries (kept-cut g.T.Named.name_of _ _ c.self.invariant)

pub returns : goal.returns
returns g c = rw (c.truncate.ensures.entries, ← c.self.view_is) (sym (take-map (λ entry. entry.1) c.args.count _))
