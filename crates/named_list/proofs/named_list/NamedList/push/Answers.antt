use Rattle.std.proofs.Common.{◌∙◌}
use Rattle.named_list.proofs.Keeping.{Entered, entered}
use Rattle.named_list.proofs.named_list.NamedList.push.Goals as goal
use Rattle.named_list.proofs.named_list.NamedList.push.Given as given

is_entered : (g : given.Over) (c : goal.Joined-insert-2 g) → Entered g.T.Named.name_of c.args.self.now c.args.thing c.insert.new.self.entries
is_entered g c =
    entered g.T.Named.name_of _ _ c.in_ok-name.name c.args.self.now c.args.thing c.self.invariant c.self.view_is c.requires.new c.requires.room
    (c.in_ok-name.ensures.items_if_clones_equal (λ x y h. h) ∙ c.bytes.ensures.value ∙ c.name.ensures)
    c.in-Ok.ensures.entries

pub invariant_of-self : goal.invariant_of-self
invariant_of-self g c = (is_entered g c).kept

pub returns-in-Ok-clause-ok : goal.returns-in-Ok-clause-ok
returns-in-Ok-clause-ok g c = (is_entered g c).is

pub returns-in-Ok-clause-id : goal.returns-in-Ok-clause-id
returns-in-Ok-clause-id g c = c.len.ensures.len ∙ (is_entered g c).count
