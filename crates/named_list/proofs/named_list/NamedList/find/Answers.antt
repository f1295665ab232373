use Rattle.std.proofs.Common.{◌+◌, ◌∙◌, ap}
use Rattle.std.specs.Option.{option_map}
use Rattle.named_list.proofs.Keeping.{keyed_place}
use Rattle.named_list.proofs.named_list.NamedList.find.Goals as goal

pub returns-in_err-place : goal.returns-in_err-place
returns-in_err-place g c =
    rw (c.from_residual.ensures, ← c.self.view_is)
    (ap (option_map (λ place. place + 1)) (c.in_err-place.ensures.index ∙ keyed_place g.T.Named.name_of _ c.args.name.now c.self.invariant.keyed))

pub returns : goal.returns
returns g c =
    rw (← c.self.view_is)
    (ap (option_map (λ place. place + 1)) (c.in_ok-place.ensures.index ∙ keyed_place g.T.Named.name_of _ c.args.name.now c.self.invariant.keyed))
