use Rattle.std.proofs.Common.{◌+◌, ◌∙◌, ap, sym}
use Rattle.std.specs.Option.{option_map}
use Rattle.std.specs.Str.{bytes_eq}
use Rattle.lef_build.proofs.NameLists.{position-map}
use Rattle.lef_build.proofs.names.Names.id_behind.Goals as goal

pub returns-in_err-place : goal.returns-in_err-place
returns-in_err-place c =
    rw (c.from_residual.ensures, ← c.self.view_is)
    (ap (option_map (λ place. c.args.before + place + 1)) (c.in_err-place.ensures.index ∙ sym (position-map (bytes_eq c.args.name.now) (λ name. name.now) c.self.inside.names.keys)))

pub returns : goal.returns
returns c =
    rw (← c.self.view_is)
    (ap (option_map (λ place. c.args.before + place + 1)) (c.in_ok-place.ensures.index ∙ sym (position-map (bytes_eq c.args.name.now) (λ name. name.now) c.self.inside.names.keys)))
