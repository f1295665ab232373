use Rattle.std.proofs.Common.{◌≡◌, ◌∙◌, ◌++◌, ◌∷◌, [], None, ap, map}
use Rattle.named_list.specs.Naming.{place_named}
use Rattle.lef_build.proofs.NameLists.{name_goes_last}
use Rattle.lef_build.proofs.names.Names.enter.Goals as goal

pub returns-clause-ok : goal.returns-clause-ok
returns-clause-ok c =
    let new : place_named (λ n. n) (map (λ k. k.now) c.self.inside.names.keys) c.args.name.now ≡ None = rw c.self.view_is c.requires in
    ap (map (λ k. k.now)) c.in_ok-insert.ensures.keys ∙ name_goes_last c.self.inside.names.keys c.args.name new ∙ ap (λ ns. ns ++ c.args.name.now ∷ []) c.self.view_is
