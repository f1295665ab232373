use Rattle.std.proofs.Common.{List, ℕ, get_or, sym, ap}
use Rattle.tech.specs.declared.layer.Layer.{Layer}
use Rattle.lef_build.specs.Building.{with_parts}
use Rattle.lef_build.proofs.NameLists.{answer_behind, stood_is_found}
use Rattle.lef_build.proofs.builder.Builder.find_layer.Goals as goal

pub returns-in-Some : goal.returns-in-Some
returns-in-Some c =
    rw (← c.self.view_is)
    (sym (stood_is_found (λ (x : Layer). x.name) c.self.inside.tech.now.layers (with_parts c.self.inside.tech.now c.self.inside.parts.items).layers c.self.inside.known.layers c.args.name.now c.in-Some.id.0 c.self.invariant.layers (sym c.in-Some.ensures)))

pub returns-in-None : goal.returns-in-None
returns-in-None c =
    rw (← c.self.view_is)
    (answer_behind (λ (x : Layer). x.name) c.self.inside.tech.now.layers (with_parts c.self.inside.tech.now c.self.inside.parts.items).layers c.self.inside.known.layers c.args.name.now _ c.id_behind.result c.self.invariant.layers c.in-None.ensures (ap (λ (counts : List ℕ). get_or counts 0 0) c.counts.ensures.counts) c.id_behind.ensures)
