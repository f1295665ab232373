use Rattle.std.proofs.Common.{◌≡◌, ◌∙◌, false}
use Rattle.lef_tree.specs.Pins.{has_pin}
use Rattle.lef_tree.proofs.Pinned.{key-found, names-cut}
use Rattle.lef_tree.proofs.pins.LefPins.push.Goals as goal

pub enter-requires : goal.enter-requires
enter-requires c =
    let new : has_pin c.args.pin.name c.self.inside.pins ≡ false = rw c.self.view_is c.requires in
    rw c.bytes.ensures.value (key-found c.args.pin.name _ _ c.self.invariant ∙ new)

pub invariant_of-self-in-Err-push : goal.invariant_of-self-in-Err-push
invariant_of-self-in-Err-push c =
    rw (c.truncate.ensures.keys, c.items.ensures, c.in-Err-push.ensures.err)
    (names-cut c.self.inside.names.keys c.enter.new.names.keys c.self.inside.pins c.bytes.result.now c.self.invariant c.in_default.ensures.ok)
