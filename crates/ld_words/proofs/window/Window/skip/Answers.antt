use Rattle.std.proofs.Common.{◌∙◌, ap, drop, arith}
use Rattle.ld_words.proofs.Windows.{skipped}
use Rattle.ld_words.proofs.window.Window.skip.Goals as goal

pub returns : goal.returns
returns c =
    let w = c.self.inside in
    skipped w.bytes.items w.start w.end c.args.count c.self.invariant.ordered (omega (arith, w.bytes.ok.0, c.self.invariant.within)) (rw c.self.view_is c.requires)
    ∙ ap (drop c.args.count) c.self.view_is
