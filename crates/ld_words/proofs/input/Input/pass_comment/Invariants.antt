-- The reading goes on in the comment.
use Rattle.std.proofs.Common.{◌≡◌, ◌+◌, ◌-◌, ◌≤◌, ◌<◌, IsTrue, length}
use Rattle.ld_words.specs.Input.{reading_at}
use Rattle.ld_words.specs.Reading.{Between, Comment}
use Rattle.ld_words.specs.Told.{SameIfTold}
use Rattle.ld_words.proofs.input.Input.pass_comment.Given as goal

abbrev pub invariant-comment : goal.invariant-comment
invariant-comment g l =
    let source = g.S.Source in
    record {
      reading : SameIfTold (reading_at source.left Between l.fn.self) (reading_at source.left Comment l.self);
      taken : l.fn.self.taken < l.self.taken;
      at_hand : l.fn.self.taken + length l.fn.self.window ≤ l.self.taken + length l.self.window;
      ready : IsTrue (source.ready l.self.source);
      later : source.faults l.fn.self.source ≤ source.faults l.self.source;
      rest : source.rest l.self.source ≡ source.rest l.fn.self.source;
    }

abbrev pub decreases-comment : goal.decreases-comment
decreases-comment g l = 4294967295 - (l.self.taken + length l.self.window)
