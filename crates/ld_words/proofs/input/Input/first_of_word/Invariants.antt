-- The reading goes on between words.
use Rattle.std.proofs.Common.{◌≡◌, ◌+◌, ◌-◌, ◌≤◌, IsTrue, length}
use Rattle.ld_words.specs.Input.{reading_at}
use Rattle.ld_words.specs.Reading.{Between}
use Rattle.ld_words.specs.Told.{SameIfTold}
use Rattle.ld_words.proofs.input.Input.first_of_word.Given as goal

abbrev pub invariant-seeking : goal.invariant-seeking
invariant-seeking g l =
    let source = g.S.Source in
    record {
      reading : SameIfTold (reading_at source.left Between l.fn.self) (reading_at source.left Between l.self);
      taken : l.fn.self.taken ≤ l.self.taken;
      ready : IsTrue (source.ready l.self.source);
      later : source.faults l.fn.self.source ≤ source.faults l.self.source;
      rest : source.rest l.self.source ≡ source.rest l.fn.self.source;
    }

abbrev pub decreases-seeking : goal.decreases-seeking
decreases-seeking g l = (4294967295 - (l.self.taken + length l.self.window)) + (4294967295 - l.self.taken)
