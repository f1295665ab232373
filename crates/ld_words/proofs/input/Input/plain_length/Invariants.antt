-- The first bytes at hand are those of the word, and were seen so far.
use Rattle.std.proofs.Common.{◌≡◌, ◌+◌, ◌-◌, ◌≤◌, IsTrue, true, not, length, take}
use Rattle.std.specs.List.{list_all}
use Rattle.ld_words.specs.Input.{BeginsPlain, Stays, reading_at}
use Rattle.ld_words.specs.Reading.{Between, is_blank}
use Rattle.ld_words.specs.Told.{SameIfTold}
use Rattle.ld_words.proofs.input.Input.plain_length.Given as goal

abbrev pub invariant-plain : goal.invariant-plain
invariant-plain g l =
    let source = g.S.Source in
    record {
      begins : BeginsPlain l.self.window;
      within : l.seen ≤ length l.self.window;
      plain : list_all (λ b. not (is_blank b)) (take l.seen l.self.window) ≡ true;
      reading : SameIfTold (reading_at source.left Between l.fn.self) (reading_at source.left Between l.self);
      stays : Stays l.fn.self l.self;
      ready : IsTrue (source.ready l.self.source);
      later : source.faults l.fn.self.source ≤ source.faults l.self.source;
      rest : source.rest l.self.source ≡ source.rest l.fn.self.source;
    }

abbrev pub decreases-plain : goal.decreases-plain
decreases-plain g l = 4294967295 - (l.self.taken + length l.self.window)
