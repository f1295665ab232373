-- The first bytes at hand are those of the word, and behind its first quote so many were seen so far.
use Rattle.std.proofs.Common.{◌≡◌, ◌+◌, ◌-◌, ◌≤◌, IsTrue, true, not, length, take, drop}
use Rattle.std.specs.List.{list_all}
use Rattle.ld_words.specs.Input.{BeginsQuoted, Stays, reading_at}
use Rattle.ld_words.specs.Reading.{Between, is_quote}
use Rattle.ld_words.specs.Told.{SameIfTold}
use Rattle.ld_words.proofs.input.Input.quoted_length.Given as goal

abbrev pub invariant-quoted : goal.invariant-quoted
invariant-quoted g l =
    let source = g.S.Source in
    record {
      begins : BeginsQuoted l.self.window;
      within : l.seen + 1 ≤ length l.self.window;
      quoted : list_all (λ b. not (is_quote b)) (take l.seen (drop 1 l.self.window)) ≡ true;
      reading : SameIfTold (reading_at source.left Between l.fn.self) (reading_at source.left Between l.self);
      stays : Stays l.fn.self l.self;
      ready : IsTrue (source.ready l.self.source);
      later : source.faults l.fn.self.source ≤ source.faults l.self.source;
      rest : source.rest l.self.source ≡ source.rest l.fn.self.source;
    }

abbrev pub decreases-quoted : goal.decreases-quoted
decreases-quoted g l = 4294967295 - (l.self.taken + length l.self.window)
