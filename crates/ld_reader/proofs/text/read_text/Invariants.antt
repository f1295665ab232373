use Rattle.std.proofs.Common.{◌≡◌, ◌≤◌, None, true}
use Rattle.std.specs.Option.{option_map}
use Rattle.ld_words.specs.Told.{SameIfTold}
use Rattle.ld_words.specs.Words.{fault_of, reading_left, room_of, source_of}
use Rattle.ld_reader.specs.Reading.{blamed_from, blamed_of, is_done, left_from, left_of, text_from, text_of}
use Rattle.ld_reader.proofs.text.read_text.Given as goal

abbrev pub invariant-reading : goal.invariant-reading
invariant-reading g l =
    let rules = g.L.Language.rules in
    record {
      told : SameIfTold (option_map (text_of rules l.fn.so_far) (reading_left l.initial.words)) (option_map (text_from rules l.reader) (reading_left l.words));
      blamed : SameIfTold (option_map (blamed_of rules l.fn.so_far) (reading_left l.initial.words)) (option_map (blamed_from rules l.reader) (reading_left l.words));
      left : SameIfTold (option_map (left_of rules l.fn.so_far) (reading_left l.initial.words)) (option_map (left_from rules l.reader) (reading_left l.words));
      stood : fault_of l.words ≡ fault_of l.initial.words;
      done : is_done rules l.reader ≡ true → fault_of l.words ≡ None;
      later : g.S.Source.faults (source_of l.initial.words) ≤ g.S.Source.faults (source_of l.words);
      rest : g.S.Source.rest (source_of l.words) ≡ g.S.Source.rest (source_of l.initial.words);
    }

abbrev pub decreases-reading : goal.decreases-reading
decreases-reading g l = room_of l.words
