use Rattle.std.proofs.Common.{◌≡◌, ◌∙◌, false, true, Err, ap, sym, arith}
use Rattle.std.specs.Option.{option_map}
use Rattle.ld_words.specs.Words.{fault_of, reading_left, word_of}
use Rattle.ld_reader.specs.Answers.{fault_in}
use Rattle.ld_reader.specs.Reading.{blamed_of, is_done, left_of, step_of}
use Rattle.ld_reader.proofs.Answered.{answer_on, end-answer, end-blamed, end-left, fault-read, none-stood, stop-answer, stop-blamed, stop-left, text-left, text-read, told_on, word-blamed, word-left, word-read}
use Rattle.ld_reader.proofs.text.read_text.Goals as goal

pub reading-preserved : goal.reading-preserved
reading-preserved g c =
    let rules = g.L.Language.rules in
    let r = c.reading.reader in
    let w = word_of c.advance.new.self in
    let due : is_done rules r ≡ false = grind arith in
    let told = rw c.in-Ok-true.field-0-test at c.in-Ok-true.ensures.words in
    let given = ap (step_of rules r) (sym c.word.ensures) ∙ c.in-Ok.ensures in
    record {
      told = told_on _ _ _ c.reading.invariant.told (word-read rules r c.with_word.new.reader w _ _ due given told);
      blamed = told_on _ _ _ c.reading.invariant.blamed (word-blamed rules r c.with_word.new.reader w _ _ due given told);
      left = told_on _ _ _ c.reading.invariant.left (word-left rules r c.with_word.new.reader w _ _ due given told);
      stood = c.in-Ok-true.ensures.fault ∙ sym (none-stood (fault_of c.reading.words) _ (λ f is. (c.in-Ok-true.ensures.kept f is).0)) ∙ c.reading.invariant.stood;
      done = λ h. c.in-Ok-true.ensures.fault;
      later = omega (arith, c.in-Ok-true.ensures.later, c.reading.invariant.later);
      rest = c.in-Ok-true.ensures.rest ∙ c.reading.invariant.rest;
    }

pub returns-in-Err-with_word-clause-answer : goal.returns-in-Err-with_word-clause-answer
returns-in-Err-with_word-clause-answer g c =
    let rules = g.L.Language.rules in
    let r = c.reading.reader in
    let w = word_of c.advance.new.self in
    let due : is_done rules r ≡ false = grind arith in
    let told = rw c.in-Ok-true.field-0-test at c.in-Ok-true.ensures.words in
    let stops = rw (c.word_line.ensures, c.word.ensures) at c.in-Err-with_word.ensures in
    let why = c.in-Err-with_word.fault in
    rw c.refused.ensures (answer_on _ _ (Err why) c.reading.invariant.told (stop-answer rules r w why _ _ due stops told))

pub returns-in-Err-with_word-clause-blamed : goal.returns-in-Err-with_word-clause-blamed
returns-in-Err-with_word-clause-blamed g c =
    let rules = g.L.Language.rules in
    let r = c.reading.reader in
    let w = word_of c.advance.new.self in
    let due : is_done rules r ≡ false = grind arith in
    let told = rw c.in-Ok-true.field-0-test at c.in-Ok-true.ensures.words in
    let stops = rw (c.word_line.ensures, c.word.ensures) at c.in-Err-with_word.ensures in
    let why = c.in-Err-with_word.fault in
    rw c.refused.ensures (stop-blamed rules (option_map (blamed_of rules c.args.so_far) (reading_left c.args.words.now)) r w why _ _ due stops told c.reading.invariant.blamed)

pub returns-in-Err-with_word-clause-left : goal.returns-in-Err-with_word-clause-left
returns-in-Err-with_word-clause-left g c =
    let rules = g.L.Language.rules in
    let r = c.reading.reader in
    let w = word_of c.advance.new.self in
    let due : is_done rules r ≡ false = grind arith in
    let told = rw c.in-Ok-true.field-0-test at c.in-Ok-true.ensures.words in
    let stops = rw (c.word_line.ensures, c.word.ensures) at c.in-Err-with_word.ensures in
    let why = c.in-Err-with_word.fault in
    let whole = option_map (left_of rules c.args.so_far) (reading_left c.args.words.now) in
    rw c.refused.ensures (stop-left rules whole r w why (reading_left c.reading.words) (reading_left c.advance.new.self) due stops told c.reading.invariant.left)

pub returns-in-Ok-false-clause-answer : goal.returns-in-Ok-false-clause-answer
returns-in-Ok-false-clause-answer g c =
    let rules = g.L.Language.rules in
    let told = rw c.in-Ok-false.field-0-test at c.in-Ok-false.ensures.words in
    rw (c.ended.ensures, c.line.ensures) (answer_on _ _ _ c.reading.invariant.told (end-answer rules c.reading.reader _ _ told.0))

pub returns-in-Ok-false-clause-blamed : goal.returns-in-Ok-false-clause-blamed
returns-in-Ok-false-clause-blamed g c =
    let rules = g.L.Language.rules in
    let told = rw c.in-Ok-false.field-0-test at c.in-Ok-false.ensures.words in
    let whole = option_map (blamed_of rules c.args.so_far) (reading_left c.args.words.now) in
    rw (c.ended.ensures, c.line.ensures) (end-blamed rules whole _ c.reading.reader _ _ told.0 c.reading.invariant.blamed)

pub returns-in-Ok-false-clause-left : goal.returns-in-Ok-false-clause-left
returns-in-Ok-false-clause-left g c =
    let rules = g.L.Language.rules in
    let told = rw c.in-Ok-false.field-0-test at c.in-Ok-false.ensures.words in
    let whole = option_map (left_of rules c.args.so_far) (reading_left c.args.words.now) in
    rw (c.ended.ensures, c.line.ensures) (end-left rules whole c.reading.reader _ (reading_left c.reading.words) (reading_left c.advance.new.self) told.0 told.1 c.reading.invariant.left)

pub returns-in-Err-clause-answer : goal.returns-in-Err-clause-answer
returns-in-Err-clause-answer g c =
    let rules = g.L.Language.rules in
    let r = c.reading.reader in
    let due : is_done rules r ≡ false = grind arith in
    rw (c.refused-in-Err.ensures, c.in_text.ensures) (answer_on _ _ (Err (fault_in c.in-Err.fault)) c.reading.invariant.told (fault-read rules r c.in-Err.fault (reading_left c.reading.words) due c.in-Err.ensures.words.0))

pub returns-clause-answer : goal.returns-clause-answer
returns-clause-answer g c =
    let rules = g.L.Language.rules in
    let over : is_done rules c.reading.reader ≡ true = grind arith in
    told_on _ _ _ c.reading.invariant.told (text-read rules c.reading.reader (reading_left c.reading.words) over)

pub returns-clause-left : goal.returns-clause-left
returns-clause-left g c =
    let rules = g.L.Language.rules in
    let over : is_done rules c.reading.reader ≡ true = grind arith in
    told_on _ _ _ c.reading.invariant.left (text-left rules c.reading.reader (reading_left c.reading.words) over)
