use Rattle.std.proofs.Common.{subst}
use Rattle.std.specs.Option.{option_map}
use Rattle.ld_words.specs.Words.{fault_of, reading_left, word_of}
use Rattle.ld_reader.specs.Answers.{IsAnswer, IsBlamed}
use Rattle.ld_reader.specs.Reading.{blamed_of, text_of}
use Rattle.def_reader.specs.declared.so_far.SoFar.{SoFar}
use Rattle.def_reader.specs.Answer.{IsRead, read_in}
use Rattle.def_reader.specs.Reading.{rules}
use Rattle.def_reader.proofs.Answered.{answered, kept_so}
use Rattle.def_reader.proofs.def.read_def.Goals as goal

pub returns-clause-answer : goal.returns-clause-answer
returns-clause-answer g c =
    let told = reading_left c.args.words.now in
    let given = c.read_text-read.result in
    let lent = (word_of c.read_text-read.new.words).bytes in
    let h = subst (λ (s : SoFar). IsAnswer (option_map (text_of rules s) told) given) c.in_ok-so_far.ensures c.read_text-read.ensures.answer in
    let b = subst (λ (s : SoFar). IsBlamed (option_map (blamed_of rules s) told) lent given) c.in_ok-so_far.ensures c.read_text-read.ensures.blamed in
    let made = rw c.word.ensures at c.into_read.ensures in
    answered told lent given c.into_read.result h b made

pub returns-clause-kept : goal.returns-clause-kept
returns-clause-kept g c =
    let made = rw c.word.ensures at c.into_read.ensures in
    kept_so (fault_of c.args.words.now) _ (word_of c.read_text-read.new.words).bytes c.read_text-read.result c.into_read.result c.read_text-read.ensures.kept made
