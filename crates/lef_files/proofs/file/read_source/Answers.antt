use Rattle.std.proofs.Common.{◌∙◌, Option, IsTrue, ap, subst, sym, arith}
use Rattle.std.specs.Option.{option_map}
use Rattle.ld_words.specs.Reading.{Reading}
use Rattle.ld_words.specs.Words.{fault_of}
use Rattle.ld_reader.specs.Answers.{IsAnswer}
use Rattle.lef_reader.specs.Reading.{lef_of}
use Rattle.lef_files.proofs.Answered.{answered, failed_on, ready_on}
use Rattle.lef_files.proofs.file.read_source.Goals as goal

pub returns-clause-text : goal.returns-clause-text
returns-clause-text g c =
    let answer = c.read_lef-answer.result in
    let told = subst (λ (r : Option Reading). IsAnswer (option_map lef_of r) answer) c.in_room-words.ensures.words c.read_lef-answer.ensures.answer in
    rw c.outcome.ensures (answered (g.S.Source.left c.args.source) answer told)

pub returns-clause-ready : goal.returns-clause-ready
returns-clause-ready g c =
    rw c.outcome.ensures (ready_on (IsTrue (g.S.Source.ready c.into_source.result)) (fault_of c.in_room-words.result) (fault_of c.read_lef-answer.new.words) c.read_lef-answer.result c.read_lef-answer.ensures.kept c.into_source.ensures.ready)

pub returns-clause-cause : goal.returns-clause-cause
returns-clause-cause g c =
    let before = ap g.S.Source.faults c.in_room-words.ensures.source in
    let after = ap g.S.Source.faults c.into_source.ensures.source in
    record {
      later = omega (arith, before, after, c.read_lef-answer.ensures.later);
      failed = λ fails.
          let rose = c.read_lef-answer.ensures.failed (failed_on c.read_lef-answer.result (sym c.outcome.ensures ∙ fails)) c.in_room-words.ensures.fault in
          omega (arith, before, after, rose);
    }

pub returns-clause-rest : goal.returns-clause-rest
returns-clause-rest g c = ap g.S.Source.rest c.into_source.ensures.source ∙ c.read_lef-answer.ensures.rest ∙ ap g.S.Source.rest c.in_room-words.ensures.source
