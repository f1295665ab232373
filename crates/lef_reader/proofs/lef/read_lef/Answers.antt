use Rattle.std.proofs.Common.{subst}
use Rattle.std.specs.Option.{option_map}
use Rattle.ld_words.specs.Words.{reading_left}
use Rattle.ld_reader.specs.Answers.{IsAnswer, IsLeft}
use Rattle.ld_reader.specs.Reading.{left_of, text_of}
use Rattle.lef_reader.specs.declared.so_far.SoFar.{SoFar}
use Rattle.lef_reader.specs.Reading.{rules}
use Rattle.lef_reader.proofs.Answered.{answered, kept_so, left_so}
use Rattle.lef_reader.proofs.lef.read_lef.Goals as goal

pub returns-clause-answer : goal.returns-clause-answer
returns-clause-answer g c =
    let told = reading_left c.args.words.now in
    let given = c.read_text-read.result in
    let h = subst (λ (s : SoFar). IsAnswer (option_map (text_of rules s) told) given) c.new.ensures c.read_text-read.ensures.answer in
    rw c.into_tree.ensures (answered told given h)

pub returns-clause-left : goal.returns-clause-left
returns-clause-left g c =
    let told = reading_left c.args.words.now in
    let given = c.read_text-read.result in
    let h = subst (λ (s : SoFar). IsLeft (option_map (left_of rules s) told) (reading_left c.read_text-read.new.words) given) c.new.ensures c.read_text-read.ensures.left in
    rw c.into_tree.ensures (left_so _ _ given h)

pub returns-clause-kept : goal.returns-clause-kept
returns-clause-kept g c = rw c.into_tree.ensures (kept_so _ _ c.read_text-read.result c.read_text-read.ensures.kept)
