use Rattle.ld_words.proofs.Between.{finished, past_between}
use Rattle.ld_words.proofs.input.Input.more.Goals as goal

pub returns-in-End-clause-goes : goal.returns-in-End-clause-goes
returns-in-End-clause-goes g c =
    finished g.S.Source.left c.args.self.now c.fill.new.self c.requires.empty c.fill.ensures.stays (rw c.in-End.is at c.in_ok-fill.ensures.fills)

pub returns-in-Past-clause-fault : goal.returns-in-Past-clause-fault
returns-in-Past-clause-fault g c =
    rw c.fill.ensures.stays.line
    (past_between g.S.Source.left c.args.self.now c.fill.new.self c.in-Past.field-0 c.requires.empty (rw c.in-Past.is at c.in_ok-fill.ensures.fills)).0

pub returns-in-Past-clause-comment : goal.returns-in-Past-clause-comment
returns-in-Past-clause-comment g c =
    rw c.fill.ensures.stays.line
    (past_between g.S.Source.left c.args.self.now c.fill.new.self c.in-Past.field-0 c.requires.empty (rw c.in-Past.is at c.in_ok-fill.ensures.fills)).1
