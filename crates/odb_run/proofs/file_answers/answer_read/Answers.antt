use Rattle.std.proofs.Common.{sym}
use Rattle.odb_run.proofs.file_answers.answer_read.Goals as goal

pub returns-in-Bytes : goal.returns-in-Bytes
returns-in-Bytes c = rw c.in-Bytes.is (rw (sym c.deref.ensures.value) c.answer_bytes.ensures)
