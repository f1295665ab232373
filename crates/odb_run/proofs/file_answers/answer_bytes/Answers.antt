use Rattle.odb_run.proofs.Answering.{bytes_loaded, bytes_refused}
use Rattle.odb_run.proofs.file_answers.answer_bytes.Goals as goal

pub returns-in_ok-put_ok_number-in-Ok : goal.returns-in_ok-put_ok_number-in-Ok
returns-in_ok-put_ok_number-in-Ok c =
    bytes_loaded c.args.session.now c.load.new.self c.args.bytes.now c.args.replies.now.items c.put_ok_number.new.out.items c.in-Ok.ensures.puts c.in_ok-put_ok_number-in-Ok.ensures

pub returns-in_ok-put_load_fault-in-Err : goal.returns-in_ok-put_load_fault-in-Err
returns-in_ok-put_load_fault-in-Err c =
    bytes_refused c.args.session.now c.load.new.self c.args.bytes.now c.args.replies.now.items c.put_load_fault.new.out.items c.in-Err.fault c.in-Err.ensures.puts c.in_ok-put_load_fault-in-Err.ensures.memory c.in_ok-put_load_fault-in-Err.ensures.text
