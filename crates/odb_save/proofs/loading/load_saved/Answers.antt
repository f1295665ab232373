use Rattle.std.proofs.Common.{arith}
use Rattle.odb_save.proofs.Loads.{answer_of_parts}
use Rattle.odb_save.proofs.loading.load_saved.Goals as goal

pub returns : goal.returns
returns c =
    answer_of_parts c.args.cap c.args.bytes.now c.in_ok-saved.saved c.make_database.result (λ i. omega (arith, c.type_inv.bytes i)) c.in_ok-saved.ensures.answer
    c.make_database.ensures.sound c.make_database.ensures.ok c.make_database.ensures.err
