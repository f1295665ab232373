use Rattle.odb_fields.proofs.Numbers.{u64_spelled}
use Rattle.odb_fields.proofs.get.Get.get_u64.Goals as goal

pub returns-clause-bytes : goal.returns-clause-bytes
returns-clause-bytes c =
    let field = c.in_ok-field in
    rw (c.read_u64.ensures, u64_spelled field.field.now field.ensures.length field.ensures.bytes) field.ensures.taken
