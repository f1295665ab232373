use Rattle.odb_fields.proofs.Numbers.{u32_spelled}
use Rattle.odb_fields.proofs.get.Get.get_u32.Goals as goal

pub returns-clause-bytes : goal.returns-clause-bytes
returns-clause-bytes c =
    let field = c.in_ok-field in
    rw (c.read_u32.ensures, u32_spelled field.field.now field.ensures.length field.ensures.bytes) field.ensures.taken
