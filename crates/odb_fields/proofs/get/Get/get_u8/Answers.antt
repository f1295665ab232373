use Rattle.odb_fields.proofs.Numbers.{u8_spelled}
use Rattle.odb_fields.proofs.get.Get.get_u8.Goals as goal

pub returns-clause-bytes : goal.returns-clause-bytes
returns-clause-bytes c =
    let field = c.in_ok-field in
    rw (u8_spelled field.field.now field.ensures.length field.ensures.bytes) field.ensures.taken
