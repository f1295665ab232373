use Rattle.odb_fields.proofs.Texts.{text_spelled}
use Rattle.odb_fields.proofs.get.Get.get_text.Goals as goal

pub returns-clause-bytes : goal.returns-clause-bytes
returns-clause-bytes c =
    let head = c.in_ok-next in
    let field = c.in_ok-field in
    rw (text_spelled c.args.self.now _ _ head.field-0.now field.field.now c.read_u32-count.result head.ensures.taken head.ensures.length head.ensures.bytes c.read_u32-count.ensures field.ensures.taken field.ensures.length) field.ensures.taken
