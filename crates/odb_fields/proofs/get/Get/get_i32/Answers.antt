use Rattle.std.specs.Prelude.{FitsSigned}
use Rattle.std.specs.Int.{w32}
use Rattle.std.proofs.lemmas.Int.{to_z-of_z}
use Rattle.odb_fields.proofs.Numbers.{i32_fits, i32_spelled}
use Rattle.odb_fields.proofs.get.Get.get_i32.Goals as goal

pub returns-clause-bytes : goal.returns-clause-bytes
returns-clause-bytes c =
    let field = c.in_ok-field in
    let fits : FitsSigned w32 c.read_i32.result = rw c.read_i32.ensures (i32_fits field.field.now field.ensures.length field.ensures.bytes) in
    rw (to_z-of_z w32 c.read_i32.result fits, c.read_i32.ensures, i32_spelled field.field.now field.ensures.length field.ensures.bytes) field.ensures.taken
