use Rattle.odb_fields.proofs.Numbers.{i32_only, u8_only, u32_only, u64_only}
use Rattle.odb_fields.proofs.Texts.{text_only}
use Rattle.odb_fields.proofs.laws.read_fields.Goals as goal

pub returns : goal.returns
returns c = record {
  u8 = u8_only;
  u32 = u32_only;
  u64 = u64_only;
  i32 = i32_only;
  text = text_only;
}
