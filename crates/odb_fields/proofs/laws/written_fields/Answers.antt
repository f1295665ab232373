use Rattle.odb_fields.proofs.Numbers.{i32_back, u8_back, u32_back, u64_back}
use Rattle.odb_fields.proofs.Texts.{text_back}
use Rattle.odb_fields.proofs.laws.written_fields.Goals as goal

pub returns : goal.returns
returns c = record {
  u8 = u8_back;
  u32 = u32_back;
  u64 = u64_back;
  i32 = i32_back;
  text = text_back;
}
