use Rattle.odb_fields.proofs.Numbers.{length-i32_bytes, length-u8_bytes, length-u32_bytes, length-u64_bytes}
use Rattle.odb_fields.proofs.Texts.{length-text_bytes}
use Rattle.odb_fields.proofs.laws.field_lengths.Goals as goal

pub returns : goal.returns
returns c = record {
  u8 = length-u8_bytes;
  u32 = length-u32_bytes;
  u64 = length-u64_bytes;
  i32 = length-i32_bytes;
  text = length-text_bytes;
}
