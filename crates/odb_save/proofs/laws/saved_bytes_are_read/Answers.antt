use Rattle.odb_save.specs.Save.{content_bytes, save_bytes}
use Rattle.odb_save.specs.Spelled.{spelled}
use Rattle.odb_save.proofs.SoundFields.{saved_fields}
use Rattle.odb_save.proofs.Whole.{bytes_are_read}
use Rattle.odb_save.proofs.laws.saved_bytes_are_read.Goals as goal

pub returns : goal.returns
unfolding save_bytes content_bytes
returns c = λ d sound. bytes_are_read d.cap (spelled d) (saved_fields d sound)
