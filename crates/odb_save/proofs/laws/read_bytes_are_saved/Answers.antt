use Rattle.odb_save.specs.Save.{content_bytes, save_bytes}
use Rattle.odb_save.specs.Spelled.{database_of}
use Rattle.odb_save.proofs.SoundFields.{saved_fields}
use Rattle.odb_save.proofs.Whole.{read_has_bytes}
use Rattle.odb_save.proofs.laws.read_bytes_are_saved.Goals as goal

pub returns : goal.returns
unfolding save_bytes content_bytes
returns c = λ cap bytes s are e sound. read_has_bytes cap bytes s are e (saved_fields (database_of cap s) sound)
