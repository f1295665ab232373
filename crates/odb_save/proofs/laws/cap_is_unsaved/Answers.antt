use Rattle.std.proofs.Common.{refl}
use Rattle.odb_save.specs.Save.{content_bytes, save_bytes}
use Rattle.odb_save.proofs.laws.cap_is_unsaved.Goals as goal

pub returns : goal.returns
unfolding save_bytes content_bytes
returns c = λ d cap. refl
