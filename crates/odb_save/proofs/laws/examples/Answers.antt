-- Each example is computed.
use Rattle.std.proofs.Common.{refl}
use Rattle.odb_fields.specs.Fields.{i32_bytes, text_bytes, u8_bytes, u32_bytes}
use Rattle.saved_fields.specs.Bytes.{list_bytes, option_bytes, place_bytes, table_bytes, term_bytes}
use Rattle.saved_reader.specs.Header.{header_format}
use Rattle.saved_reader.specs.Library.{extent_field, library_format, master_format, mterm_format}
use Rattle.saved_reader.specs.Objects.{block_direction_field, bterm_format, inst_format, iterm_format, net_format}
use Rattle.saved_reader.specs.Technology.{tech_format}
use Rattle.odb_save.specs.Examples.{empty_saved, one_gate_saved, one_net_saved, zeros}
use Rattle.odb_save.specs.Kinds.{table_in}
use Rattle.odb_save.specs.Save.{block_bytes, content_bytes, save_bytes}
use Rattle.odb_save.proofs.laws.examples.Goals as goal

pub returns-clause-empty : goal.returns-clause-empty
unfolding save_bytes content_bytes tech_format library_format block_bytes header_format table_in table_bytes list_bytes option_bytes text_bytes u32_bytes u8_bytes empty_saved zeros
returns-clause-empty c = λ cap. refl

pub returns-clause-empty_length : goal.returns-clause-empty_length
unfolding empty_saved zeros
returns-clause-empty_length c = refl

pub returns-clause-net : goal.returns-clause-net
unfolding save_bytes content_bytes tech_format library_format block_bytes header_format table_in table_bytes list_bytes option_bytes text_bytes u32_bytes u8_bytes net_format one_net_saved zeros
returns-clause-net c = λ cap. refl

pub returns-clause-net_length : goal.returns-clause-net_length
unfolding one_net_saved zeros
returns-clause-net_length c = refl

pub returns-clause-gate : goal.returns-clause-gate
unfolding save_bytes content_bytes tech_format library_format block_bytes header_format table_in table_bytes list_bytes option_bytes text_bytes u32_bytes u8_bytes i32_bytes
    net_format inst_format iterm_format bterm_format block_direction_field place_bytes term_bytes master_format mterm_format extent_field one_gate_saved zeros
returns-clause-gate c = λ cap. refl
