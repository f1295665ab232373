-- The saved bytes of a database.
use Rattle.std.specs.Prelude.{◌++◌, List, ℕ, codes}
use Rattle.std.specs.List.{flat_map}
use Rattle.odb_base.specs.Kind.{kinds}
use Rattle.odb_fields.specs.Fields.{u32_bytes}
use Rattle.block_store.specs.Block.{Block}
use Rattle.block_store.specs.Database.{Database}
use Rattle.saved_reader.specs.Header.{header_format}
use Rattle.saved_reader.specs.Library.{library_format}
use Rattle.saved_reader.specs.Technology.{tech_format}
use Rattle.odb_save.specs.Kinds.{table_in}

-- the header, and the twelve tables in the order of the codes of their kinds
unfoldable pub block_bytes : Block → List ℕ
block_bytes b = header_format.bytes b.header ++ flat_map (λ k. table_in k b) kinds

-- what stands behind the mark: the version of the format, the technology, the library and the block
unfoldable pub content_bytes : Database → List ℕ
content_bytes d = u32_bytes 1 ++ tech_format.bytes d.tech ++ library_format.bytes d.library ++ block_bytes d.block

-- the saved bytes: a mark, and the content; the cap isn't among them
unfoldable pub save_bytes : Database → List ℕ
save_bytes d = codes "ODBS" ++ content_bytes d
