-- The table of a kind is the number of its slots, its slots one after another, and its free identifiers.
use Rattle.std.proofs.Common.{◌≡◌, ℕ, ◌+◌, ◌<◌, List, [], ◌++◌, None, length, drop, refl, sym, ap, ◌∙◌, append_assoc, arith}
use Rattle.std.specs.List.{flat_map}
use Rattle.std.proofs.lemmas.List.{drop_all, drop_more}
use Rattle.odb_base.specs.declared.codes.kind.Kind.{Kind}
use Rattle.odb_base.specs.declared.codes.kind.Kind.TheVariants as kind
use Rattle.odb_fields.specs.Fields.{u32_bytes}
use Rattle.slot_pool.specs.Table.{Table, record_at}
use Rattle.block_store.specs.Block.{Block, free_in, slots_in}
use Rattle.block_store.specs.Kinds.{table_of}
use Rattle.named_pool.proofs.Finding.{record_at_place}
use Rattle.odb_save.specs.Kinds.{saved_as, slot_in, slots_behind, table_in}
use Rattle.saved_fields.specs.Bytes.{list_bytes, option_bytes, table_bytes}
use Rattle.saved_reader.specs.Objects.{inst_format}

-- how a table is written
pub record IsWritten (slots : ℕ) (behind slot : ℕ → List ℕ) (free : List ℕ) (whole : List ℕ) : Type 0 where
  pub step : (place : ℕ) → place < slots → behind place ≡ slot (place + 1) ++ behind (place + 1)
  pub done : behind slots ≡ []
  pub parts : whole ≡ u32_bytes slots ++ behind 0 ++ list_bytes u32_bytes free

written : {A : Type 0} (each : A → List ℕ) (t : Table A) → IsWritten (length t.slots) (λ n. flat_map (option_bytes each) (drop n t.slots)) (λ id. option_bytes each (record_at t id)) t.free (table_bytes each t)
unfolding table_bytes list_bytes
written each t = record {
  step = λ place within.
      ap (flat_map (option_bytes each)) (drop_more t.slots place None within)
      ∙ ap (λ o. option_bytes each o ++ flat_map (option_bytes each) (drop (place + 1) t.slots)) (sym (record_at_place t place));
  done = ap (flat_map (option_bytes each)) (drop_all (length t.slots) t.slots (omega arith));
  parts = refl;
}

pub written_in : (k : Kind) (b : Block) → IsWritten (slots_in k b) (λ n. slots_behind n k b) (λ id. slot_in k id b) (free_in k b) (table_in k b)
unfolding slots_behind slot_in table_in
written_in kind.Inst b = written inst_format.bytes b.inst
written_in k b = written (saved_as k).bytes (table_of k b)

-- the three parts of a table were appended
pub table_appended : (k : Kind) (b b' : Block) (slots : ℕ) (a x y z : List ℕ) → b ≡ b' → slots ≡ slots_in k b
    → x ≡ a ++ u32_bytes slots → y ≡ x ++ slots_behind 0 k b' → z ≡ y ++ list_bytes u32_bytes (free_in k b) → z ≡ a ++ table_in k b'
table_appended k b b' slots a x y z same count first second third =
    let counted : slots ≡ slots_in k b' = count ∙ ap (slots_in k) same in
    let freed : list_bytes u32_bytes (free_in k b) ≡ list_bytes u32_bytes (free_in k b') = ap (λ (c : Block). list_bytes u32_bytes (free_in k c)) same in
    let whole : table_in k b' ≡ u32_bytes slots ++ slots_behind 0 k b' ++ list_bytes u32_bytes (free_in k b') =
    (written_in k b').parts ∙ ap (λ n. u32_bytes n ++ slots_behind 0 k b' ++ list_bytes u32_bytes (free_in k b')) (sym counted)
    in
    let joined : ((a ++ u32_bytes slots) ++ slots_behind 0 k b') ++ list_bytes u32_bytes (free_in k b') ≡ a ++ (u32_bytes slots ++ slots_behind 0 k b' ++ list_bytes u32_bytes (free_in k b')) = simp append_assoc in
    third ∙ ap (λ l. l ++ list_bytes u32_bytes (free_in k b)) (second ∙ ap (λ l. l ++ slots_behind 0 k b') first)
    ∙ ap (λ l. ((a ++ u32_bytes slots) ++ slots_behind 0 k b') ++ l) freed
    ∙ joined ∙ ap (λ l. a ++ l) (sym whole)
