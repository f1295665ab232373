-- The least place at which tables aren't sound: the header comes first, then the kinds in the order of their
-- codes; within a kind the table comes before its records, which come by their identifiers.
use Rattle.std.specs.Prelude.{◌≡◌, ◌<◌, ◌≤◌, List, ℕ, Option, None, Some}
use Rattle.odb_base.specs.Kind.{kind_code}
use Rattle.odb_base.specs.declared.codes.kind.Kind.{Kind}
use Rattle.library.specs.declared.master.Master.{Master}
use Rattle.tech.specs.Technology.{Technology}
use Rattle.block_store.specs.Block.{Block}
use Rattle.block_tables.specs.Rules.{IsSoundHeader, IsSoundKind, IsSoundRecord, IsSoundTable}

-- The first place of a kind that isn't sound. Identifier 0 is the place of the table.
pub record IsFirstFault (tech : Technology) (library : List Master) (cap : ℕ) (b : Block) (k : Kind) (id : ℕ) : Type 0 where
  pub table : id ≡ 0 → ¬ (IsSoundTable cap b k)
  pub sound_table : 1 ≤ id → IsSoundTable cap b k
  pub this : 1 ≤ id → ¬ (IsSoundRecord tech library b k id)
  pub before : (lesser : ℕ) → lesser < id → IsSoundRecord tech library b k lesser

-- the place is in this kind: the header and the kinds of lesser codes are sound
pub record IsLeastInKind (tech : Technology) (library : List Master) (cap : ℕ) (b : Block) (k : Kind) (id : ℕ) : Type 0 where
  pub header : IsSoundHeader tech library b
  pub lesser : (other : Kind) → kind_code other < kind_code k → IsSoundKind tech library cap b other
  pub first : IsFirstFault tech library cap b k id

-- the place is the header, of no kind and with identifier 0
pub record IsHeaderFault (tech : Technology) (library : List Master) (b : Block) (id : ℕ) : Type 0 where
  pub zero : id ≡ 0
  pub header : ¬ (IsSoundHeader tech library b)

-- the place is the least that isn't sound: the header, or an identifier of a kind
abbrev pub IsLeastFault : Technology → List Master → ℕ → Block → Option Kind → ℕ → Type 0
IsLeastFault tech library cap b None id = IsHeaderFault tech library b id
IsLeastFault tech library cap b (Some k) id = IsLeastInKind tech library cap b k id
