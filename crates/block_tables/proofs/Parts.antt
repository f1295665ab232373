-- Soundness of a block by its parts, and the least place that isn't sound.
use Rattle.std.proofs.Common.{List, ℕ, Option, Some, None, inl, inr, arith}
use Rattle.std.proofs.lemmas.Bool.{cases_lt}
use Rattle.odb_base.specs.declared.codes.kind.Kind.{Kind}
use Rattle.library.specs.declared.master.Master.{Master}
use Rattle.tech.specs.Technology.{Technology}
use Rattle.block_store.specs.Block.{Block}
use Rattle.block_store.specs.Sound.{IsSound}
use Rattle.block_tables.specs.Laws.{FaultsAreUnsound, SoundByParts}
use Rattle.block_tables.specs.Places.{IsLeastFault}
use Rattle.block_tables.specs.Rules.{AreSoundParts}
use Rattle.block_tables.proofs.PartsOfSound.{sound_kind}
use Rattle.block_tables.proofs.SoundOfParts.{sound_block}

module _ (tech : Technology) (library : List Master) (cap : ℕ) (b : Block) where
  pub parts_of_sound : IsSound tech library cap b → AreSoundParts tech library cap b
  parts_of_sound s = record {
    header = record { masters = s.masters; header = s.header };
    kinds = sound_kind tech library cap b s;
  }

  pub sound_by_parts : SoundByParts tech library cap b
  sound_by_parts = (parts_of_sound, λ parts. sound_block tech library cap b parts)

  pub no_fault : AreSoundParts tech library cap b → (kind : Option Kind) (id : ℕ) → IsLeastFault tech library cap b kind id → ⊥
  no_fault parts None id fault = fault.header parts.header
  no_fault parts (Some k) id fault = elim (cases_lt 0 id) [
    | inl some ↦ fault.first.this (omega arith) ((parts.kinds k).records id)
    | inr zero ↦ fault.first.table (omega arith) ((parts.kinds k).table)
  ]

  pub faults_are_unsound : FaultsAreUnsound tech library cap b
  faults_are_unsound kind id fault s = no_fault (parts_of_sound s) kind id fault
