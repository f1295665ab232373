-- What is made of tables whose parts were judged.
use Rattle.std.proofs.Common.{List, ℕ}
use Rattle.library.specs.declared.master.Master.{Master}
use Rattle.tech.specs.Technology.{Technology}
use Rattle.block_store.specs.Block.{Block}
use Rattle.block_store.specs.PlainTables.{AreTables}
use Rattle.block_store.specs.Sound.{IsSound}
use Rattle.odb_base.specs.declared.codes.kind.Kind.TheVariants as kind
use Rattle.block_tables.specs.Causes.{IsCause, IsRefusal}
use Rattle.block_tables.specs.Rules.{AreSoundParts}
use Rattle.block_tables.specs.declared.fault.TablesFault.{TablesFault}
use Rattle.block_tables.specs.declared.fault.TablesFault.TheVariants as fault
use Rattle.block_tables.proofs.Parts.{faults_are_unsound, sound_by_parts}

module _ (tech : Technology) (library : List Master) (cap : ℕ) (b : Block) where
  pub sound_of_parts : AreSoundParts tech library cap b → IsSound tech library cap b
  sound_of_parts parts = (sound_by_parts tech library cap b).1 parts

  pub are_tables : AreSoundParts tech library cap b → AreTables cap b
  are_tables parts =
      let sound = sound_of_parts parts in
      record {
        inst = (sound.kinds kind.Inst).table;
        iterm = (sound.kinds kind.ITerm).table;
        net = (sound.kinds kind.Net).table;
        bterm = (sound.kinds kind.BTerm).table;
        pin = (sound.kinds kind.Pin).table;
        row = (sound.kinds kind.Row).table;
        track = (sound.kinds kind.Track).table;
        wire = (sound.kinds kind.Wire).table;
        blockage = (sound.kinds kind.Blockage).table;
        region = (sound.kinds kind.Region).table;
        group = (sound.kinds kind.Group).table;
        prop = (sound.kinds kind.Prop).table;
      }

  pub refused : (fault : TablesFault) → IsCause tech library cap b fault → IsRefusal tech library cap b fault
  refused (fault.Unsound place id) cause = (faults_are_unsound tech library cap b place id cause, cause)
  refused fault.Memory cause = tt
