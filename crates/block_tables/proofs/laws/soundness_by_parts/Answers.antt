use Rattle.block_tables.proofs.Parts.{faults_are_unsound, sound_by_parts}
use Rattle.block_tables.proofs.laws.soundness_by_parts.Goals as goal

pub returns-clause-parts : goal.returns-clause-parts
returns-clause-parts c = sound_by_parts

pub returns-clause-faults : goal.returns-clause-faults
returns-clause-faults c = faults_are_unsound
