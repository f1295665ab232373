use Rattle.block_store.proofs.ConsistentWhereSound.{consistent_where_sound}
use Rattle.block_tables.proofs.Made.{are_tables, refused, sound_of_parts}
use Rattle.block_tables.proofs.from_tables.BlockFromTables.from_tables.Goals as goal

pub with_tables-requires-clause-good : goal.with_tables-requires-clause-good
with_tables-requires-clause-good c = are_tables c.args.tech.now c.args.library.now c.args.cap c.args.tables (c.in-Ok.ensures.ok c.args.cap c.requires.within)

pub with_tables-requires-clause-consistent : goal.with_tables-requires-clause-consistent
with_tables-requires-clause-consistent c =
    consistent_where_sound c.args.tech.now c.args.library.now c.args.cap c.args.tables
    (sound_of_parts c.args.tech.now c.args.library.now c.args.cap c.args.tables (c.in-Ok.ensures.ok c.args.cap c.requires.within))

pub returns-in-Err-clause-unsound : goal.returns-in-Err-clause-unsound
returns-in-Err-clause-unsound c = refused c.args.tech.now c.args.library.now c.args.cap c.args.tables c.in-Err.fault (c.in-Err.ensures.err c.args.cap c.requires.within)

pub returns-in-Ok-with_tables-clause-sound : goal.returns-in-Ok-with_tables-clause-sound
returns-in-Ok-with_tables-clause-sound c = sound_of_parts c.args.tech.now c.args.library.now c.args.cap c.args.tables (c.in-Ok.ensures.ok c.args.cap c.requires.within)
