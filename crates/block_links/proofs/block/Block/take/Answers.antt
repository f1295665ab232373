use Rattle.block_links.proofs.Moves.{become_taken}
use Rattle.block_links.proofs.Seen.{free_names}
use Rattle.block_records.specs.Record.{kind_of, name_of}
use Rattle.block_links.proofs.block.Block.take.Goals as goal

pub take-requires-clause-name : goal.take-requires-clause-name
take-requires-clause-name g c = let name = rw (← c.self.view_is) at c.requires.name in free_names c.self.inside.pools.cells (kind_of c.args.object) (name_of c.args.object) name

pub invariant_of-self : goal.invariant_of-self
invariant_of-self g c = let name = rw (← c.self.view_is) at c.requires.name in ((become_taken c.self.inside.pools.cells _ c.self.invariant.0 c.args.object name c.take.ensures.cells).lawful, c.self.invariant.1)

pub returns-clause-block : goal.returns-clause-block
returns-clause-block g c = let name = rw (← c.self.view_is) at c.requires.name in rw (← c.self.view_is) ((become_taken c.self.inside.pools.cells _ c.self.invariant.0 c.args.object name c.take.ensures.cells).block)
