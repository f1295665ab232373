use Rattle.block_cells.proofs.pools.Pools.take.Goals as goal

pub take-requires-clause-name : goal.take-requires-clause-name
take-requires-clause-name g c = rw (c.new-in-Inst.ensures, c.new.ensures) (rw (c.in-Inst.is, ← c.self.view_is) at c.requires.name)

pub take-requires-in-Net-clause-name : goal.take-requires-in-Net-clause-name
take-requires-in-Net-clause-name g c = rw (c.new-in-Net.ensures) (rw (c.in-Net.is, ← c.self.view_is) at c.requires.name)

pub take-requires-in-BTerm-clause-name : goal.take-requires-in-BTerm-clause-name
take-requires-in-BTerm-clause-name g c = rw (c.new-in-BTerm-2.ensures, c.new-in-BTerm.ensures) (rw (c.in-BTerm.is, ← c.self.view_is) at c.requires.name)

pub take-requires-in-Row-clause-name : goal.take-requires-in-Row-clause-name
take-requires-in-Row-clause-name g c = rw (c.new-in-Row.ensures) (rw (c.in-Row.is, ← c.self.view_is) at c.requires.name)

pub take-requires-in-Region-clause-name : goal.take-requires-in-Region-clause-name
take-requires-in-Region-clause-name g c = rw (c.new-in-Region.ensures) (rw (c.in-Region.is, ← c.self.view_is) at c.requires.name)

pub take-requires-in-Group-clause-name : goal.take-requires-in-Group-clause-name
take-requires-in-Group-clause-name g c = rw (c.new-in-Group-2.ensures, c.new-in-Group.ensures) (rw (c.in-Group.is, ← c.self.view_is) at c.requires.name)
