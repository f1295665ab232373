use Rattle.block_cells.proofs.pools.Pools.rename.Goals as goal

pub rename-requires-clause-name : goal.rename-requires-clause-name
rename-requires-clause-name g c = rw (c.in-Inst.is, ← c.self.view_is) at c.requires.free

pub rename-requires-in-Net-clause-name : goal.rename-requires-in-Net-clause-name
rename-requires-in-Net-clause-name g c = rw (c.in-Net.is, ← c.self.view_is) at c.requires.free

pub rename-requires-in-BTerm-clause-name : goal.rename-requires-in-BTerm-clause-name
rename-requires-in-BTerm-clause-name g c = rw (c.in-BTerm.is, ← c.self.view_is) at c.requires.free

pub rename-requires-in-Row-clause-name : goal.rename-requires-in-Row-clause-name
rename-requires-in-Row-clause-name g c = rw (c.in-Row.is, ← c.self.view_is) at c.requires.free

pub rename-requires-in-Region-clause-name : goal.rename-requires-in-Region-clause-name
rename-requires-in-Region-clause-name g c = rw (c.in-Region.is, ← c.self.view_is) at c.requires.free

pub rename-requires-in-Group-clause-name : goal.rename-requires-in-Group-clause-name
rename-requires-in-Group-clause-name g c = rw (c.in-Group.is, ← c.self.view_is) at c.requires.free
