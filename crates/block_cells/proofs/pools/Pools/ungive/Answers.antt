use Rattle.block_cells.proofs.pools.Pools.ungive.Goals as goal

pub ungive-requires-clause-name : goal.ungive-requires-clause-name
ungive-requires-clause-name g c = rw (c.new-in-Inst.ensures, c.new.ensures) (rw (c.in-Inst.is, ← c.self.view_is) at c.requires.name)

pub ungive-requires-in-Net-clause-name : goal.ungive-requires-in-Net-clause-name
ungive-requires-in-Net-clause-name g c = rw (c.new-in-Net.ensures) (rw (c.in-Net.is, ← c.self.view_is) at c.requires.name)

pub ungive-requires-in-BTerm-clause-name : goal.ungive-requires-in-BTerm-clause-name
ungive-requires-in-BTerm-clause-name g c = rw (c.new-in-BTerm-2.ensures, c.new-in-BTerm.ensures) (rw (c.in-BTerm.is, ← c.self.view_is) at c.requires.name)

pub ungive-requires-in-Row-clause-name : goal.ungive-requires-in-Row-clause-name
ungive-requires-in-Row-clause-name g c = rw (c.new-in-Row.ensures) (rw (c.in-Row.is, ← c.self.view_is) at c.requires.name)

pub ungive-requires-in-Region-clause-name : goal.ungive-requires-in-Region-clause-name
ungive-requires-in-Region-clause-name g c = rw (c.new-in-Region.ensures) (rw (c.in-Region.is, ← c.self.view_is) at c.requires.name)

pub ungive-requires-in-Group-clause-name : goal.ungive-requires-in-Group-clause-name
ungive-requires-in-Group-clause-name g c = rw (c.new-in-Group-2.ensures, c.new-in-Group.ensures) (rw (c.in-Group.is, ← c.self.view_is) at c.requires.name)
