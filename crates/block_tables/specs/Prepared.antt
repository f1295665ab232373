-- What is known of all that records are judged by. No public clause cites this module.
use Rattle.block_tables.specs.declared.judge.Judge.{Judge}
use Rattle.block_tables.specs.Indexes.{CountsHolders, CountsStanding}

-- the counts are right: how many objects have each name, and how often each terminal stands in its net's list
pub record IsPrepared (j : Judge) : Type 0 where
  pub insts : CountsHolders (λ e. e.fields.name) j.tables.now.inst.slots j.insts.counts
  pub nets : CountsHolders (λ e. e.fields.name) j.tables.now.net.slots j.nets.counts
  pub bterms : CountsHolders (λ e. e.fields.name) j.tables.now.bterm.slots j.bterms.counts
  pub rows : CountsHolders (λ e. e.fields.name) j.tables.now.row.slots j.rows.counts
  pub standing : CountsStanding j.tables.now j.standing.items
