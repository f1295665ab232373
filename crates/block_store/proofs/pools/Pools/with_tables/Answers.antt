use Rattle.odb_base.specs.declared.codes.kind.Kind.TheVariants as kind
use Rattle.block_store.specs.PlainTables.{HaveDistinctNames}
use Rattle.block_store.proofs.pools.Pools.with_tables.Goals as goal

pub three_named_pools-first-requires-clause-names : goal.three_named_pools-first-requires-clause-names
three_named_pools-first-requires-clause-names c =
    let names : HaveDistinctNames _ = rw (← c.tables.view_is) at c.requires.names in
    (names kind.Inst, names kind.Net, names kind.BTerm)

pub three_named_pools-second-requires-clause-names : goal.three_named_pools-second-requires-clause-names
three_named_pools-second-requires-clause-names c =
    let names : HaveDistinctNames _ = rw (← c.tables.view_is) at c.requires.names in
    (names kind.Row, names kind.Region, names kind.Group)
