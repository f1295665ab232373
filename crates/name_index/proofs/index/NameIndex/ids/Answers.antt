use Rattle.std.proofs.Common.{◌≡◌}
use Rattle.std.specs.List.{flat_map}
use Rattle.std.proofs.lemmas.Result.{IfOk-weaker}
use Rattle.name_index.specs.Chain.{ids_from}
use Rattle.name_index.specs.Gathered.{AreIds}
use Rattle.name_index.proofs.Buckets.{bucket_cells}
use Rattle.name_index.proofs.Gathering.{gathered_ids}
use Rattle.name_index.proofs.index.NameIndex.ids.Goals as goal

pub list_chains-requires : goal.list_chains-requires
list_chains-requires g c =
    let meaning = g.C.ChainCells in
    let stands = rw (← c.self.view_is) at c.requires.1 in
    rw c.deref.ensures.value
    (bucket_cells (meaning.cell c.args.cells.now) (meaning.name_of c.args.cells.now) (meaning.chain_of c.args.cells.now) _ g.names stands (g.met.C.ChainCells.none c.args.cells.now))

pub returns : goal.returns
returns g c =
    let meaning = g.C.ChainCells in
    let stands = rw (← c.self.view_is) at c.requires.1 in
    let are = gathered_ids (meaning.cell c.args.cells.now) (meaning.name_of c.args.cells.now) (meaning.chain_of c.args.cells.now) _ g.names stands (g.met.C.ChainCells.none c.args.cells.now) in
    IfOk-weaker c.list_chains.result
    (λ ids. ids.items ≡ flat_map (ids_from (meaning.chain_of c.args.cells.now) c.self.inside.held) c.self.inside.heads.items)
    (λ ids. AreIds (meaning.cell c.args.cells.now) (meaning.name_of c.args.cells.now) ids.items g.names)
    (λ ids is. rw is are)
    (rw c.deref.ensures.value at c.list_chains.ensures)
