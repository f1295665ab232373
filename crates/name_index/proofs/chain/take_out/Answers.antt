use Rattle.std.proofs.Common.{◌≡◌, ◌∙◌, ap, length}
use Rattle.name_index.specs.Hash.{bucket_at}
use Rattle.name_index.proofs.Dropping.{cell_before}
use Rattle.name_index.proofs.chain.take_out.Goals as goal

pub set_chain-requires : goal.set_chain-requires
set_chain-requires g c =
    let cells = g.C.ChainCells in
    let bucket : c.bucket-bucket.result ≡ bucket_at (length c.args.heads.now) (cells.name_of c.args.cells.now c.args.id) =
    c.bucket-bucket.ensures.value ∙ ap (bucket_at (length c.args.heads.now)) c.name.ensures
    in
    cell_before (cells.cell c.args.cells.now) (cells.chain_of c.args.cells.now) c.args.most c.args.id _ c.prior-before.result
    (rw (← bucket) at c.requires.reached) c.prior-before.ensures c.if-before-eq0.false
