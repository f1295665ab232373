use Rattle.std.proofs.Common.{◌≡◌, ◌<◌, ◌∙◌, length, sym, arith}
use Rattle.std.proofs.lemmas.Bool.{eqb-true}
use Rattle.name_index.proofs.Buckets.{find-head, get-no_buckets, head-is, head_cells}
use Rattle.name_index.proofs.index.NameIndex.find.Goals as goal

pub returns-then-is_empty : goal.returns-then-is_empty
returns-then-is_empty g c =
    let cells = g.C.ChainCells in
    let stands = rw (← c.self.view_is) at c.requires.1 in
    let none : length c.self.inside.heads.items ≡ 0 = omega (arith, c.self.inside.heads.ok.0, eqb-true _ 0 (sym c.is_empty.ensures ∙ c.if-is_empty.true)) in
    sym (get-no_buckets (cells.cell c.args.cells.now) (cells.name_of c.args.cells.now) (cells.chain_of c.args.cells.now) _ g.names stands c.args.name.now none)

pub find_from-requires : goal.find_from-requires
find_from-requires g c =
    let cells = g.C.ChainCells in
    let stands = rw (← c.self.view_is) at c.requires.1 in
    let buckets : c.len.result ≡ length c.self.inside.heads.items = omega (arith, c.self.inside.heads.ok.0, c.len.ensures) in
    let some : 0 < length c.self.inside.heads.items = omega (arith, c.bucket-bucket.ensures.within, buckets) in
    head_cells (cells.cell c.args.cells.now) (cells.name_of c.args.cells.now) (cells.chain_of c.args.cells.now) _ g.names stands (g.met.C.ChainCells.none c.args.cells.now) c.args.name.now some c.index.result.now
    (head-is c.self.inside.heads.items c.len.result c.bucket-bucket.result c.args.name.now c.index.result.now c.bucket-bucket.ensures.within buckets c.bucket-bucket.ensures.value c.index.ensures)

pub returns : goal.returns
returns g c =
    let cells = g.C.ChainCells in
    let stands = rw (← c.self.view_is) at c.requires.1 in
    let buckets : c.len.result ≡ length c.self.inside.heads.items = omega (arith, c.self.inside.heads.ok.0, c.len.ensures) in
    let some : 0 < length c.self.inside.heads.items = omega (arith, c.bucket-bucket.ensures.within, buckets) in
    c.find_from.ensures
    ∙ find-head (cells.cell c.args.cells.now) (cells.name_of c.args.cells.now) (cells.chain_of c.args.cells.now) _ g.names stands (g.met.C.ChainCells.none c.args.cells.now) c.args.name.now some c.index.result.now
    (head-is c.self.inside.heads.items c.len.result c.bucket-bucket.result c.args.name.now c.index.result.now c.bucket-bucket.ensures.within buckets c.bucket-bucket.ensures.value c.index.ensures)
