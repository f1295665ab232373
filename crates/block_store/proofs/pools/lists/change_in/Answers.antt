use Rattle.std.proofs.Common.{◌≡◌, ◌∙◌, Some, ap, sym}
use Rattle.std.specs.Option.{option_map}
use Rattle.block_store.specs.Changes.{changed}
use Rattle.block_store.proofs.TableLemmas.{on_alike, on_on}
use Rattle.block_store.proofs.pools.lists.change_in.Goals as goal

pub returns-clause-table : goal.returns-clause-table
returns-clause-table g c =
    let set = g.F.Field.with_value in
    let get = g.F.Field.value_of in
    let change = c.args.change in
    let id = c.args.id in
    let old = c.args.pool.now.table in
    let empty = c.new.result in
    let members = c.set-members.result in
    let back = c.change-next.new.self in
    rw (c.set-taken_out.ensures.table, c.set-members.ensures.table)
    (on_on (set back) (set empty) id old
    ∙ on_alike (λ x. set back (set empty x)) (λ x. set (changed change (get x)) x) id old (λ x found.
    let is : Some (get x) ≡ Some members = ap (option_map get) (sym found) ∙ c.set-members.ensures.value in
    let same : members ≡ get x = cc in
    g.met.F.Field.last x empty back ∙ ap (λ ids. set ids x) (c.change-next.ensures.list ∙ ap (changed change) same)))
