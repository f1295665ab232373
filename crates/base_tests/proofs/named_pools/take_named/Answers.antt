use Rattle.std.proofs.Common.{◌≡◌, ◌∙◌, List, ℕ, false, is_some, ap, sym}
use Rattle.named_pool.specs.Names.{find_by}
use Rattle.named_pool.proofs.Finding.{free_unless_found}
use Rattle.base_tests.specs.declared.named_pools.Net.{Net}
use Rattle.base_tests.proofs.named_pools.take_named.Goals as goal

pub take-requires-clause-name : goal.take-requires-clause-name
take-requires-clause-name g c =
    let own : Net → List ℕ = λ net. net.name in
    let table = c.args.pool.now.table in
    let found = c.find.ensures ∙ ap (λ name. find_by own name table) c.bytes.ensures.value in
    let none : is_some (find_by own c.args.name table) ≡ false = ap is_some (sym found) ∙ sym c.is_some.ensures ∙ c.if-is_some.false in
    rw c.reserve.ensures.table (free_unless_found own c.args.name table none)
