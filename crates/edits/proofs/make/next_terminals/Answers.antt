use Rattle.std.proofs.Common.{◌≡◌, ◌+◌, ◌<◌, ◌≤◌, ℕ, Ok, Some, length, slice_get, ap, ◌∙◌, arith}
use Rattle.std.proofs.lemmas.Iterator.{YieldsList-from_take, items_from_collect}
use Rattle.std.proofs.lemmas.Iterator.Consumers.{YieldsList-from_first}
use Rattle.slot_pool.specs.Table.{next_id}
use Rattle.odb_base.specs.declared.codes.kind.Kind.TheVariants as kind
use Rattle.block_store.specs.Upcoming.{upcoming_in}
use Rattle.block_store.proofs.Upcoming.{at_upcoming}
use Rattle.edits.proofs.Ids.{first_next_ids}
use Rattle.edits.proofs.make.next_terminals.Goals as goal

pub returns : goal.returns
returns c =
    let b = c.args.block.now.block in
    let all = upcoming_in kind.ITerm b in
    let given = YieldsList-from_first (λ x. x) (λ ids. ids) all (c.take.ensures.source ∙ c.next_ids.ensures.ids) in
    let items = items_from_collect {E = ℕ} (Ok c.in_ok-ids.ids) c.in_ok-ids.ensures.ran (YieldsList-from_take c.args.count given c.take.ensures.count) in
    let enough : c.args.count ≤ length all = omega (arith, c.requires, c.next_ids.ensures.enough, ap length c.next_ids.ensures.ids) in
    let at : (k : ℕ) → k < c.args.count → slice_get all k ≡ Some (next_id b.iterm (0 + k)) = λ k below.
    let place : k ≡ 0 + k = omega arith in
    at_upcoming b.iterm.free (length b.iterm.slots) k (omega (arith, below, enough)) ∙ ap (λ i. Some (next_id b.iterm i)) place in
    c.from_vec.ensures ∙ items ∙ first_next_ids b.iterm all 0 c.args.count at
