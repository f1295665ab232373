use Rattle.std.proofs.Common.{◌≡◌, ◌+◌, ◌-◌, ◌<◌, ◌≤◌, ◌∙◌, ℕ, false, eqb, None, length, ap, sym, arith, inl, inr}
use Rattle.std.proofs.lemmas.Bool.Decides.{leb_tells, nat_tests}
use Rattle.std.proofs.lemmas.List.{get_or_past}
use Rattle.slot_pool.specs.Table.{Table, record_at}
use Rattle.odb_base.specs.Ids.{holds}
use Rattle.block_store.specs.Lists.{list_in}
use Rattle.block_tests.proofs.blocks.is_in_no_terms.Goals as goal

past : {A : Type 0} (t : Table A) (id : ℕ) → length t.slots < id → record_at t id ≡ None
past t id behind =
    let some : eqb id 0 ≡ false = grind (arith, nat_tests, behind) in
    let far : length t.slots ≤ id - 1 = omega arith in
    rw some (get_or_past t.slots (id - 1) None far)

pub loop-net-init : goal.loop-net-init
loop-net-init c =
    λ id low.
    let zero : id ≡ 0 = omega arith in
    ap (λ n. holds (list_in (λ e. e.terms) (record_at c.args.block.now.block.net n)) c.args.member) zero

pub loop-net-preserved : goal.loop-net-preserved
loop-net-preserved c =
    let none_here : holds (list_in (λ e. e.terms) (record_at c.args.block.now.block.net (c.loop-net.net + 1))) c.args.member ≡ false = sym c.is_member.ensures ∙ c.if-is_member.false in
    λ id low. elim (leb_tells id c.loop-net.net) [
      | inl w ↦ c.loop-net.invariant id w.1
      | inr w ↦
          let same : id ≡ c.loop-net.net + 1 = omega (arith, low, w.1) in
          ap (λ n. holds (list_in (λ e. e.terms) (record_at c.args.block.now.block.net n)) c.args.member) same ∙ none_here
    ]

pub returns : goal.returns
returns c =
    λ _ id. elim (leb_tells id c.loop-net.net) [
      | inl w ↦ c.loop-net.invariant id w.1
      | inr w ↦ ap (λ r. holds (list_in (λ e. e.terms) r) c.args.member) (past c.args.block.now.block.net id (omega (arith, w.1)))
    ]
