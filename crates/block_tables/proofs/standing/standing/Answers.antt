use Rattle.std.proofs.Common.{◌≡◌, ◌+◌, ◌*◌, ◌==◌, List, ℕ, if◌then◌else◌, length, get_or, max, ap, sym, ◌∙◌, inl, inr, arith}
use Rattle.std.proofs.lemmas.Bool.{cases_lt}
use Rattle.std.proofs.lemmas.List.{get_or-replicate, get_or_past, length-replicate}
use Rattle.block_store.specs.Block.{Block}
use Rattle.block_tables.specs.Counting.{often}
use Rattle.block_tables.specs.Indexes.{standing_up_to}
use Rattle.block_tables.specs.RuleNets.{term_net}
use Rattle.block_tables.proofs.Standings.{none_before, none_yet, standing_all, standing_more}
use Rattle.block_tables.proofs.standing.standing.Goals as goal

pub loop-place-init : goal.loop-place-init
loop-place-init c =
    let zeros = c.in_ok-counts.ensures.items_if_clones_equal (λ y h. h) in (
      ap length zeros ∙ length-replicate _ 0,
      λ number within. ap (λ (l : List ℕ). get_or l number 0) zeros ∙ get_or-replicate _ number 0 0 within ∙ sym (none_yet c.args.tables.now number),
    )

pub count_list-requires : goal.count_list-requires
count_list-requires c =
    λ number mine. elim (cases_lt number (2 * c.max.result + 2)) [
      | inl within ↦ c.loop-place.invariant.1 number within ∙ none_before c.args.tables.now c.loop-place.place number mine
      | inr past ↦ get_or_past c.loop-place.counts.items number 0 (omega (arith, past, c.loop-place.invariant.0))
    ]

pub loop-place-preserved : goal.loop-place-preserved
loop-place-preserved c =
    let b = c.args.tables.now in
    let place = c.loop-place.place in
    let numbers = c.terminals_of.result.now in
    let long = c.loop-place.invariant.0 in (
      c.count_list.ensures.long ∙ long,
      λ number within.
          c.count_list.ensures.counts number (omega (arith, long, within))
          ∙ ap (λ n. if term_net b number == place + 1 then often number numbers else n) (c.loop-place.invariant.1 number within)
          ∙ standing_more b place number numbers c.terminals_of.ensures,
    )

pub returns : goal.returns
returns c =
    let b = c.args.tables.now in
    let counts = c.loop-place.counts.items in
    let iterms : length c.slots.result.now ≡ length b.iterm.slots = ap length c.slots.ensures ∙ ap (λ (t : Block). length t.iterm.slots) c.tables.view_is in
    let bterms : length c.slots-2.result.now ≡ length b.bterm.slots = ap length c.slots-2.ensures ∙ ap (λ (t : Block). length t.bterm.slots) c.tables.view_is in
    let nets : length c.slots-place-end.result.now ≡ length b.net.slots = ap length c.slots-place-end.ensures ∙ ap (λ (t : Block). length t.net.slots) c.tables.view_is in
    let all : c.loop-place.place ≡ length b.net.slots = omega (arith, nets, c.loop-place-test.false, c.loop-place.auto.place-end) in
    let long = c.loop-place.invariant.0 in
    let most : c.max.result ≡ max (length b.iterm.slots) (length b.bterm.slots) = rw (← iterms, ← bterms) c.max.ensures in
    standing_all b counts (long ∙ ap (λ n. 2 * n + 2) most) (λ number within. c.loop-place.invariant.1 number (omega (arith, long, within)) ∙ ap (λ last. standing_up_to b last number) all)
