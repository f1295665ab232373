-- How often terminals stand in the lists of the nets that they name, net by net.
use Rattle.std.proofs.Common.{◌≡◌, ◌+◌, ◌*◌, ◌%◌, ◌/◌, ◌-◌, ◌<◌, ◌==◌, eqb, true, false, List, [], ℕ, None, if◌then◌else◌, length, get_or, max, nat_le, refl, sym, ap, ◌∙◌, inl, inr, arith}
use Rattle.std.specs.Option.{option_map_or}
use Rattle.std.proofs.lemmas.Bool.{cases_Bool, cases_lt, eqb-true, eqb-false}
use Rattle.std.proofs.lemmas.Bool.Decides.{nat_tests}
use Rattle.std.proofs.lemmas.List.{get_or_past}
use Rattle.slot_pool.specs.Table.{Table, record_at}
use Rattle.block_records.specs.declared.iterm.ITermRec.{ITermRec}
use Rattle.block_store.specs.declared.entry.BTermEntry.{BTermEntry}
use Rattle.block_store.specs.declared.entry.NetEntry.{NetEntry}
use Rattle.block_store.specs.Block.{Block}
use Rattle.block_store.specs.Lists.{list_in}
use Rattle.block_store.specs.Sound.{net_terms}
use Rattle.block_tables.specs.Counting.{often}
use Rattle.block_tables.specs.Indexes.{CountsStanding, standing_up_to}
use Rattle.block_tables.specs.RuleNets.{term_net}

-- an identifier past the slots has no record
pub past_none : {A : Type 0} (t : Table A) (id : ℕ) → length t.slots < id → record_at t id ≡ None
past_none t id far = let past = get_or_past t.slots (id - 1) None in grind (arith, nat_tests, past, far)

module _ (b : Block) where
  -- a net past the slots has no terminals
  no_terms : (net : ℕ) → length b.net.slots < net → net_terms b net ≡ []
  no_terms net far = ap (list_in (λ (e : NetEntry). e.terms)) (past_none b.net net far)

  -- a terminal past the slots names no net
  unjoined : (number : ℕ) → length b.iterm.slots < number / 2 → length b.bterm.slots < number / 2 → term_net b number ≡ 0
  unjoined number iterms bterms = elim (cases_Bool (eqb (number % 2) 0)) [
    | inl e ↦ rw e (ap (λ o. option_map_or (λ (r : ITermRec). r.net) o 0) (past_none b.iterm (number / 2) iterms))
    | inr e ↦ rw e (ap (λ o. option_map_or (λ (e : BTermEntry). e.fields.net) o 0) (past_none b.bterm (number / 2) bterms))
  ]

  -- no terminal stands in the list of no net
  pub none_yet : (number : ℕ) → standing_up_to b 0 number ≡ 0
  none_yet number = elim (cases_Bool (nat_le (term_net b number) 0)) [
    | inl e ↦
        let unjoined : term_net b number ≡ 0 = grind (arith, nat_tests, e) in
        rw e (ap (λ n. often number (net_terms b n)) unjoined)
    | inr e ↦ rw e refl
  ]

  -- none of a net's terminals stands in the lists of the nets before it
  pub none_before : (last number : ℕ) → term_net b number ≡ last + 1 → standing_up_to b last number ≡ 0
  none_before last number is =
      let past : nat_le (term_net b number) last ≡ false = grind (arith, nat_tests, is) in
      rw past refl

  -- one net more
  pub standing_more : (last number : ℕ) (numbers : List ℕ) → numbers ≡ net_terms b (last + 1) → (if term_net b number == last + 1 then often number numbers else standing_up_to b last number) ≡ standing_up_to b (last + 1) number
  standing_more last number numbers is = elim (cases_Bool (eqb (term_net b number) (last + 1))) [
    | inl e ↦
        let same = eqb-true (term_net b number) (last + 1) e in
        let near : nat_le (term_net b number) (last + 1) ≡ true = grind (arith, nat_tests, same) in
        rw (e, near) (ap (often number) is ∙ ap (λ n. often number (net_terms b n)) (sym same))
    | inr e ↦
        let other = eqb-false (term_net b number) (last + 1) e in
        let still : nat_le (term_net b number) (last + 1) ≡ nat_le (term_net b number) last = grind (arith, nat_tests, other) in
        rw (e, still) refl
  ]

  -- all nets
  pub standing_all : (counts : List ℕ) → length counts ≡ 2 * max (length b.iterm.slots) (length b.bterm.slots) + 2 → ((number : ℕ) → number < length counts → get_or counts number 0 ≡ standing_up_to b (length b.net.slots) number) → CountsStanding b counts
  standing_all counts long known number = elim (cases_lt number (length counts)) [
    | inl within ↦ known number within ∙ elim (cases_lt (length b.net.slots) (term_net b number)) [
      | inl far ↦
          let past : nat_le (term_net b number) (length b.net.slots) ≡ false = grind (arith, nat_tests, far) in
          rw (past, no_terms (term_net b number) far) refl
      | inr near ↦
          let there : nat_le (term_net b number) (length b.net.slots) ≡ true = grind (arith, nat_tests, near) in
          rw there refl
    ]
    | inr past ↦
        let iterms : length b.iterm.slots < number / 2 = omega (arith, long, past) in
        let bterms : length b.bterm.slots < number / 2 = omega (arith, long, past) in
        get_or_past counts number 0 past ∙ ap (λ n. often number (net_terms b n)) (sym (unjoined number iterms bterms))
  ]

  -- a terminal that names a net, as the counts say of the net's list
  pub counted_in : (counts numbers : List ℕ) (net number : ℕ) → CountsStanding b counts → numbers ≡ net_terms b net → term_net b number ≡ net → get_or counts number 0 ≡ often number numbers
  counted_in counts numbers net number known list is = known number ∙ ap (λ n. often number (net_terms b n)) is ∙ ap (often number) (sym list)
