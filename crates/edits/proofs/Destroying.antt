-- What hangs on an object can be parted from it one after the other, and then the object can go.
use Rattle.std.proofs.Common.{◌≡◌, ◌≢◌, ◌≤◌, ◌/◌, ◌%◌, true, false, List, [], ◌∷◌, ◌++◌, ℕ, zero, suc, Option, None, Some, Ok, eqb, is_some, slice_get, refl, sym, ap, subst, ◌∙◌, inl, inr, arith}
use Rattle.std.specs.Option.{option_map, option_map_or, unwrap_or}
use Rattle.std.proofs.lemmas.Bool.{cases_eq, eq-eqb, false_from_ne_true, false≢true, ne_eqb, or_from, or_right}
use Rattle.std.proofs.lemmas.Option.{some_pair_parts}
use Rattle.slot_pool.specs.Table.{is_live, record_at}
use Rattle.odb_base.specs.Ids.{IsDistinct, holds, without}
use Rattle.odb_base.proofs.Splits.{eqb-refl}
use Rattle.odb_base.specs.declared.codes.kind.Kind.{Kind}
use Rattle.odb_base.specs.declared.codes.kind.Kind.TheVariants as kind
use Rattle.block_records.specs.declared.iterm.ITermRec.{ITermRec}
use Rattle.tech.specs.Technology.{Technology}
use Rattle.library.specs.declared.master.Master.{Master}
use Rattle.edit_words.specs.declared.refusal.Refusal.TheVariants as refusal
use Rattle.edit_words.specs.declared.step.Step.{Step}
use Rattle.edit_words.specs.declared.step.Step.TheVariants as step
use Rattle.block_store.specs.declared.entry.BTermEntry.{BTermEntry}
use Rattle.block_store.specs.Block.{Block, live_in}
use Rattle.block_store.specs.Fields.{net_in}
use Rattle.block_store.specs.Lists.{bterm_number, iterm_number, list_in, on_list, term_number}
use Rattle.block_store.specs.Moves.{with_net}
use Rattle.block_store.specs.declared.list_of.ListOf.TheVariants as list
use Rattle.block_store.specs.Sound.{IsSound, bterm_net, inst_terms, iterm_net, net_terms}
use Rattle.block_store.proofs.Held.{held_names}
use Rattle.block_store.proofs.Joined.{bterms_held, iterms_held, some_is, terms_placed}
use Rattle.slot_pool.proofs.Mapped.{at_on, live_record}
use Rattle.block_store.proofs.Shown.{from_one, live_on, view_at_on, view_other_on}
use Rattle.steps_net.specs.Can.{CanPart}
use Rattle.steps_net.specs.Do.{do_step}
use Rattle.steps_net.proofs.Joining.{sound_part}
use Rattle.edits.specs.Plan.{CanAll, kind_of_number, parted, parted_from, parted_members, parted_terms, plan_destroy}
use Rattle.edits.proofs.Questions.{err_ok, same_ok}

-- what stands at a place is a member
held_at : (ids : List ℕ) (k id : ℕ) → slice_get ids k ≡ Some id → holds ids id ≡ true
held_at [] k id at = cc
held_at (x ∷ xs) zero id at =
    let same : x ≡ id = some_is x id at in
    rw (eq-eqb x id same) refl
held_at (x ∷ xs) (suc k) id at = or_right (eqb x id) (holds xs id) (held_at xs k id at)

-- a member stands at a place
pub record Place (ids : List ℕ) (id : ℕ) : Type 0 where
  pub place : ℕ
  pub is : slice_get ids place ≡ Some id

place_of : (ids : List ℕ) (id : ℕ) → holds ids id ≡ true → Place ids id
place_of [] id inside = absurd (false≢true inside)
place_of (x ∷ xs) id inside = elim (cases_eq x id) [
  | inl e ↦ record { place = zero; is = ap Some e }
  | inr e ↦
      let behind : holds xs id ≡ true = rw (ne_eqb x id e) at inside in
      let at = place_of xs id behind in
      record { place = suc at.place; is = at.is }
]

-- no member stands twice where its place is known
distinct_by_place : (ids : List ℕ) → ((j k id : ℕ) → slice_get ids j ≡ Some id → slice_get ids k ≡ Some id → j ≡ k) → IsDistinct ids
distinct_by_place [] once = tt
distinct_by_place (x ∷ xs) once = (
  false_from_ne_true (holds xs x) (λ inside.
      let at = place_of xs x inside in
      let same : zero ≡ suc at.place = once zero (suc at.place) x refl at.is in
      cc),
  distinct_by_place xs (λ j k id one other.
      let same : suc j ≡ suc k = once (suc j) (suc k) id one other in
      omega arith),
)

-- who isn't parted, and who is
unparted : (k : Kind) (id net : ℕ) → net ≡ 0 → parted_from k id net ≡ []
unparted k id net e = rw (eq-eqb net 0 e) refl

is_parted : (k : Kind) (id net : ℕ) → net ≢ 0 → parted_from k id net ≡ step.Part k id net ∷ []
is_parted k id net e = rw (ne_eqb net 0 e) refl

module _ {A : Type 0} (net_of : A → ℕ) where
  -- a terminal that shows a net is there
  shows_net : (o : Option A) (net : ℕ) → option_map_or net_of o 0 ≡ net → net ≢ 0 → option_map net_of o ≡ Some net
  shows_net None net h some = absurd (some (sym h))
  shows_net (Some x) net h some = ap Some h

  -- two ways to ask for the net of a terminal
  same_net : (o : Option A) → unwrap_or (option_map net_of o) 0 ≡ option_map_or net_of o 0
  same_net None = refl
  same_net (Some x) = refl

  -- a terminal that is there shows its net
  its_net : (o : Option A) → is_some o ≡ true → option_map net_of o ≡ Some (unwrap_or (option_map net_of o) 0)
  its_net None there = absurd (false≢true there)
  its_net (Some x) there = refl

-- a terminal that was parted shows no net
no_net : (o : Option ITermRec) → option_map_or (λ r. r.net) (option_map {T = ITermRec} (λ r. record r { net = 0 }) o) 0 ≡ 0
no_net None = refl
no_net (Some r) = refl

no_bterm_net : (o : Option BTermEntry) → is_some o ≡ true → option_map (λ e. e.fields.net) (option_map {T = BTermEntry} (λ e. record e { fields = record e.fields { net = 0 } }) o) ≡ Some 0
no_bterm_net None there = absurd (false≢true there)
no_bterm_net (Some e) there = refl

module _ (library : List Master) (d : Block) where
  -- the nets of instance terminals after one was parted
  net_parted : (id net : ℕ) → iterm_net (do_step library (step.Part kind.ITerm id net) d) id ≡ 0
  net_parted id net = ap (λ o. option_map_or (λ r. r.net) o 0) (at_on (λ r. record r { net = 0 }) id d.iterm) ∙ no_net (record_at d.iterm id)

  net_beside : (id net other : ℕ) → other ≢ id → iterm_net (do_step library (step.Part kind.ITerm id net) d) other ≡ iterm_net d other
  net_beside id net other apart = view_other_on (λ o. option_map_or (λ r. r.net) o 0) (λ r. record r { net = 0 }) id d.iterm other apart

module _ (tech : Technology) (library : List Master) (cap : ℕ) (b : Block) (inst : ℕ) where
  -- a block on the way: of the terminals of the instance these are still to come, and the others are parted
  record IsParting (d : Block) (rest : List ℕ) : Type 0 where
    sound : IsSound tech library cap d
    insts : d.inst ≡ b.inst
    to_come : (id : ℕ) → holds rest id ≡ true → iterm_net d id ≡ iterm_net b id
    done : (id : ℕ) → holds (inst_terms b inst) id ≡ true → holds rest id ≡ false → iterm_net d id ≡ 0

  begun : IsSound tech library cap b → IsParting b (inst_terms b inst)
  begun sound = record {
    sound = sound;
    insts = refl;
    to_come = λ id inside. refl;
    done = λ id inside outside. absurd (false≢true (sym outside ∙ inside));
  }

  -- one that isn't joined needs no step
  passed : (d : Block) (id : ℕ) (rest : List ℕ) → iterm_net b id ≡ 0 → IsParting d (id ∷ rest) → IsParting d rest
  passed d id rest none p = record {
    sound = p.sound;
    insts = p.insts;
    to_come = λ other inside. p.to_come other (or_right (eqb id other) (holds rest other) inside);
    done = λ other inside outside. elim (cases_eq id other) [
      | inl e ↦ ap (iterm_net d) (sym e) ∙ p.to_come id (rw (eqb-refl id) refl) ∙ none
      | inr e ↦ p.done other inside (or_from (eqb id other) (holds rest other) (ne_eqb id other e) outside)
    ];
  }

  -- one that is joined can be parted
  can_part : (d : Block) (id : ℕ) (rest : List ℕ) → iterm_net b id ≢ 0 → IsParting d (id ∷ rest) → CanPart d kind.ITerm id (iterm_net b id)
  can_part d id rest some p = record {
    joined = shows_net (λ r. r.net) (record_at d.iterm id) (iterm_net b id) (p.to_come id (rw (eqb-refl id) refl)) some;
    some = omega (arith, some);
  }

  next_parted : (d : Block) (id : ℕ) (rest : List ℕ) → holds rest id ≡ false → (some : iterm_net b id ≢ 0) → (p : IsParting d (id ∷ rest)) → IsParting (do_step library (step.Part kind.ITerm id (iterm_net b id)) d) rest
  next_parted d id rest last some p = record {
    sound = sound_part tech library cap d kind.ITerm id (iterm_net b id) p.sound (can_part d id rest some p);
    insts = p.insts;
    to_come = λ other inside.
        net_beside library d id (iterm_net b id) other (λ e. false≢true (sym last ∙ ap (holds rest) (sym e) ∙ inside))
        ∙ p.to_come other (or_right (eqb id other) (holds rest other) inside);
    done = λ other inside outside. elim (cases_eq id other) [
      | inl e ↦ ap (iterm_net (do_step library (step.Part kind.ITerm id (iterm_net b id)) d)) (sym e) ∙ net_parted library d id (iterm_net b id)
      | inr e ↦ net_beside library d id (iterm_net b id) other (λ same. e (sym same)) ∙ p.done other inside (or_from (eqb id other) (holds rest other) (ne_eqb id other e) outside)
    ];
  }

  -- the instance goes at last
  goes : (d : Block) → is_live b.inst inst ≡ true → IsParting d [] → CanAll tech library cap d (step.Del kind.Inst inst ∷ [])
  goes d live p =
      let terms : inst_terms d inst ≡ inst_terms b inst = ap (λ t. list_in (λ e. e.fields.terminals) (record_at t inst)) p.insts in
      let still : is_live d.inst inst ≡ true = ap (λ t. is_live t inst) p.insts ∙ live in
      ((still, λ k id at. p.done id (held_at (inst_terms b inst) k id (ap (λ ids. slice_get ids k) (sym terms) ∙ at)) refl), refl, tt)

  parts_go : (rest : List ℕ) (d : Block) → is_live b.inst inst ≡ true → IsDistinct rest → IsParting d rest → CanAll tech library cap d (parted_terms b rest ++ step.Del kind.Inst inst ∷ [])
  parts_go [] d live distinct p = goes d live p
  parts_go (id ∷ rest) d live distinct p =
      let net : unwrap_or (net_in kind.ITerm id b) 0 ≡ iterm_net b id = same_net (λ r. r.net) (record_at b.iterm id) in
      let first : parted b kind.ITerm id ≡ parted_from kind.ITerm id (iterm_net b id) = ap (parted_from kind.ITerm id) net in
      let Goes : List Step → Type 0 = λ steps. CanAll tech library cap d ((steps ++ parted_terms b rest) ++ step.Del kind.Inst inst ∷ []) in
      elim (cases_eq (iterm_net b id) 0) [
        | inl e ↦ subst Goes (sym (first ∙ unparted kind.ITerm id (iterm_net b id) e)) (parts_go rest d live distinct.1 (passed d id rest e p))
        | inr e ↦ subst Goes (sym (first ∙ is_parted kind.ITerm id (iterm_net b id) e))
            (can_part d id rest e p, refl, parts_go rest (do_step library (step.Part kind.ITerm id (iterm_net b id)) d) live distinct.1 (next_parted d id rest distinct.0 e p))
      ]

  pub inst_goes : IsSound tech library cap b → is_live b.inst inst ≡ true → CanAll tech library cap b (parted_terms b (inst_terms b inst) ++ step.Del kind.Inst inst ∷ [])
  inst_goes sound live =
      parts_go (inst_terms b inst) b live
      (distinct_by_place (inst_terms b inst) (λ j k id one other. (some_pair_parts inst inst j k (sym ((terms_placed tech library cap b sound inst j id).0 one) ∙ (terms_placed tech library cap b sound inst k id).0 other)).1))
      (begun sound)

-- the table of nets is the same whatever terminal shows another net
nets_stand : (k : Kind) (id net : ℕ) (b : Block) → (with_net k id net b).net ≡ b.net
nets_stand kind.ITerm id net b = refl
nets_stand kind.BTerm id net b = refl
nets_stand other id net b = refl

module _ (tech : Technology) (library : List Master) (cap : ℕ) where
  -- a number in the list of a net stands for a terminal that is joined to it
  record IsMember (d : Block) (net number : ℕ) : Type 0 where
    numbered : term_number (kind_of_number number) (number / 2) ≡ number
    can : CanPart d (kind_of_number number) (number / 2) net

  iterm_of : (d : Block) (net id : ℕ) → IsSound tech library cap d → 1 ≤ net → holds (net_terms d net) (iterm_number id) ≡ true → CanPart d kind.ITerm id net
  iterm_of d net id sound some inside = record {
    joined = shows_net (λ r. r.net) (record_at d.iterm id) net (held_names (net_terms d) iterm_number (iterm_net d) net id some inside (iterms_held tech library cap d sound)) (λ none. omega arith);
    some = some;
  }

  bterm_of : (d : Block) (net id : ℕ) → IsSound tech library cap d → 1 ≤ net → holds (net_terms d net) (bterm_number id) ≡ true → CanPart d kind.BTerm id net
  bterm_of d net id sound some inside = record {
    joined = shows_net (λ e. e.fields.net) (record_at d.bterm id) net (held_names (net_terms d) bterm_number (bterm_net d) net id some inside (bterms_held tech library cap d sound)) (λ none. omega arith);
    some = some;
  }

  member : (d : Block) (net number : ℕ) → IsSound tech library cap d → 1 ≤ net → holds (net_terms d net) number ≡ true → IsMember d net number
  member d net number sound some inside = elim (cases_eq (number % 2) 0) [
    | inl e ↦
        let kind_is : kind_of_number number ≡ kind.ITerm = rw (eq-eqb (number % 2) 0 e) refl in
        let same : iterm_number (number / 2) ≡ number = omega arith in
        record {
          numbered = ap (λ k. term_number k (number / 2)) kind_is ∙ same;
          can = subst (λ k. CanPart d k (number / 2) net) (sym kind_is) (iterm_of d net (number / 2) sound some (ap (holds (net_terms d net)) same ∙ inside));
        }
    | inr e ↦
        let kind_is : kind_of_number number ≡ kind.BTerm = rw (ne_eqb (number % 2) 0 e) refl in
        let same : bterm_number (number / 2) ≡ number = omega arith in
        record {
          numbered = ap (λ k. term_number k (number / 2)) kind_is ∙ same;
          can = subst (λ k. CanPart d k (number / 2) net) (sym kind_is) (bterm_of d net (number / 2) sound some (ap (holds (net_terms d net)) same ∙ inside));
        }
  ]

  -- the list of a net that is there without the terminal in front
  rest_is : (d : Block) (k : Kind) (id net number : ℕ) (rest : List ℕ) → is_live d.net net ≡ true → term_number k id ≡ number → net_terms d net ≡ number ∷ rest → net_terms (do_step library (step.Part k id net) d) net ≡ rest
  rest_is d k id net number rest live numbered terms =
      let r = live_record d.net net live in
      let leave : List ℕ → List ℕ = without (term_number k id) in
      ap (λ t. list_in (λ e. e.terms) (record_at t net)) (nets_stand k id 0 (on_list leave (list.Terms (record { 0 = net })) d))
      ∙ view_at_on (λ o. list_in (λ e. e.terms) o) (λ e. record e { terms = leave e.terms }) net r.value d.net r.is
      ∙ ap (λ o. leave (list_in (λ e. e.terms) o)) (sym r.is)
      ∙ ap leave terms
      ∙ ap (λ n. without n (number ∷ rest)) numbered
      ∙ rw (eqb-refl number) refl

  still_there : (d : Block) (k : Kind) (id net : ℕ) → is_live d.net net ≡ true → is_live (do_step library (step.Part k id net) d).net net ≡ true
  still_there d k id net live =
      let leave : List ℕ → List ℕ = without (term_number k id) in
      ap (λ t. is_live t net) (nets_stand k id 0 (on_list leave (list.Terms (record { 0 = net })) d)) ∙ live_on (λ e. record e { terms = leave e.terms }) net d.net net live

  pub net_goes : (net : ℕ) (numbers : List ℕ) (d : Block) → IsSound tech library cap d → is_live d.net net ≡ true → net_terms d net ≡ numbers → CanAll tech library cap d (parted_members net numbers ++ step.Del kind.Net net ∷ [])
  net_goes net [] d sound live terms = ((live, terms), refl, tt)
  net_goes net (number ∷ rest) d sound live terms =
      let inside : holds (net_terms d net) number ≡ true = ap (λ ids. holds ids number) terms ∙ rw (eqb-refl number) refl in
      let m = member d net number sound (from_one d.net net live) inside in (
        m.can,
        refl,
        net_goes net rest (do_step library (step.Part (kind_of_number number) (number / 2) net) d)
            (sound_part tech library cap d (kind_of_number number) (number / 2) net sound m.can)
            (still_there d (kind_of_number number) (number / 2) net live)
            (rest_is d (kind_of_number number) (number / 2) net number rest live m.numbered terms),
      )

  pub bterm_goes : (d : Block) (id : ℕ) → is_live d.bterm id ≡ true → CanAll tech library cap d (parted d kind.BTerm id ++ step.Del kind.BTerm id ∷ [])
  bterm_goes d id live =
      let net = unwrap_or (net_in kind.BTerm id d) 0 in
      let shown : net_in kind.BTerm id d ≡ Some net = its_net (λ e. e.fields.net) (record_at d.bterm id) live in
      let Goes : List Step → Type 0 = λ steps. CanAll tech library cap d (steps ++ step.Del kind.BTerm id ∷ []) in
      elim (cases_eq net 0) [
        | inl e ↦ subst Goes (sym (unparted kind.BTerm id net e)) (shown ∙ ap Some e, refl, tt)
        | inr e ↦ subst Goes (sym (is_parted kind.BTerm id net e)) (
          record { joined = shown; some = omega (arith, e) },
          refl,
          (ap (option_map (λ e. e.fields.net)) (at_on (λ e. record e { fields = record e.fields { net = 0 } }) id d.bterm) ∙ no_bterm_net (record_at d.bterm id) live, refl, tt),
        )
      ]

  -- a plan of destroy
  pub destroyed : (d : Block) (k : Kind) (id : ℕ) (steps : List Step) → IsSound tech library cap d → live_in k id d ≡ true → plan_destroy d k id ≡ Ok steps → CanAll tech library cap d steps
  destroyed d kind.Inst id steps sound live h = subst (CanAll tech library cap d) (same_ok _ steps h) (inst_goes tech library cap d id sound live)
  destroyed d kind.ITerm id steps sound live h = absurd (err_ok (refusal.BadValue 1) steps h)
  destroyed d kind.Net id steps sound live h = subst (CanAll tech library cap d) (same_ok _ steps h) (net_goes id (net_terms d id) d sound live refl)
  destroyed d kind.BTerm id steps sound live h = subst (CanAll tech library cap d) (same_ok _ steps h) (bterm_goes d id live)
  destroyed d k id steps sound live h = subst (CanAll tech library cap d) (same_ok _ steps h) (live, refl, tt)
