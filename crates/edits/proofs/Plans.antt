-- The plan of each edit asks the questions of the edit in their order. So it refuses with the first refusal that applies,
-- and else it is a list of steps that can be done one after the other, and for which the tables have room.
use Rattle.std.proofs.Common.{◌≡◌, ◌++◌, false, List, [], ◌∷◌, ℕ, suc, ℤ, Option, None, Some, Ok, is_none, length, map, refl, sym, ap, subst, ◌∙◌, arith, ◌-◌, true, Result, Err, IfOk, Vec, not, Bool, cond, IsTrue, pos}
use Rattle.std.specs.Prelude.{Contains, nat_lt, not, unwrap_or}
use Rattle.std.specs.Option.{option_and_then, option_map}
use Rattle.odb_base.specs.Direction.{is_bterm_direction}
use Rattle.odb_base.specs.Geometry.{is_coordinate}
use Rattle.odb_base.specs.Kind.{has_names, has_place, has_usage, is_terminal}
use Rattle.odb_base.specs.declared.codes.direction.Direction.{Direction}
use Rattle.odb_base.specs.declared.codes.kind.Kind.{Kind}
use Rattle.odb_base.specs.declared.codes.kind.Kind.TheVariants as kind
use Rattle.odb_base.specs.declared.codes.orient.Orient.{Orient}
use Rattle.odb_base.specs.declared.codes.place_status.PlaceStatus.{PlaceStatus}
use Rattle.odb_base.specs.declared.codes.row_form.RowForm.TheVariants as form
use Rattle.odb_base.specs.declared.codes.usage.Usage.{Usage}
use Rattle.library.specs.Masters.{find_master, master_at}
use Rattle.library.specs.declared.master.Master.{Master}
use Rattle.tech.specs.Technology.{Technology, find_site}
use Rattle.edit_words.specs.declared.edit.Edit.{Edit}
use Rattle.edit_words.specs.declared.edit.Edit.TheVariants as edit
use Rattle.edit_words.specs.declared.edit.RowSites.{RowSites}
use Rattle.edit_words.specs.declared.edit.RowSites.TheVariants as sites
use Rattle.edit_words.specs.declared.refusal.Refusal.TheVariants as refusal
use Rattle.edit_words.specs.declared.step.Step.{Step}
use Rattle.block_store.specs.Block.{Block, left_in, live_in, next_in}
use Rattle.block_store.specs.Fields.{net_in, special_in}
use Rattle.block_store.specs.Instances.{term_count}
use Rattle.steps_net.specs.Can.{inst_master, Can}
use Rattle.steps_net.specs.Room.{lacking, lacks}
use Rattle.edits.specs.declared.rows.Repeat.{Repeat}
use Rattle.edits.specs.Checks.{◌>>=◌, lawful, nothing_lacks, unheld, live}
use Rattle.edits.specs.Plan.{Planned, differing, fits_status, is_site_count, next_ids, plan, plan_destroy, plan_destroyed, plan_join, plan_make_special, plan_new_bterm, plan_new_inst, plan_new_net, plan_new_row, plan_part, plan_place, plan_rename, plan_set_dir, plan_set_use, plan_swap, repeat_of, same_terms, whole, CanAll, first_differing, new_inst_of, one, row_of, unjoined}
use Rattle.edits.specs.Refusals.{Applies, PlansUnrefused, RefusesFirst, Value, is_destroyed_alone, makes, new_name, site_values, terms_named, values}
use Rattle.edits.proofs.Asking.{Asks, asked, asked_within, asks_joined, asks_lawful, asks_live, asks_room, asks_sought, asks_unheld, asks_unjoined, asks_value, clears, is_special, tests, two_tables}
use Rattle.edits.proofs.EditQuestions.{applies_fails, name_question, questions, questions_in_order, room_question, taken_question, value_question}
use Rattle.edits.proofs.FirstRefusal.{Answers, Question, answer_is, ends, goes_on, none_fails, refusal_leads, refuses}
use Rattle.edits.proofs.Ids.{count_next_ids, next_ids_are_next}
use Rattle.edits.proofs.Questions.{there, alike, enough, faultless, held, joined_net, parted_net, plain_net, tested, unfound}
use Rattle.std.proofs.lemmas.Bool.{false≢true}
use Rattle.slot_pool.specs.Table.{is_live, record_at}
use Rattle.odb_base.specs.Name.{IsName, name_fault}
use Rattle.tech.specs.declared.site.Site.{Site}
use Rattle.named_list.proofs.Ids.{found_are_named, placed}
use Rattle.std.proofs.lemmas.Option.{slice_get_within}
use Rattle.edit_words.specs.Tag.{fresh_bterm}
use Rattle.edit_words.specs.declared.refusal.Refusal.{Refusal}
use Rattle.edit_words.specs.declared.step.Step.TheVariants as step
use Rattle.block_store.specs.Names.{IsFree, find_in}
use Rattle.block_store.specs.Sound.{IsSound}
use Rattle.block_store.specs.Moves.{new_bterm}
use Rattle.block_store.specs.Placements.{IsPlacement}
use Rattle.block_store.proofs.Joined.{shown_by}
use Rattle.block_store.proofs.Naming.{free_names_are_not_found}
use Rattle.slot_pool.proofs.Mapped.{at_taken, live_record}
use Rattle.edits.specs.Planning.{IsPlanned}
use Rattle.edits.proofs.Destroying.{destroyed}
use Rattle.edits.proofs.Placing.{lawful_placement}
use Rattle.edits.proofs.RowPlans.{IsLawfulRepeat, no_step, one_site, passed_coordinate, passed_count}
use Rattle.edits.proofs.Terminals.{same_names}

-- a name that no object of the kind has
is_free : (k : Kind) (b : Block) (name : List ℕ) (u : Unit {0}) → unheld b k name ≡ Ok u → IsFree k name b
is_free k b name u h = (free_names_are_not_found k b name).0 (unfound (find_in k name b) u h)

-- of two tables the first allows its new object
then_next : (short : Bool) (k : Kind) (next : Option Kind) → cond short (Some k) None ≡ None → cond short (Some k) next ≡ next
then_next true k next h = cc
then_next false k next h = refl

module _ (tech : Technology) (library : List Master) (cap : ℕ) (b : Block) where
  -- in a sound block the steps can be done one after the other
  abbrev CanFollow : List Step → Type 0
  CanFollow steps = IsSound tech library cap b → CanAll tech library cap b steps

  -- the answer of a plan is that of the questions of its edit
  abbrev IsAsked : Edit → Planned → Type 0
  IsAsked e planned = Answers (Applies tech library cap b e) CanFollow (questions tech library cap b e) planned

  follow : (e : Edit) (steps : List Step) → CanFollow steps → Answers (Applies tech library cap b e) CanFollow [] (Ok steps)
  follow e steps can = ends (Applies tech library cap b e) CanFollow steps can

  -- a plan of one step
  does : (e : Edit) (s : Step) → (IsSound tech library cap b → Can tech library b s) → lacks s cap b ≡ None → Answers (Applies tech library cap b e) CanFollow [] (one s)
  does e s can room = follow e (s ∷ []) (λ sound. (can sound, room, tt))

  -- a new object of a lawful name that nobody has, where its table has room
  new_named : (e : Edit) (k : Kind) (name : List ℕ) (steps : List Step) → new_name e ≡ Some (record { at = 1; kind = k; name = name }) → Contains (makes library e) (record { kind = k; count = 1 })
      → (IsName name → IsFree k name b → lacking k 1 cap b None ≡ None → CanFollow steps)
      → Answers (Applies tech library cap b e) CanFollow (name_question (record { at = 1; kind = k; name = name }) ∷ taken_question tech library cap b (record { at = 1; kind = k; name = name }) ∷ room_question tech library cap b (record { kind = k; count = 1 }) ∷ [])
      (lawful name 1 >>= (λ good. unheld b k name >>= (λ new. nothing_lacks (lacking k 1 cap b None) >>= (λ room. Ok steps))))
  new_named e k name steps named inside can =
      asked CanFollow (asks_lawful tech library cap b e 1 k name named) _ _ (λ u good.
      asked CanFollow (asks_unheld tech library cap b e 1 k name named) _ _ (λ v new.
      asked CanFollow (asks_room tech library cap b e k 1 1 refl inside) _ _ (λ w room.
      follow e steps (can (faultless (name_fault name) 1 u good) (is_free k b name v new) (enough (lacking k 1 cap b None) w room)))))

  asks_new_net : (name : List ℕ) → IsAsked (edit.NewNet name) (plan_new_net cap b name)
  asks_new_net name =
      new_named (edit.NewNet name) kind.Net name (step.NewNet (next_in kind.Net b) name ∷ []) refl (0, omega arith, refl)
      (λ good free room sound. (record { next = refl; lawful = record { name = good; kept = refl; special_kept = refl; wires = refl; props = refl }; free = free }, room, tt))

  can_new_bterm : (name : List ℕ) → IsName name → IsFree kind.BTerm name b → Can tech library b (step.NewBTerm (next_in kind.BTerm b) name)
  can_new_bterm name good free = record { next = refl; lawful = record { name = good; direction = refl; kept = refl; pins = refl }; free = free }

  asks_new_bterm : (name : List ℕ) (net : Option ℕ) → IsAsked (edit.NewBTerm name net) (plan_new_bterm cap b name net)
  asks_new_bterm name None =
      new_named (edit.NewBTerm name None) kind.BTerm name (step.NewBTerm (next_in kind.BTerm b) name ∷ []) refl (0, omega arith, refl) (λ good free room sound. (can_new_bterm name good free, room, tt))
  asks_new_bterm name (Some net) =
      asked CanFollow (asks_live tech library cap b (edit.NewBTerm name (Some net)) 2 kind.Net net (0, omega arith, refl)) _ _ (λ u net_there.
      new_named (edit.NewBTerm name (Some net)) kind.BTerm name (step.NewBTerm (next_in kind.BTerm b) name ∷ step.Join kind.BTerm (next_in kind.BTerm b) net ∷ []) refl (0, omega arith, refl)
      (λ good free room sound. (
        can_new_bterm name good free,
        room,
        (
          record {
            unjoined = ap (option_map (λ e. e.fields.net)) (at_taken (new_bterm (fresh_bterm name)) b.bterm (sound.kinds kind.BTerm).table.good);
            there = held (is_live b.net net) (refusal.NotLive kind.Net net) u net_there;
          },
          refl,
          tt,
        ),
      )))

  -- the terminals of a new instance are as many as those of its master
  as_many : (master : List ℕ) (id : ℕ) → find_master library master ≡ Some id → length (next_ids 0 (unwrap_or (term_count library id) 0) b.iterm) ≡ terms_named library master
  as_many master id found =
      count_next_ids b.iterm 0 (unwrap_or (term_count library id) 0)
      ∙ ap (λ o. unwrap_or (option_and_then (term_count library) o) 0) (sym found)

  -- an instance of a master of the library can be made
  can_new_inst : (name master : List ℕ) (id : ℕ) → find_master library master ≡ Some id → IsName name → IsFree kind.Inst name b → Can tech library b (new_inst_of library b name id)
  can_new_inst name master id is good free =
      let found = found_are_named (λ (m : Master). m.name) library master id is in
      let count : term_count library id ≡ Some (length found.0.terminals) = ap (option_map (λ m. length m.terminals)) found.1 in
      let many : length (next_ids 0 (unwrap_or (term_count library id) 0) b.iterm) ≡ length found.0.terminals = count_next_ids b.iterm 0 (unwrap_or (term_count library id) 0) ∙ ap (λ o. unwrap_or o 0) count in
      record {
        named = record { next = refl; lawful = good; free = free };
        fitted = count ∙ ap Some (sym many);
        terms = next_ids_are_next b.iterm (unwrap_or (term_count library id) 0);
      }

  asks_new_inst : (name master : List ℕ) → IsAsked (edit.NewInst name master) (plan_new_inst library cap b name master)
  asks_new_inst name master =
      let e = edit.NewInst name master in
      asked CanFollow (asks_lawful tech library cap b e 1 kind.Inst name refl) _ _ (λ u good.
      asked CanFollow (asks_sought tech library cap b e 2 (find_master library master) refl) _ _ (λ id found.
      asked CanFollow (asks_unheld tech library cap b e 1 kind.Inst name refl) _ _ (λ v new.
      let terms = length (next_ids 0 (unwrap_or (term_count library id) 0) b.iterm) in
      let is = there (find_master library master) (refusal.Unknown 2) id found in
      two_tables (Applies tech library cap b e) CanFollow kind.Inst (nat_lt (left_in kind.Inst cap b) 1) (lacking kind.ITerm terms cap b None) _ _
      (asked CanFollow (asks_room tech library cap b e kind.Inst 1 1 refl (0, omega arith, refl)) _ _ (λ w room.
      asked CanFollow (asks_room tech library cap b e kind.ITerm (terms_named library master) terms (as_many master id is) (1, omega arith, refl)) _ _ (λ x more.
      does e (new_inst_of library b name id)
      (λ sound. can_new_inst name master id is (faultless (name_fault name) 1 u good) (is_free kind.Inst b name v new))
      (then_next (nat_lt (left_in kind.Inst cap b) 1) kind.Inst (lacking kind.ITerm terms cap b None) (enough (lacking kind.Inst 1 cap b None) w room) ∙ enough (lacking kind.ITerm terms cap b None) x more)))))))

  -- the values that say how the sites of a row are repeated
  asks_repeat : (e : Edit) (s : RowSites) → ((v : Value) → Contains (site_values s) v → Contains (values e) v) → (qs : List Question) (next : Repeat → Planned) → ((r : Repeat) → IsLawfulRepeat r → Answers (Applies tech library cap b e) CanFollow qs (next r)) → Answers (Applies tech library cap b e) CanFollow (map value_question (site_values s) ++ qs) (repeat_of s >>= next)
  asks_repeat e sites.One inside qs next go =
      go (record { form = form.Bare; nx = 1; ny = 1; sx = pos 0; sy = pos 0 }) (record { nx = one_site; ny = one_site; sx = no_step; sy = no_step; repeated = (refl, refl, refl, refl) })
  asks_repeat e (sites.Counted nx ny) inside qs next go =
      asked_within CanFollow (asks_value tech library cap b e 6 (is_site_count nx) (whole nx) (inside _ (0, omega arith, refl))) _ _ next (λ x along_x.
      asked_within CanFollow (asks_value tech library cap b e 7 (is_site_count ny) (whole ny) (inside _ (1, omega arith, refl))) _ _ next (λ y along_y.
      go (record { form = form.Do; nx = x; ny = y; sx = pos 0; sy = pos 0 })
      (record { nx = passed_count nx 6 x along_x; ny = passed_count ny 7 y along_y; sx = no_step; sy = no_step; repeated = (refl, refl) })))
  asks_repeat e (sites.Stepped nx ny sx sy) inside qs next go =
      asked_within CanFollow (asks_value tech library cap b e 6 (is_site_count nx) (whole nx) (inside _ (0, omega arith, refl))) _ _ next (λ x along_x.
      asked_within CanFollow (asks_value tech library cap b e 7 (is_site_count ny) (whole ny) (inside _ (1, omega arith, refl))) _ _ next (λ y along_y.
      asked_within CanFollow (asks_value tech library cap b e 8 (is_coordinate sx) sx (inside _ (2, omega arith, refl))) _ _ next (λ dx step_x.
      asked_within CanFollow (asks_value tech library cap b e 9 (is_coordinate sy) sy (inside _ (3, omega arith, refl))) _ _ next (λ dy step_y.
      go (record { form = form.DoStep; nx = x; ny = y; sx = dx; sy = dy })
      (record { nx = passed_count nx 6 x along_x; ny = passed_count ny 7 y along_y; sx = passed_coordinate sx 8 dx step_x; sy = passed_coordinate sy 9 dy step_y; repeated = tt })))))

  asks_new_row : (name site : List ℕ) (x y : ℤ) (orientation : Orient) (s : RowSites) → IsAsked (edit.NewRow name site x y orientation s) (plan_new_row tech cap b name site x y orientation s)
  asks_new_row name site x y orientation s =
      let e = edit.NewRow name site x y orientation s in
      asked CanFollow (asks_value tech library cap b e 3 (is_coordinate x) x (0, omega arith, refl)) _ _ (λ at_x along_x.
      asked CanFollow (asks_value tech library cap b e 4 (is_coordinate y) y (1, omega arith, refl)) _ _ (λ at_y along_y.
      asks_repeat e s (λ v inside. (suc (suc inside.0), omega (arith, inside.1), inside.2)) _ _ (λ repeat is.
      asked CanFollow (asks_lawful tech library cap b e 1 kind.Row name refl) _ _ (λ u good.
      asked CanFollow (asks_sought tech library cap b e 2 (find_site tech site) refl) _ _ (λ id sought_site.
      asked CanFollow (asks_unheld tech library cap b e 1 kind.Row name refl) _ _ (λ v new.
      asked CanFollow (asks_room tech library cap b e kind.Row 1 1 refl (0, omega arith, refl)) _ _ (λ w room.
      let found = found_are_named (λ (s : Site). s.name) tech.sites site id (there (find_site tech site) (refusal.Unknown 2) id sought_site) in
      let place = placed tech.sites id found.0 found.1 in
      let within = slice_get_within tech.sites (id - 1) found.0 place.at in
      does e (step.NewRow (next_in kind.Row b) (row_of name id at_x at_y orientation repeat))
      (λ sound. record {
        next = refl;
        lawful = record {
          fields = record {
            name = faultless (name_fault name) 1 u good;
            site_from_one = place.some;
            site = omega (arith, place.some, within);
            x = passed_coordinate x 3 at_x along_x;
            y = passed_coordinate y 4 at_y along_y;
            nx = is.nx;
            ny = is.ny;
            sx = is.sx;
            sy = is.sy;
            repeated = is.repeated;
          };
          props = refl;
        };
        free = is_free kind.Row b name v new;
      })
      (enough (lacking kind.Row 1 cap b None) w room))))))))

  -- only a terminal of an instance can't be destroyed
  asks_kind : (k : Kind) (id : ℕ) → live_in k id b ≡ true → Answers (Applies tech library cap b (edit.Destroy k id)) CanFollow (value_question (record { at = 1; allowed = is_destroyed_alone k }) ∷ []) (plan_destroy b k id)
  asks_kind kind.ITerm id live = refuses _ _ _ _ _ (record { why = refusal.BadValue 1; is = refl; applies = (refl, (0, omega arith, refl)); number = refl })
  asks_kind kind.Inst id live = goes_on _ _ _ _ _ refl (follow (edit.Destroy kind.Inst id) _ (λ sound. destroyed tech library cap b kind.Inst id _ sound live refl))
  asks_kind other id live = goes_on _ _ _ _ _ refl (follow (edit.Destroy other id) _ (λ sound. destroyed tech library cap b other id _ sound live refl))

  asks_destroy : (k : Kind) (id : ℕ) → IsAsked (edit.Destroy k id) (plan_destroyed b k id)
  asks_destroy k id = asked CanFollow (asks_live tech library cap b (edit.Destroy k id) 2 k id (0, omega arith, refl)) _ _ (λ u is_there. asks_kind k id (held (live_in k id b) (refusal.NotLive k id) u is_there))

  asks_rename : (k : Kind) (id : ℕ) (name : List ℕ) → IsAsked (edit.Rename k id name) (plan_rename b k id name)
  asks_rename k id name =
      let e = edit.Rename k id name in
      asked CanFollow (asks_live tech library cap b e 2 k id (0, omega arith, refl)) _ _ (λ u is_there.
      asked CanFollow (asks_value tech library cap b e 1 (has_names k) tt (0, omega arith, refl)) _ _ (λ v named.
      asked CanFollow (asks_lawful tech library cap b e 3 k name refl) _ _ (λ w good.
      asked CanFollow (asks_unheld tech library cap b e 3 k name refl) _ _ (λ x new.
      does e (step.Rename k id name)
      (λ sound. record {
        kind = held (has_names k) (refusal.BadValue 1) v named;
        live = held (live_in k id b) (refusal.NotLive k id) u is_there;
        lawful = faultless (name_fault name) 3 w good;
        free = is_free k b name x new;
      })
      refl))))

  -- the masters differ in no terminal
  asks_same : (inst : ℕ) (master : List ℕ) (id : ℕ) → find_master library master ≡ Some id → Asks (Applies tech library cap b (edit.Swap inst master)) (record { number = 9; place = 0; holds = is_none (option_and_then (λ id. differing (inst_master library b inst) (master_at library id)) (find_master library master)) }) (same_terms (differing (inst_master library b inst) (master_at library id)))
  asks_same inst master id found =
      let differs : ℕ → Option (List ℕ) = λ id. differing (inst_master library b inst) (master_at library id) in
      let A = Applies tech library cap b (edit.Swap inst master) in
      let first : option_and_then differs (find_master library master) ≡ differs id = ap (option_and_then differs) found in
      subst (λ o. Asks A (record { number = 9; place = 0; holds = is_none o }) (same_terms (differs id))) (sym first)
      (clears A 9 0 (differs id) same_terms (λ name. refusal.TermsDiffer name) refl (λ name. refl) (λ name. refl) (λ name is. (refl, first ∙ is)))

  -- an instance that is there can get a master from which its own doesn't differ
  can_swap : (inst : ℕ) (master : List ℕ) (id : ℕ) → IsSound tech library cap b → IsTrue (is_live b.inst inst) → find_master library master ≡ Some id → differing (inst_master library b inst) (master_at library id) ≡ None → Can tech library b (step.Swap inst id)
  can_swap inst master id sound live is none =
      let e = live_record b.inst inst live in
      let old = shown_by (λ (m : Master). length m.terminals) (master_at library e.value.fields.master) (length e.value.fields.terminals) ((sound.kinds kind.Inst).each inst e.value e.is).fitted in
      let new = found_are_named (λ (m : Master). m.name) library master id is in
      let is_old : inst_master library b inst ≡ Some old.value = ap (option_and_then (λ e. master_at library e.fields.master)) e.is ∙ old.is in
      let alike_are : first_differing old.value new.0 ≡ None = sym (ap (λ o. differing o (master_at library id)) is_old ∙ ap (differing (Some old.value)) new.1) ∙ none in
      record { old = old.value; new = new.0; is_old = is_old; is_new = new.1; same = same_names old.value new.0 alike_are }

  asks_swap : (inst : ℕ) (master : List ℕ) → IsAsked (edit.Swap inst master) (plan_swap library b inst master)
  asks_swap inst master =
      let e = edit.Swap inst master in
      asked CanFollow (asks_live tech library cap b e 1 kind.Inst inst (0, omega arith, refl)) _ _ (λ u is_there.
      asked CanFollow (asks_sought tech library cap b e 2 (find_master library master) refl) _ _ (λ id found.
      let is = there (find_master library master) (refusal.Unknown 2) id found in
      asked CanFollow (asks_same inst master id is) _ _ (λ v same.
      does e (step.Swap inst id) (λ sound. can_swap inst master id sound (held (is_live b.inst inst) (refusal.NotLive kind.Inst inst) u is_there) is (alike (differing (inst_master library b inst) (master_at library id)) v same)) refl)))

  asks_place : (k : Kind) (id : ℕ) (state : PlaceStatus) (x y : ℤ) (orientation : Orient) → IsAsked (edit.Place k id state x y orientation) (plan_place b k id state x y orientation)
  asks_place k id state x y orientation =
      let e = edit.Place k id state x y orientation in
      asked CanFollow (asks_live tech library cap b e 2 k id (0, omega arith, refl)) _ _ (λ u is_there.
      asked CanFollow (asks_value tech library cap b e 1 (has_place k) tt (0, omega arith, refl)) _ _ (λ v has.
      asked CanFollow (asks_value tech library cap b e 3 (fits_status state x y orientation) tt (1, omega arith, refl)) _ _ (λ w fits.
      asked CanFollow (asks_value tech library cap b e 4 (is_coordinate x) x (2, omega arith, refl)) _ _ (λ at_x along_x.
      asked CanFollow (asks_value tech library cap b e 5 (is_coordinate y) y (3, omega arith, refl)) _ _ (λ at_y along_y.
      let x_is = tested (is_coordinate x) x at_x (refusal.BadValue 4) along_x in
      let y_is = tested (is_coordinate y) y at_y (refusal.BadValue 5) along_y in
      does e (step.Place k id (record { status = state; x = at_x; y = at_y; orientation = orientation }))
      (λ sound. record {
        kind = held (has_place k) (refusal.BadValue 1) v has;
        live = held (live_in k id b) (refusal.NotLive k id) u is_there;
        lawful = subst (λ n. IsPlacement (record { status = state; x = at_x; y = n; orientation = orientation })) y_is.1
            (subst (λ n. IsPlacement (record { status = state; x = n; y = y; orientation = orientation })) x_is.1
            (lawful_placement state x y orientation x_is.0 y_is.0 (held (fits_status state x y orientation) (refusal.BadValue 3) w fits)));
      })
      refl)))))

  asks_set_use : (k : Kind) (id : ℕ) (usage : Usage) → IsAsked (edit.SetUse k id usage) (plan_set_use b k id usage)
  asks_set_use k id usage =
      let e = edit.SetUse k id usage in
      asked CanFollow (asks_live tech library cap b e 2 k id (0, omega arith, refl)) _ _ (λ u is_there.
      asked CanFollow (asks_value tech library cap b e 1 (has_usage k) tt (0, omega arith, refl)) _ _ (λ v has.
      does e (step.SetUse k id usage)
      (λ sound. record { kind = held (has_usage k) (refusal.BadValue 1) v has; live = held (live_in k id b) (refusal.NotLive k id) u is_there }) refl))

  asks_set_dir : (bterm : ℕ) (way : Direction) → IsAsked (edit.SetDir bterm way) (plan_set_dir b bterm way)
  asks_set_dir bterm way =
      let e = edit.SetDir bterm way in
      asked CanFollow (asks_live tech library cap b e 1 kind.BTerm bterm (0, omega arith, refl)) _ _ (λ u is_there.
      asked CanFollow (asks_value tech library cap b e 2 (is_bterm_direction way) tt (0, omega arith, refl)) _ _ (λ v fits.
      does e (step.SetDir bterm way)
      (λ sound. (held (is_live b.bterm bterm) (refusal.NotLive kind.BTerm bterm) u is_there, held (is_bterm_direction way) (refusal.BadValue 2) v fits)) refl))

  asks_make_special : (net : ℕ) → IsAsked (edit.MakeSpecial net) (plan_make_special b net)
  asks_make_special net =
      let e = edit.MakeSpecial net in
      asked CanFollow (asks_live tech library cap b e 1 kind.Net net (0, omega arith, refl)) _ _ (λ u is_there.
      asked CanFollow (tests (Applies tech library cap b e) 13 0 (not (unwrap_or (special_in net b) false)) tt refusal.Special refl (λ no. (refl, is_special (special_in net b) no))) _ _ (λ v plain.
      does e (step.MakeSpecial net)
      (λ sound. plain_net (λ e. e.fields.special) (record_at b.net net)
      (held (is_live b.net net) (refusal.NotLive kind.Net net) u is_there) (held (not (unwrap_or (special_in net b) false)) refusal.Special v plain)) refl))

  -- a terminal that is there and is joined to nothing
  is_unjoined : (k : Kind) (id : ℕ) (u : Unit {0}) → live_in k id b ≡ true → is_terminal k ≡ true → unjoined (net_in k id b) ≡ Ok u → net_in k id b ≡ Some 0
  is_unjoined kind.ITerm id u live terminal h = parted_net (λ r. r.net) (record_at b.iterm id) u live h
  is_unjoined kind.BTerm id u live terminal h = parted_net (λ e. e.fields.net) (record_at b.bterm id) u live h
  is_unjoined other id u live terminal h = absurd (false≢true terminal)

  asks_join : (k : Kind) (id net : ℕ) → IsAsked (edit.Join k id net) (plan_join b k id net)
  asks_join k id net =
      let e = edit.Join k id net in
      asked CanFollow (asks_live tech library cap b e 2 k id (0, omega arith, refl)) _ _ (λ u is_there.
      asked CanFollow (asks_live tech library cap b e 3 kind.Net net (1, omega arith, refl)) _ _ (λ v net_there.
      asked CanFollow (asks_value tech library cap b e 1 (is_terminal k) tt (0, omega arith, refl)) _ _ (λ w terminal.
      asked CanFollow (asks_unjoined (Applies tech library cap b e) (net_in k id b) (λ other is some. (refl, (is, some)))) _ _ (λ x free.
      does e (step.Join k id net)
      (λ sound. record {
        unjoined = is_unjoined k id x (held (live_in k id b) (refusal.NotLive k id) u is_there) (held (is_terminal k) (refusal.BadValue 1) w terminal) free;
        there = held (is_live b.net net) (refusal.NotLive kind.Net net) v net_there;
      })
      refl))))

  asks_part : (k : Kind) (id : ℕ) → IsAsked (edit.Part k id) (plan_part b k id)
  asks_part k id =
      let e = edit.Part k id in
      asked CanFollow (asks_live tech library cap b e 2 k id (0, omega arith, refl)) _ _ (λ u is_there.
      asked CanFollow (asks_value tech library cap b e 1 (is_terminal k) tt (0, omega arith, refl)) _ _ (λ v terminal.
      asked CanFollow (asks_joined (Applies tech library cap b e) (net_in k id b) (λ none. (refl, none))) _ _ (λ net found.
      let is = joined_net (net_in k id b) net found in
      does e (step.Part k id net) (λ sound. record { joined = is.0; some = is.1 }) refl)))

  -- the plan of an edit asks its questions, one after the other
  asks_all : (e : Edit) → IsAsked e (plan tech library cap b e)
  unfolding plan
  asks_all (edit.NewInst name master) = asks_new_inst name master
  asks_all (edit.NewNet name) = asks_new_net name
  asks_all (edit.NewBTerm name net) = asks_new_bterm name net
  asks_all (edit.NewRow name site x y orientation s) = asks_new_row name site x y orientation s
  asks_all (edit.Destroy k id) = asks_destroy k id
  asks_all (edit.Rename k id name) = asks_rename k id name
  asks_all (edit.Swap inst master) = asks_swap inst master
  asks_all (edit.Place k id state x y orientation) = asks_place k id state x y orientation
  asks_all (edit.SetUse k id usage) = asks_set_use k id usage
  asks_all (edit.SetDir bterm way) = asks_set_dir bterm way
  asks_all (edit.MakeSpecial net) = asks_make_special net
  asks_all (edit.Join k id net) = asks_join k id net
  asks_all (edit.Part k id) = asks_part k id

  -- the refusal of a plan applies, and no other comes earlier
  pub refuses_first : (e : Edit) → RefusesFirst tech library cap b e
  refuses_first e why h =
      let first = refusal_leads (Applies tech library cap b e) CanFollow (questions tech library cap b e) (plan tech library cap b e) why (asks_all e) (questions_in_order tech library cap b e) h in
      record {
        at = first.at;
        applies = first.applies;
        least = λ other place applies. first.least _ place (applies_fails tech library cap b e other place applies);
      }

  -- where there are steps, none applies
  pub plans_unrefused : (e : Edit) → PlansUnrefused tech library cap b e
  plans_unrefused e steps h why at applies =
      none_fails (Applies tech library cap b e) CanFollow (questions tech library cap b e) (plan tech library cap b e) steps (asks_all e) h _ at (applies_fails tech library cap b e why at applies)

  -- and then they can be done, one after the other
  pub planned_can : (e : Edit) (steps : List Step) → plan tech library cap b e ≡ Ok steps → CanFollow steps
  planned_can e steps h = answer_is (Applies tech library cap b e) CanFollow (questions tech library cap b e) (plan tech library cap b e) steps (asks_all e) h

-- what is answered in place of the plan
pub answered_can : (tech : Technology) (library : List Master) (cap : ℕ) (b : Block) (e : Edit) → {Z : Type 0} (r : Result (Vec Step Z) Refusal) → IsSound tech library cap b → IsPlanned (plan tech library cap b e) r → IfOk r (λ steps. CanAll tech library cap b steps.items)
answered_can tech library cap b e (Ok steps) sound h = planned_can tech library cap b e steps.items h sound
answered_can tech library cap b e (Err why) sound h = tt
