-- The questions that are asked of an edit, in the order of their refusals. Each refusal that applies is that of one that
-- fails.
use Rattle.std.proofs.Common.{◌≡◌, ◌<◌, ◌++◌, true, false, List, [], ◌∷◌, ℕ, zero, suc, Option, None, Some, is_none, is_some, length, map, not, refl, sym, ap, ◌∙◌, inl, inr, arith}
use Rattle.std.specs.Prelude.{◌==◌, Contains, MatchOption, nat_lt, slice_index_or, unwrap_or}
use Rattle.std.specs.Option.{option_and_then}
use Rattle.std.proofs.lemmas.Bool.{eq-eqb, lt-ltb, ne_eqb, not_from_true}
use Rattle.odb_base.specs.Kind.{kind_code}
use Rattle.odb_base.specs.Name.{IsName, name_fault}
use Rattle.library.specs.Masters.{find_master, master_at}
use Rattle.library.specs.declared.master.Master.{Master}
use Rattle.tech.specs.Technology.{Technology}
use Rattle.edit_words.specs.declared.edit.Edit.{Edit}
use Rattle.edit_words.specs.declared.edit.Edit.TheVariants as edit
use Rattle.edit_words.specs.declared.edit.RowSites.TheVariants as sites
use Rattle.edit_words.specs.declared.refusal.Refusal.{Refusal}
use Rattle.edit_words.specs.declared.refusal.Refusal.TheVariants as refusal
use Rattle.block_store.specs.Block.{Block, left_in, live_in}
use Rattle.block_store.specs.Fields.{net_in, special_in}
use Rattle.block_store.specs.Names.{find_in, name_in}
use Rattle.block_store.proofs.Naming.{free_names_are_not_found}
use Rattle.steps_net.specs.Can.{inst_master}
use Rattle.edits.specs.Plan.{differing}
use Rattle.edits.specs.Refusals.{Applies, JoinsJoined, Made, MakesSpecialAgain, Named, NewName, PartsUnjoined, Sought, SwapsDiffering, Value, makes, new_name, objects, refusal_number, sought, values}
use Rattle.edits.proofs.FirstRefusal.{Fails, Question, in_order}

-- a value is in its set and its limit
abbrev pub value_question : Value → Question
value_question value = record { number = 3; place = value.at; holds = value.allowed }

-- a name is lawful
abbrev pub name_question : NewName → Question
name_question new = record { number = 4; place = new.at; holds = is_none (name_fault new.name) }

-- what is sought is there
abbrev pub sought_question : Sought → Question
sought_question s = record { number = 5; place = s.at; holds = is_some s.found }

abbrev pub of_option : {X : Type 0} → (X → Question) → Option X → List Question
of_option ask None = []
of_option ask (Some x) = ask x ∷ []

module _ (tech : Technology) (library : List Master) (cap : ℕ) (b : Block) where
  -- an object is there
  abbrev pub live_question : Named → Question
  live_question named = record { number = 2; place = named.at; holds = live_in named.kind named.id b }

  -- nobody has a name
  abbrev pub taken_question : NewName → Question
  taken_question new = record { number = 6; place = 0; holds = is_none (find_in new.kind new.name b) }

  -- what only one edit asks
  abbrev pub own_questions : Edit → List Question
  own_questions (edit.Join k id net) = record { number = 7; place = 0; holds = unwrap_or (net_in k id b) 0 == 0 } ∷ []
  own_questions (edit.Part k id) = record { number = 8; place = 0; holds = not (unwrap_or (net_in k id b) 0 == 0) } ∷ []
  own_questions (edit.Swap inst master) = record {
    number = 9;
    place = 0;
    holds = is_none (option_and_then (λ id. differing (inst_master library b inst) (master_at library id)) (find_master library master));
  } ∷ []
  own_questions (edit.MakeSpecial net) = record { number = 13; place = 0; holds = not (unwrap_or (special_in net b) false) } ∷ []
  own_questions other = []

  -- a table allows the new objects
  abbrev pub room_question : Made → Question
  room_question made = record { number = 15; place = kind_code made.kind; holds = not (nat_lt (left_in made.kind cap b) made.count) }

  abbrev from_own : Edit → List Question
  from_own e = own_questions e ++ map room_question (makes library e)

  abbrev from_taken : Edit → List Question
  from_taken e = of_option taken_question (new_name e) ++ from_own e

  abbrev from_sought : Edit → List Question
  from_sought e = of_option sought_question (sought tech library e) ++ from_taken e

  abbrev from_names : Edit → List Question
  from_names e = of_option name_question (new_name e) ++ from_sought e

  abbrev from_values : Edit → List Question
  from_values e = map value_question (values e) ++ from_names e

  -- all questions of an edit
  abbrev pub questions : Edit → List Question
  questions e = map live_question (objects e) ++ from_values e

-- a question that fails in front of others, and behind them
in_front : (n p : ℕ) (front back : List Question) → Fails n p front → Fails n p (front ++ back)
in_front n p [] back h = absurd h
in_front n p (q ∷ qs) back (inl here) = inl here
in_front n p (q ∷ qs) back (inr there) = inr (in_front n p qs back there)

at_back : (n p : ℕ) (front back : List Question) → Fails n p back → Fails n p (front ++ back)
at_back n p [] back h = h
at_back n p (q ∷ qs) back h = inr (at_back n p qs back h)

module _ {X : Type 0} (ask : X → Question) (n p : ℕ) (x : X) (number : (ask x).number ≡ n) (place : (ask x).place ≡ p) (fails : (ask x).holds ≡ false) where
  about_at : (xs : List X) (k : ℕ) → k < length xs → slice_index_or xs k x ≡ x → Fails n p (map ask xs)
  about_at [] k within at = absurd (omega arith)
  about_at (y ∷ ys) zero within at =
      let same : y ≡ x = at in
      inl (ap (λ z. (ask z).number) same ∙ number, ap (λ z. (ask z).place) same ∙ place, ap (λ z. (ask z).holds) same ∙ fails)
  about_at (y ∷ ys) (suc k) within at = inr (about_at ys k (omega arith) at)

  -- the question about a member of a list fails
  about_member : (xs : List X) → Contains xs x → Fails n p (map ask xs)
  about_member xs inside = about_at xs inside.0 inside.1 inside.2

some_is : {A : Type 0} (o : Option A) → ¬ (o ≡ None) → is_none o ≡ false
some_is None h = absurd (h refl)
some_is (Some x) h = refl

name_fails : (word : ℕ) (o : Option NewName) → MatchOption o ⊥ (λ new. (word ≡ new.at) × ¬ (IsName new.name)) → Fails 4 word (of_option name_question o)
name_fails word None h = absurd h
name_fails word (Some new) h = inl (refl, sym h.0, some_is (name_fault new.name) h.1)

sought_fails : (word : ℕ) (o : Option Sought) → MatchOption o ⊥ (λ s. (word ≡ s.at) × (s.found ≡ None)) → Fails 5 word (of_option sought_question o)
sought_fails word None h = absurd h
sought_fails word (Some s) h = inl (refl, sym h.0, ap is_some h.1)

module _ (tech : Technology) (library : List Master) (cap : ℕ) (b : Block) where
  taken_fails : (id : ℕ) (o : Option NewName) → MatchOption o ⊥ (λ new. name_in new.kind id b ≡ Some new.name) → Fails 6 0 (of_option (taken_question tech library cap b) o)
  taken_fails id None h = absurd h
  taken_fails id (Some new) h = inl (refl, refl, some_is (find_in new.kind new.name b) (λ none. (free_names_are_not_found new.kind b new.name).0 none id h))

  joined_fails : (e : Edit) (net : ℕ) → JoinsJoined b e net → Fails 7 0 (own_questions tech library cap b e)
  joined_fails (edit.Join k id net) other h = inl (refl, refl, ap (λ o. unwrap_or o 0 == 0) h.0 ∙ ne_eqb other 0 h.1)
  joined_fails e other h = absurd h

  unjoined_fails : (e : Edit) → PartsUnjoined b e → Fails 8 0 (own_questions tech library cap b e)
  unjoined_fails (edit.Part k id) h = inl (refl, refl, not_from_true (unwrap_or (net_in k id b) 0 == 0) (eq-eqb (unwrap_or (net_in k id b) 0) 0 h))
  unjoined_fails e h = absurd h

  differing_fails : (e : Edit) (name : List ℕ) → SwapsDiffering library b e name → Fails 9 0 (own_questions tech library cap b e)
  differing_fails (edit.Swap inst master) name h = inl (refl, refl, ap is_none h)
  differing_fails e name h = absurd h

  special_fails : (e : Edit) → MakesSpecialAgain b e → Fails 13 0 (own_questions tech library cap b e)
  special_fails (edit.MakeSpecial net) h = inl (refl, refl, ap (λ o. not (unwrap_or o false)) h)
  special_fails e h = absurd h

  module _ (e : Edit) (n p : ℕ) where
    past_objects : Fails n p (from_values tech library cap b e) → Fails n p (questions tech library cap b e)
    past_objects = at_back n p (map (live_question tech library cap b) (objects e)) (from_values tech library cap b e)

    past_values : Fails n p (from_names tech library cap b e) → Fails n p (questions tech library cap b e)
    past_values h = past_objects (at_back n p (map value_question (values e)) (from_names tech library cap b e) h)

    past_names : Fails n p (from_sought tech library cap b e) → Fails n p (questions tech library cap b e)
    past_names h = past_values (at_back n p (of_option name_question (new_name e)) (from_sought tech library cap b e) h)

    past_sought : Fails n p (from_taken tech library cap b e) → Fails n p (questions tech library cap b e)
    past_sought h = past_names (at_back n p (of_option sought_question (sought tech library e)) (from_taken tech library cap b e) h)

    past_taken : Fails n p (from_own tech library cap b e) → Fails n p (questions tech library cap b e)
    past_taken h = past_sought (at_back n p (of_option (taken_question tech library cap b) (new_name e)) (from_own tech library cap b e) h)

    own_one : Fails n p (own_questions tech library cap b e) → Fails n p (questions tech library cap b e)
    own_one h = past_taken (in_front n p (own_questions tech library cap b e) (map (room_question tech library cap b) (makes library e)) h)

  -- a refusal that applies is that of a question that fails
  pub applies_fails : (e : Edit) (why : Refusal) (at : ℕ) → Applies tech library cap b e why at → Fails (refusal_number why) at (questions tech library cap b e)
  applies_fails e (refusal.NotLive k id) at h =
      in_front 2 at (map (live_question tech library cap b) (objects e)) (from_values tech library cap b e)
      (about_member (live_question tech library cap b) 2 at (record { at = at; kind = k; id = id }) refl refl h.1 (objects e) h.0)
  applies_fails e (refusal.BadValue word) at h =
      past_objects e 3 at
      (in_front 3 at (map value_question (values e)) (from_names tech library cap b e)
      (about_member value_question 3 at (record { at = word; allowed = false }) refl (sym h.0) refl (values e) h.1))
  applies_fails e (refusal.BadName word) at h =
      rw h.0 (past_values e 4 word (in_front 4 word (of_option name_question (new_name e)) (from_sought tech library cap b e) (name_fails word (new_name e) h.1)))
  applies_fails e (refusal.Unknown word) at h =
      rw h.0 (past_names e 5 word (in_front 5 word (of_option sought_question (sought tech library e)) (from_taken tech library cap b e) (sought_fails word (sought tech library e) h.1)))
  applies_fails e (refusal.NameTaken id) at h =
      rw h.0 (past_sought e 6 0 (in_front 6 0 (of_option (taken_question tech library cap b) (new_name e)) (from_own tech library cap b e) (taken_fails id (new_name e) h.1)))
  applies_fails e (refusal.Joined net) at h = rw h.0 (own_one e 7 0 (joined_fails e net h.1))
  applies_fails e refusal.NotJoined at h = rw h.0 (own_one e 8 0 (unjoined_fails e h.1))
  applies_fails e (refusal.TermsDiffer name) at h = rw h.0 (own_one e 9 0 (differing_fails e name h.1))
  applies_fails e refusal.Special at h = rw h.0 (own_one e 13 0 (special_fails e h.1))
  applies_fails e (refusal.TableFull k) at h =
      past_taken e 15 at
      (at_back 15 at (own_questions tech library cap b e) (map (room_question tech library cap b) (makes library e))
      (about_member (room_question tech library cap b) 15 at (record { kind = k; count = h.1.0 }) refl (sym h.0) (not_from_true (nat_lt (left_in k cap b) h.1.0) (lt-ltb (left_in k cap b) h.1.0 h.1.2)) (makes library e) h.1.1))
  applies_fails e refusal.Memory at h = absurd h

  -- the questions stand in the order of their numbers, and of their places within a number
  pub questions_in_order : (e : Edit) → in_order (questions tech library cap b e) ≡ true
  questions_in_order (edit.NewBTerm name None) = refl
  questions_in_order (edit.NewBTerm name (Some net)) = refl
  questions_in_order (edit.NewRow name site x y orientation sites.One) = refl
  questions_in_order (edit.NewRow name site x y orientation (sites.Counted nx ny)) = refl
  questions_in_order (edit.NewRow name site x y orientation (sites.Stepped nx ny sx sy)) = refl
  questions_in_order other = refl
