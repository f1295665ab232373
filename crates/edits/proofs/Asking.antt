-- What the questions of a plan say, shape by shape: each goes on where it holds, and else it refuses with what applies.
use Rattle.std.proofs.Common.{◌≡◌, ◌≢◌, Bool, true, false, List, ◌∷◌, ℕ, Option, None, Some, Result, Ok, Err, cond, eqb, is_none, is_some, not, refl, sym, ap, subst, ◌∙◌, ◌⊎◌, inl, inr}
use Rattle.std.specs.Prelude.{◌==◌, Contains, MatchOption, nat_lt, unwrap_or}
use Rattle.std.proofs.lemmas.Bool.{eqb-false, eqb-true, false≢true, ltb-true, not-false}
use Rattle.odb_base.specs.Kind.{kind_code}
use Rattle.odb_base.specs.Name.{IsName, name_fault}
use Rattle.odb_base.specs.declared.codes.kind.Kind.{Kind}
use Rattle.odb_base.specs.declared.name.NameFault.{NameFault}
use Rattle.library.specs.declared.master.Master.{Master}
use Rattle.tech.specs.Technology.{Technology}
use Rattle.edit_words.specs.declared.edit.Edit.{Edit}
use Rattle.edit_words.specs.declared.refusal.Refusal.{Refusal}
use Rattle.edit_words.specs.declared.refusal.Refusal.TheVariants as refusal
use Rattle.block_store.specs.Block.{Block, left_in, live_in}
use Rattle.block_store.specs.Names.{find_in, name_in}
use Rattle.block_store.proofs.Joined.{none_is}
use Rattle.block_store.proofs.Naming.{found_have_the_name}
use Rattle.steps_net.specs.Room.{lacking}
use Rattle.edits.specs.Checks.{◌>>=◌, lawful, live, no_fault, nobody, nothing_lacks, some_or, unheld}
use Rattle.edits.specs.Plan.{joined, unjoined}
use Rattle.edits.specs.Refusals.{Applies, makes, new_name, objects, refusal_number, sought, values}
use Rattle.edits.proofs.EditQuestions.{live_question, name_question, room_question, sought_question, taken_question, value_question}
use Rattle.edits.proofs.FirstRefusal.{Answers, IsRefused, Question, goes_on, refuses}

module _ (A : Refusal → ℕ → Type 0) where
  -- what is asked holds and goes on, or it is refused with what applies
  pub record Asks {X : Type 0} (q : Question) (asked : Result X Refusal) : Type 0 where
    pub either : ((x : X) × (asked ≡ Ok x) × (q.holds ≡ true)) ⊎ IsRefused A q asked

  on : {X : Type 0} (q : Question) (x : X) → q.holds ≡ true → Asks q (Ok x)
  on q x holds = record { either = inl (x, refl, holds) }

  refused : {X : Type 0} (q : Question) (why : Refusal) → refusal_number why ≡ q.number → A why q.place → Asks {X = X} q (Err why)
  refused q why number applies = record { either = inr (record { why = why; is = refl; applies = applies; number = number }) }

  pub tests : {X : Type 0} (n p : ℕ) (t : Bool) (x : X) (why : Refusal) → refusal_number why ≡ n → (t ≡ false → A why p) → Asks (record { number = n; place = p; holds = t }) (cond t (Ok x) (Err why))
  tests n p true x why number fact = on _ x refl
  tests n p false x why number fact = refused _ why number (fact refl)

  pub seeks : {X : Type 0} (n p : ℕ) (o : Option X) (why : Refusal) → refusal_number why ≡ n → (o ≡ None → A why p) → Asks (record { number = n; place = p; holds = is_some o }) (some_or o why)
  seeks n p None why number fact = refused _ why number (fact refl)
  seeks n p (Some x) why number fact = on _ x refl

  -- it goes on where there is nothing
  pub clears : {Y : Type 0} (n p : ℕ) (o : Option Y) (asked : Option Y → Result (Unit {0}) Refusal) (why : Y → Refusal) → asked None ≡ Ok tt → ((y : Y) → asked (Some y) ≡ Err (why y)) → ((y : Y) → refusal_number (why y) ≡ n) → ((y : Y) → o ≡ Some y → A (why y) p) → Asks (record { number = n; place = p; holds = is_none o }) (asked o)
  clears n p None asked why none some number fact = record { either = inl (tt, none, refl) }
  clears n p (Some y) asked why none some number fact = record { either = inr (record { why = why y; is = some y; applies = fact y refl; number = number y }) }

  pub asks_unjoined : (o : Option ℕ) → ((net : ℕ) → o ≡ Some net → net ≢ 0 → A (refusal.Joined net) 0) → Asks (record { number = 7; place = 0; holds = unwrap_or o 0 == 0 }) (unjoined o)
  asks_unjoined None fact = on _ tt refl
  asks_unjoined (Some net) fact = tests 7 0 (net == 0) tt (refusal.Joined net) refl (λ no. fact net refl (eqb-false net 0 no))

  joined_to : (net : ℕ) (t : Bool) → eqb net 0 ≡ t → (net ≡ 0 → A refusal.NotJoined 0) → Asks (record { number = 8; place = 0; holds = not t }) (cond t (Err refusal.NotJoined) (Ok net))
  joined_to net true e fact = refused _ refusal.NotJoined refl (fact (eqb-true net 0 e))
  joined_to net false e fact = on _ net refl

  pub asks_joined : (o : Option ℕ) → (unwrap_or o 0 ≡ 0 → A refusal.NotJoined 0) → Asks (record { number = 8; place = 0; holds = not (unwrap_or o 0 == 0) }) (joined o)
  asks_joined None fact = refused _ refusal.NotJoined refl (fact refl)
  asks_joined (Some net) fact = joined_to net (eqb net 0) refl fact

  pub asks_table : (k : Kind) (p : ℕ) (short : Bool) → (short ≡ true → A (refusal.TableFull k) p) → Asks (record { number = 15; place = p; holds = not short }) (nothing_lacks (cond short (Some k) None))
  asks_table k p true fact = refused _ (refusal.TableFull k) refl (fact refl)
  asks_table k p false fact = on _ tt refl

module _ {A : Refusal → ℕ → Type 0} {X B : Type 0} (Is : B → Type 0) where
  asked_by : (q : Question) (r : Result X Refusal) (qs : List Question) (next : X → Result B Refusal) → ((x : X) × (r ≡ Ok x) × (q.holds ≡ true)) ⊎ IsRefused A q r → ((x : X) → r ≡ Ok x → Answers A Is qs (next x)) → Answers A Is (q ∷ qs) (r >>= next)
  asked_by q r qs next (inl on) go = goes_on A Is q qs (r >>= next) on.2 (subst (λ s. Answers A Is qs (s >>= next)) (sym on.1) (go on.0 on.1))
  asked_by q r qs next (inr refused) go = refuses A Is q qs (r >>= next) (record {
    why = refused.why;
    is = ap (λ s. s >>= next) refused.is;
    applies = refused.applies;
    number = refused.number;
  })

  -- a question, and those that follow where it goes on
  pub asked : {q : Question} {r : Result X Refusal} → Asks A q r → (qs : List Question) (next : X → Result B Refusal) → ((x : X) → r ≡ Ok x → Answers A Is qs (next x)) → Answers A Is (q ∷ qs) (r >>= next)
  asked {q = q} {r = r} asks qs next go = asked_by q r qs next asks.either go

module _ {X Y B : Type 0} where
  regrouped : (r : Result X Refusal) (inner : X → Result Y Refusal) (next : Y → Result B Refusal) → (r >>= (λ x. inner x >>= next)) ≡ ((r >>= inner) >>= next)
  regrouped (Ok x) inner next = refl
  regrouped (Err why) inner next = refl

  -- the first question of several within one
  pub asked_within : {A : Refusal → ℕ → Type 0} (Is : B → Type 0) {q : Question} {r : Result X Refusal} → Asks A q r → (inner : X → Result Y Refusal) (qs : List Question) (next : Y → Result B Refusal) → ((x : X) → r ≡ Ok x → Answers A Is qs (inner x >>= next)) → Answers A Is (q ∷ qs) ((r >>= inner) >>= next)
  asked_within {A = A} Is {q = q} {r = r} asks inner qs next go =
      subst (Answers A Is (q ∷ qs)) (regrouped r inner next) (asked Is asks qs (λ x. inner x >>= next) go)

-- two tables that are asked for room at once
pub two_tables : (A : Refusal → ℕ → Type 0) {B : Type 0} (Is : B → Type 0) (k : Kind) (short : Bool) (rest : Option Kind) (qs : List Question) (next : Unit {0} → Result B Refusal) → Answers A Is qs (nothing_lacks (cond short (Some k) None) >>= (λ u. nothing_lacks rest >>= next)) → Answers A Is qs (nothing_lacks (cond short (Some k) rest) >>= next)
two_tables A Is k true rest qs next h = h
two_tables A Is k false rest qs next h = h

not_name : (fault : Option NameFault) (f : NameFault) → fault ≡ Some f → ¬ (fault ≡ None)
not_name fault f is none = none_is f (sym none ∙ is)

pub is_special : (o : Option Bool) → not (unwrap_or o false) ≡ false → o ≡ Some true
is_special None h = absurd (false≢true (sym h))
is_special (Some x) h = ap Some (not-false x h)

module _ (tech : Technology) (library : List Master) (cap : ℕ) (b : Block) (e : Edit) where
  pub asks_live : (at : ℕ) (k : Kind) (id : ℕ) → Contains (objects e) (record { at = at; kind = k; id = id }) → Asks (Applies tech library cap b e) (live_question tech library cap b (record { at = at; kind = k; id = id })) (live b k id)
  asks_live at k id inside = tests (Applies tech library cap b e) 2 at (live_in k id b) tt (refusal.NotLive k id) refl (λ no. (inside, no))

  pub asks_value : {X : Type 0} (at : ℕ) (t : Bool) (x : X) → Contains (values e) (record { at = at; allowed = t }) → Asks (Applies tech library cap b e) (value_question (record { at = at; allowed = t })) (cond t (Ok x) (Err (refusal.BadValue at)))
  asks_value at t x inside =
      tests (Applies tech library cap b e) 3 at t x (refusal.BadValue at) refl
      (λ no. (refl, subst (λ a. Contains (values e) (record { at = at; allowed = a })) no inside))

  pub asks_lawful : (at : ℕ) (k : Kind) (name : List ℕ) → new_name e ≡ Some (record { at = at; kind = k; name = name }) → Asks (Applies tech library cap b e) (name_question (record { at = at; kind = k; name = name })) (lawful name at)
  asks_lawful at k name named =
      clears (Applies tech library cap b e) 4 at (name_fault name) (λ fault. no_fault fault at) (λ fault. refusal.BadName at) refl (λ fault. refl) (λ fault. refl)
      (λ fault is. (refl, subst (λ o. MatchOption o ⊥ (λ new. (at ≡ new.at) × ¬ (IsName new.name))) (sym named) (refl, not_name (name_fault name) fault is)))

  pub asks_sought : (at : ℕ) (found : Option ℕ) → sought tech library e ≡ Some (record { at = at; found = found }) → Asks (Applies tech library cap b e) (sought_question (record { at = at; found = found })) (some_or found (refusal.Unknown at))
  asks_sought at found is =
      seeks (Applies tech library cap b e) 5 at found (refusal.Unknown at) refl
      (λ none. (refl, subst (λ o. MatchOption o ⊥ (λ s. (at ≡ s.at) × (s.found ≡ None))) (sym is) (refl, none)))

  pub asks_unheld : (at : ℕ) (k : Kind) (name : List ℕ) → new_name e ≡ Some (record { at = at; kind = k; name = name }) → Asks (Applies tech library cap b e) (taken_question tech library cap b (record { at = at; kind = k; name = name })) (unheld b k name)
  asks_unheld at k name named =
      clears (Applies tech library cap b e) 6 0 (find_in k name b) nobody (λ id. refusal.NameTaken id) refl (λ id. refl) (λ id. refl)
      (λ id found. (refl, subst (λ o. MatchOption o ⊥ (λ new. name_in new.kind id b ≡ Some new.name)) (sym named) (found_have_the_name k b name id found)))

  pub asks_room : (k : Kind) (n many : ℕ) → many ≡ n → Contains (makes library e) (record { kind = k; count = n }) → Asks (Applies tech library cap b e) (room_question tech library cap b (record { kind = k; count = n })) (nothing_lacks (lacking k many cap b None))
  asks_room k n many same inside =
      subst (λ m. Asks (Applies tech library cap b e) (room_question tech library cap b (record { kind = k; count = n })) (nothing_lacks (lacking k m cap b None))) (sym same)
      (asks_table (Applies tech library cap b e) k (kind_code k) (nat_lt (left_in k cap b) n)
      (λ short. (refl, (n, inside, ltb-true (left_in k cap b) n short))))
