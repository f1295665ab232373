-- What is judged of a step, read off the block.
use Rattle.std.proofs.Common.{◌≡◌, ◌≤◌, ◌<◌, ◌+◌, ◌-◌, true, false, List, ℕ, Option, Some, None, IsTrue, IsSome, Bool, not, is_some, length, slice_get, refl, sym, ap, ◌∙◌, subst, arith, inl, inr}
use Rattle.std.proofs.lemmas.Bool.{cases_lt}
use Rattle.std.proofs.lemmas.Option.{slice_get_within}
use Rattle.odb_base.specs.Name.{IsName}
use Rattle.odb_base.specs.declared.codes.kind.Kind.{Kind}
use Rattle.library.specs.Masters.{master_at}
use Rattle.library.specs.Terminals.{term_index}
use Rattle.library.specs.declared.master.Master.{Master}
use Rattle.library.specs.declared.mterm.MTerm.{MTerm}
use Rattle.named_list.proofs.Naming.{found_is_named, unnamed}
use Rattle.block_store.specs.Block.{Block, live_in, next_in}
use Rattle.block_store.specs.Names.{HasNames, IsFree, find_in}
use Rattle.block_store.proofs.Naming.{free_names_are_not_found}
use Rattle.steps_net.specs.Can.{CanName, CanRename, CanSwap, HaveSameTerms, inst_master}

-- nothing was found, by a test that says so
none_told : (found : Option ℕ) (none : Bool) → is_some found ≡ not none → (none ≡ true → found ≡ None) × (found ≡ None → none ≡ true)
none_told None true told = (λ so. refl, λ is. refl)
none_told None false told = (λ so. cc, λ is. cc)
none_told (Some id) true told = (λ so. cc, λ is. cc)
none_told (Some id) false told = (λ so. cc, λ is. cc)

-- a name is free just where nothing is found by it
module _ (k : Kind) (b : Block) (id : ℕ) (name : List ℕ) (found : Option ℕ) (none : Bool) (lawful : IsName name) (is : found ≡ find_in k name b) (told : is_some found ≡ not none) where
  free_if : none ≡ true → IsFree k name b
  free_if so = (free_names_are_not_found k b name).0 (sym is ∙ (none_told found none told).0 so)

  none_if : IsFree k name b → none ≡ true
  none_if free = (none_told found none told).1 (is ∙ (free_names_are_not_found k b name).1 free)

  pub nameable : id ≡ next_in k b → (none ≡ true → CanName k b id name) × (CanName k b id name → none ≡ true)
  nameable next = (λ so. record { next = next; lawful = lawful; free = free_if so }, λ can. none_if can.free)

  pub renameable : HasNames k → IsTrue (live_in k id b) → (none ≡ true → CanRename b k id name) × (CanRename b k id name → none ≡ true)
  renameable has live = (λ so. record { kind = has; live = live; lawful = lawful; free = free_if so }, λ can. none_if can.free)

some_by : {A : Type 0} (o : Option A) → (o ≡ None → ⊥) → IsSome o
some_by None h = absurd (h refl)
some_by (Some x) h = refl

module _ (one other : Master) where
  -- each name of a terminal of one master is that of a terminal of the other
  abbrev pub AreWithin : Type 0
  AreWithin = (name : List ℕ) → IsSome (term_index one name) → IsSome (term_index other name)

  -- the terminals before a place have names of the other's
  abbrev pub AreWithinTo : ℕ → Type 0
  AreWithinTo n = (k : ℕ) (x : MTerm) → k < n → slice_get one.terminals k ≡ Some x → IsSome (term_index other x.name)

  found_within : (name : List ℕ) (place : Option ℕ) → term_index one name ≡ place → AreWithinTo (length one.terminals) → IsSome place → IsSome (term_index other name)
  found_within name None is within some = cc
  found_within name (Some i) is within some =
      let x = found_is_named (λ (t : MTerm). t.name) one.terminals name i is in
      subst (λ n. IsSome (term_index other n)) x.2 (within i x.0 (slice_get_within one.terminals i x.0 x.1) x.1)

  -- all terminals were looked at
  pub all_within : AreWithinTo (length one.terminals) → AreWithin
  all_within within = λ name some. found_within name (term_index one name) refl within some

  -- one that has no name of the other's
  pub not_within : (k : ℕ) (x : MTerm) → slice_get one.terminals k ≡ Some x → (IsSome (term_index other x.name) → ⊥) → AreWithin → ⊥
  not_within k x at none within = none (within x.name (some_by (term_index one x.name) (λ lost. unnamed (λ (t : MTerm). t.name) one.terminals x.name k x lost at refl)))

  -- one more terminal was looked at
  pub within_more : (n : ℕ) (t : MTerm) → AreWithinTo n → slice_get one.terminals n ≡ Some t → IsSome (term_index other t.name) → AreWithinTo (n + 1)
  within_more n t within at some = λ k x below at_k. elim (cases_lt k n) [
    | inl before ↦ within k x before at_k
    | inr here ↦
        let same : k ≡ n = omega arith in
        let found : Some t ≡ Some x = sym at ∙ ap (slice_get one.terminals) (sym same) ∙ at_k in
        let is : t ≡ x = cc in
        subst (λ (y : MTerm). IsSome (term_index other y.name)) is some
  ]

-- two masters whose names are within each other's
module _ (library : List Master) (b : Block) (inst master : ℕ) (old new : Master) (is_old : inst_master library b inst ≡ Some old) (is_new : master_at library master ≡ Some new) where
  pub swap_if : AreWithin old new → AreWithin new old → CanSwap library b inst master
  swap_if there back = record { old = old; new = new; is_old = is_old; is_new = is_new; same = λ name. (there name, back name) }

  pub swap_only : CanSwap library b inst master → AreWithin old new × AreWithin new old
  swap_only can =
      let first : Some can.old ≡ Some old = sym can.is_old ∙ is_old in
      let second : Some can.new ≡ Some new = sym can.is_new ∙ is_new in
      let one : can.old ≡ old = cc in
      let two : can.new ≡ new = cc in
      let same : HaveSameTerms old new = subst (λ m. HaveSameTerms m new) one (subst (HaveSameTerms can.old) two can.same) in
      (λ name. (same name).0, λ name. (same name).1)
