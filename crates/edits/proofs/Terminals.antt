-- Terminals of masters, how many there are and whose names are missing.
use Rattle.std.proofs.Common.{◌≡◌, ◌≤◌, true, false, List, [], ◌∷◌, ℕ, zero, suc, Option, None, Some, IsSome, is_none, is_some, length, slice_get, refl, ap, sym, ◌-◌, ◌∙◌, inl, inr, arith}
use Rattle.std.specs.Option.{option_map, option_or}
use Rattle.std.proofs.lemmas.Bool.{cases_Bool, cases_eq, false≢true, ne_eqb, not-false}
use Rattle.library.specs.Masters.{master_at}
use Rattle.library.specs.Terminals.{term_index}
use Rattle.library.specs.declared.master.Master.{Master}
use Rattle.library.specs.declared.mterm.MTerm.{MTerm}
use Rattle.named_list.proofs.Naming.{found_is_named}
use Rattle.block_store.proofs.Joined.{none_is, shown_by, some_is}
use Rattle.lawful_parts.specs.Lawful.{IsLibrary}
use Rattle.tech.specs.Technology.{Technology}
use Rattle.block_store.specs.Instances.{term_count}
use Rattle.steps_net.specs.Can.{HaveSameTerms}
use Rattle.edits.specs.Plan.{first_differing, first_lacking}
use Rattle.edits.specs.Planning.{HasFewTerminals}

-- a master of the library has few terminals
pub few_terminals : (library : List Master) (id : ℕ) (m : Master) → HasFewTerminals library → Some m ≡ master_at library id → length m.terminals ≤ 65535
few_terminals library id m few found = few id (length m.terminals) (ap (option_map (λ m. length m.terminals)) (sym found))

-- a lawful library has only such masters
pub few_in_library : (t : Technology) (library : List Master) → IsLibrary t library → HasFewTerminals library
few_in_library t library lawful id n count = elim (cases_eq id 0) [
  | inl e ↦
      let none : option_map (λ (m : Master). length m.terminals) (master_at library 0) ≡ Some n = ap (term_count library) (sym e) ∙ count in
      absurd (none_is n none)
  | inr e ↦
      let at : option_map (λ (m : Master). length m.terminals) (slice_get library (id - 1)) ≡ Some n = rw (ne_eqb id 0 e) at count in
      let m = shown_by (λ (m : Master). length m.terminals) (slice_get library (id - 1)) n at in
      let few = (lawful.masters (id - 1) m.value m.is).few in
      omega (arith, few, m.shows)
]

-- the first of some terminals is lacking, or the others decide
pub lacking_here : (m : Master) (t : MTerm) (ts : List MTerm) → is_none (term_index m t.name) ≡ true → first_lacking m (t ∷ ts) ≡ Some t.name
lacking_here m t ts none = rw none refl

pub lacking_later : (m : Master) (t : MTerm) (ts : List MTerm) → is_none (term_index m t.name) ≡ false → first_lacking m (t ∷ ts) ≡ first_lacking m ts
lacking_later m t ts there = rw there refl

-- a name that is some terminal's of a list isn't lacking where none is
none_lacking : (m : Master) (ts : List MTerm) (k : ℕ) (t : MTerm) → first_lacking m ts ≡ None → slice_get ts k ≡ Some t → is_none (term_index m t.name) ≡ false
none_lacking m [] k t none at = absurd (none_is t at)
none_lacking m (x ∷ xs) zero t none at = elim (cases_Bool (is_none (term_index m x.name))) [
  | inl e ↦ absurd (none_is x.name (sym none ∙ lacking_here m x xs e))
  | inr e ↦ ap (λ t. is_none (term_index m t.name)) (sym (some_is x t at)) ∙ e
]
none_lacking m (x ∷ xs) (suc k) t none at = elim (cases_Bool (is_none (term_index m x.name))) [
  | inl e ↦ absurd (none_is x.name (sym none ∙ lacking_here m x xs e))
  | inr e ↦ none_lacking m xs k t (sym (lacking_later m x xs e) ∙ none) at
]

some_at : {A : Type 0} (o : Option A) → IsSome o → (x : A) × (o ≡ Some x)
some_at None some = absurd (false≢true some)
some_at (Some x) some = (x, refl)

-- each name of one master's terminals is that of one of the other's
covers : (one other : Master) → first_lacking other one.terminals ≡ None → (name : List ℕ) → IsSome (term_index one name) → IsSome (term_index other name)
covers one other none name some =
    let place = some_at (term_index one name) some in
    let found = found_is_named (λ (t : MTerm). t.name) one.terminals name place.0 place.1 in
    ap (λ n. is_some (term_index other n)) (sym found.2)
    ∙ not-false (is_some (term_index other found.0.name)) (none_lacking other one.terminals place.0 found.0 none found.1)

none_first : {A : Type 0} (a b : Option A) → option_or a b ≡ None → (a ≡ None) × (b ≡ None)
none_first None b h = (refl, h)
none_first (Some x) b h = absurd (none_is x (sym h))

-- masters that nothing tells apart have the same names of terminals
pub same_names : (old new : Master) → first_differing old new ≡ None → HaveSameTerms old new
same_names old new h name =
    let none = none_first (first_lacking new old.terminals) (first_lacking old new.terminals) h in
    (covers old new none.0 name, covers new old none.1 name)
