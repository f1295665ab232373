-- A member enters a list while its field comes to name the list's object, or leaves it while the field comes to name
-- nothing: the block stays sound, and the way back leads to it.
use Rattle.std.proofs.Common.{◌≡◌, ◌≢◌, ◌≤◌, ◌∷◌, true, false, List, [], ℕ, Option, None, Some, IsTrue, is_some, refl, sym, ap, ◌∙◌}
use Rattle.std.proofs.lemmas.Bool.{false≢true}
use Rattle.std.specs.Option.{option_map_or}
use Rattle.slot_pool.specs.Table.{is_live, record_at, times}
use Rattle.slot_pool.proofs.Counts.{times_cons_other}
use Rattle.odb_base.specs.Ids.{IsDistinct, after, holds, placed, without}
use Rattle.odb_base.proofs.Splits.{back_in_place, eqb-refl}
use Rattle.odb_base.specs.declared.codes.kind.Kind.TheVariants as kind
use Rattle.tech.specs.Technology.{Technology}
use Rattle.library.specs.declared.master.Master.{Master}
use Rattle.block_store.specs.Block.{Block}
use Rattle.block_store.specs.Kinds.{Entry, on_entry, table, table_of}
use Rattle.block_store.specs.Lens.{over}
use Rattle.slot_pool.specs.Mapped.{on_record}
use Rattle.block_store.specs.Sorts.{BTermsOfNet, ITermsOfNet, IsHeld, Sort, list_of, moved, owner_of, sort}
use Rattle.block_store.specs.Sound.{IsSound}
use Rattle.block_store.specs.TermPlaces.{place_of, terminals_of}
use Rattle.block_store.specs.View.{View, laws, view}
use Rattle.block_store.proofs.Changed.{kinds_on, parts_by, sound_beside}
use Rattle.block_store.proofs.Held.{held_beside, held_linked, held_named, held_none, held_unlinked, placed_stands, times_without_other}
use Rattle.block_store.proofs.OneTable.{header_stays, lift, on_entry_back, seen_on}
use Rattle.block_store.proofs.Memberships.{kinds_apart, lawful_list, lawful_names, list_beside, list_get, list_keeps_name, list_set, member_beside, names_beside, names_get, names_keep_name, names_set, no_list, numbers_apart, one_after_other, place_beside_list, place_beside_name, terminals_beside_list, terminals_beside_name}
use Rattle.slot_pool.proofs.Mapped.{live_record}
use Rattle.block_store.proofs.Shown.{from_one, view_at_on, view_other_on}
use Rattle.block_store.proofs.TableLemmas.{on_on, on_same}

-- what the lists and the members show after a move
module _ (s : Sort) (change : List ℕ → List ℕ) (object member named : ℕ) (d : Block) where
  abbrev c : Block
  c = moved s change object member named d

  abbrev listed : Block
  listed = on_entry (sort s).owner (over (sort s).list change) object d

  -- what an identifier shows in the table of a sort's owners, and in that of its members
  abbrev list_shown : (other : Sort) → Option (Entry (sort other).owner) → List ℕ
  list_shown other o = (sort other).list_seen (option_map_or (laws (sort other).owner).see o (laws (sort other).owner).none)

  abbrev name_shown : (other : Sort) → Option (Entry (sort other).member) → ℕ
  name_shown other o = (sort other).names_seen (option_map_or (laws (sort other).member).see o (laws (sort other).member).none)

  -- the lists after the move are those after the change of the list
  lists_after : (other : Sort) (i : ℕ) → list_of other (view c) i ≡ list_of other (view listed) i
  lists_after other i = seen_on (sort s).member ((sort s).names.set named) member listed (sort other).owner (sort other).list_seen (list_beside s other named) i

  -- the list that changes, where its object is there, and the others
  list_now : IsTrue (is_live (table_of (sort s).owner d) object) → list_of s (view c) object ≡ change (list_of s (view d) object)
  list_now live =
      let t = table_of (sort s).owner d in
      let x = live_record t object live in
      lists_after s object
      ∙ ap (λ t. list_shown s (record_at t object)) ((table (sort s).owner).set_get (on_record (over (sort s).list change) object t) d)
      ∙ view_at_on (list_shown s) (over (sort s).list change) object x.value t x.is
      ∙ list_set s (change ((sort s).list.get x.value)) x.value
      ∙ ap change (sym (list_get s x.value) ∙ ap (list_shown s) (sym x.is))

  list_other : (i : ℕ) → i ≢ object → list_of s (view c) i ≡ list_of s (view d) i
  list_other i apart =
      lists_after s i
      ∙ ap (λ t. list_shown s (record_at t i)) ((table (sort s).owner).set_get (on_record (over (sort s).list change) object (table_of (sort s).owner d)) d)
      ∙ view_other_on (list_shown s) (over (sort s).list change) object (table_of (sort s).owner d) i apart

  -- what the member names, and the others
  name_now : IsTrue (is_live (table_of (sort s).member d) member) → owner_of s (view c) member ≡ named
  name_now live =
      let t = table_of (sort s).member d in
      let x = live_record t member live in
      ap (λ t. name_shown s (record_at t member)) ((table (sort s).member).set_get (on_record ((sort s).names.set named) member (table_of (sort s).member listed)) listed)
      ∙ ap (λ t. name_shown s (record_at (on_record ((sort s).names.set named) member t) member)) (member_beside s (over (sort s).list change) object d)
      ∙ view_at_on (name_shown s) ((sort s).names.set named) member x.value t x.is
      ∙ names_set s named x.value

  name_other : (i : ℕ) → i ≢ member → owner_of s (view c) i ≡ owner_of s (view d) i
  name_other i apart =
      ap (λ t. name_shown s (record_at t i)) ((table (sort s).member).set_get (on_record ((sort s).names.set named) member (table_of (sort s).member listed)) listed)
      ∙ ap (λ t. name_shown s (record_at (on_record ((sort s).names.set named) member t) i)) (member_beside s (over (sort s).list change) object d)
      ∙ view_other_on (name_shown s) ((sort s).names.set named) member (table_of (sort s).member d) i apart

  -- what members of another sort name
  names_stand : (other : Sort) → ((x : Entry (sort other).member) → (sort other).names_seen ((laws (sort other).member).see (lift (sort s).member ((sort s).names.set named) (sort other).member x)) ≡ (sort other).names_seen ((laws (sort other).member).see x)) → (i : ℕ) → owner_of other (view c) i ≡ owner_of other (view d) i
  names_stand other same i =
      seen_on (sort s).member ((sort s).names.set named) member listed (sort other).member (sort other).names_seen same i
      ∙ seen_on (sort s).owner (over (sort s).list change) object d (sort other).member (sort other).names_seen (names_beside s other (over (sort s).list change)) i

  -- the members of another sort that shares the list, where the change leaves them
  beside : (other : Sort) → ((v : View) (i : ℕ) → list_of other v i ≡ list_of s v i) → IsTrue (is_live (table_of (sort s).owner d) object) →
      ((x : Entry (sort other).member) → (sort other).names_seen ((laws (sort other).member).see (lift (sort s).member ((sort s).names.set named) (sort other).member x)) ≡ (sort other).names_seen ((laws (sort other).member).see x)) →
      ((i : ℕ) → times ((sort other).number i) (change (list_of s (view d) object)) ≡ times ((sort other).number i) (list_of s (view d) object)) → IsHeld other (view d) → IsHeld other (view c)
  beside other shared live same leaves held =
      held_beside (list_of other (view d)) (list_of other (view c)) (sort other).number (owner_of other (view d)) (owner_of other (view c)) object
      (λ i apart. shared (view c) i ∙ list_other i apart ∙ sym (shared (view d) i))
      (λ i. ap (times ((sort other).number i)) (shared (view c) object ∙ list_now live) ∙ leaves i ∙ ap (times ((sort other).number i)) (sym (shared (view d) object)))
      (names_stand other same) held

  -- terminals stand at their places
  terminals_stand : (i : ℕ) → terminals_of (view c) i ≡ terminals_of (view d) i
  terminals_stand i =
      seen_on (sort s).member ((sort s).names.set named) member listed kind.Inst (λ links. links.terminals) (terminals_beside_name s named) i
      ∙ seen_on (sort s).owner (over (sort s).list change) object d kind.Inst (λ links. links.terminals) (terminals_beside_list s change) i

  places_stand : (i : ℕ) → place_of (view c) i ≡ place_of (view d) i
  places_stand i =
      seen_on (sort s).member ((sort s).names.set named) member listed kind.ITerm (λ links. links.place) (place_beside_name s named) i
      ∙ seen_on (sort s).owner (over (sort s).list change) object d kind.ITerm (λ links. links.place) (place_beside_list s change) i

  sound_moved : (tech : Technology) (library : List Master) (cap : ℕ) → IsSound tech library cap d → ((other : Sort) → IsHeld other (view c)) → IsSound tech library cap c
  sound_moved tech library cap sound held =
      let parts = parts_by tech library d.header in
      sound_beside tech library cap d c sound
      (header_stays (sort s).member (on_record ((sort s).names.set named) member (table_of (sort s).member listed)) listed
      ∙ header_stays (sort s).owner (on_record (over (sort s).list change) object (table_of (sort s).owner d)) d)
      (kinds_on parts cap (sort s).member ((sort s).names.set named) member listed (λ x found is. lawful_names s named parts x is) (names_keep_name s named)
      (kinds_on parts cap (sort s).owner (over (sort s).list change) object d (λ x found is. lawful_list s change parts x is) (list_keeps_name s change) sound.kinds))
      (record { held = held; placed = placed_stands (terminals_of (view d)) (terminals_of (view c)) (place_of (view d)) (place_of (view c)) terminals_stand places_stand sound.joined.placed })

-- The lists of all sorts after one member moved: its own sort's, and those that share the list.
held_after : (s : Sort) (change : List ℕ → List ℕ) (object member named : ℕ) (d : Block) → IsTrue (is_live (table_of (sort s).owner d) object) →
    ((n : ℕ) → n ≢ (sort s).number member → times n (change (list_of s (view d) object)) ≡ times n (list_of s (view d) object)) →
    ((other : Sort) → IsHeld other (view d)) → IsHeld s (view (moved s change object member named d)) → (other : Sort) → IsHeld other (view (moved s change object member named d))
held_after ITermsOfNet change object member named d live leaves held own ITermsOfNet = own
held_after ITermsOfNet change object member named d live leaves held own BTermsOfNet =
    beside ITermsOfNet change object member named d BTermsOfNet (λ v i. refl) live (λ x. refl) (λ i. leaves ((sort BTermsOfNet).number i) (λ same. kinds_apart member i (sym same))) (held BTermsOfNet)
held_after BTermsOfNet change object member named d live leaves held own ITermsOfNet =
    beside BTermsOfNet change object member named d ITermsOfNet (λ v i. refl) live (λ x. refl) (λ i. leaves ((sort ITermsOfNet).number i) (kinds_apart i member)) (held ITermsOfNet)
held_after BTermsOfNet change object member named d live leaves held own BTermsOfNet = own

-- a member goes to the front of a list, and another one out of it, with the field that names the list's object
abbrev pub entered : Sort → ℕ → ℕ → Block → Block
entered s member object d = moved s (λ ids. (sort s).number member ∷ ids) object member object d

abbrev pub left : Sort → ℕ → ℕ → Block → Block
left s member object d = moved s (without ((sort s).number member)) object member 0 d

-- the member that left is back, before the one that stood after it
abbrev pub returned : Sort → ℕ → ℕ → Option ℕ → Block → Block
returned s member object next d = moved s (placed ((sort s).number member) next) object member object d

-- a list with a member is that of an object that is there
list_live : {A : Type 0} (list_shown : Option A → List ℕ) (o : Option A) (number : ℕ) → list_shown None ≡ [] → holds (list_shown o) number ≡ true → is_some o ≡ true
list_live list_shown None number none inside = absurd (false≢true (ap (λ ids. holds ids number) (sym none) ∙ inside))
list_live list_shown (Some x) number none inside = refl

module _ (tech : Technology) (library : List Master) (cap : ℕ) (d : Block) (s : Sort) where
  -- a member is in the list of the object that it names, and a member that names none is in no list
  pub member_inside : IsSound tech library cap d → (member object : ℕ) → 1 ≤ object → owner_of s (view d) member ≡ object → holds (list_of s (view d) object) ((sort s).number member) ≡ true
  member_inside sound member object some named = held_named (list_of s (view d)) (sort s).number (owner_of s (view d)) object member some named (sound.joined.held s)

  pub member_outside : IsSound tech library cap d → (member : ℕ) → owner_of s (view d) member ≡ 0 → (object : ℕ) → holds (list_of s (view d) object) ((sort s).number member) ≡ false
  member_outside sound member none object = held_none (list_of s (view d)) (sort s).number (owner_of s (view d)) member none (no_list s) (sound.joined.held s) object

  -- a list with a member is that of an object that is there
  pub object_live : (object number : ℕ) → holds (list_of s (view d) object) number ≡ true → IsTrue (is_live (table_of (sort s).owner d) object)
  object_live object number inside =
      list_live (λ o. (sort s).list_seen (option_map_or (laws (sort s).owner).see o (laws (sort s).owner).none)) (record_at (table_of (sort s).owner d) object) number (no_list s) inside

  pub sound_entered : (member object : ℕ) → IsSound tech library cap d → IsTrue (is_live (table_of (sort s).member d) member) → owner_of s (view d) member ≡ 0 → IsTrue (is_live (table_of (sort s).owner d) object) → IsSound tech library cap (entered s member object d)
  sound_entered member object sound there none live =
      let number = (sort s).number member in
      let enter : List ℕ → List ℕ = λ ids. number ∷ ids in
      let own = held_linked (list_of s (view d)) (list_of s (view (entered s member object d))) (sort s).number (owner_of s (view d)) (owner_of s (view (entered s member object d))) object member
      (from_one (table_of (sort s).owner d) object live) (numbers_apart s) (list_now s enter object member object d live) (list_other s enter object member object d)
      none (name_now s enter object member object d there) (name_other s enter object member object d) (sound.joined.held s) in
      sound_moved s enter object member object d tech library cap sound
      (held_after s enter object member object d live (λ n apart. times_cons_other n number (list_of s (view d) object) (λ same. apart (sym same))) sound.joined.held own)

  pub sound_left : (member object : ℕ) → IsSound tech library cap d → IsTrue (is_live (table_of (sort s).member d) member) → 1 ≤ object → owner_of s (view d) member ≡ object → IsSound tech library cap (left s member object d)
  sound_left member object sound there some named =
      let number = (sort s).number member in
      let leave : List ℕ → List ℕ = without number in
      let live = object_live object number (member_inside sound member object some named) in
      let own = held_unlinked (list_of s (view d)) (list_of s (view (left s member object d))) (sort s).number (owner_of s (view d)) (owner_of s (view (left s member object d))) object member
      some (numbers_apart s) (list_now s leave object member 0 d live) (list_other s leave object member 0 d)
      named (name_now s leave object member 0 d there) (name_other s leave object member 0 d) (sound.joined.held s) in
      sound_moved s leave object member 0 d tech library cap sound
      (held_after s leave object member 0 d live (λ n apart. times_without_other (list_of s (view d) object) number n apart) sound.joined.held own)

-- an entry whose list, or whose name, is set back to what it was
list_same : (s : Sort) (later first : List ℕ → List ℕ) (object : ℕ) (x : Entry (sort s).owner) (d : Block) → record_at (table_of (sort s).owner d) object ≡ Some x → later (first (list_of s (view d) object)) ≡ list_of s (view d) object → over (sort s).list later (over (sort s).list first x) ≡ x
list_same s later first object x d found back =
    let list = (sort s).list in
    let here : list_of s (view d) object ≡ list.get x = ap (λ o. (sort s).list_seen (option_map_or (laws (sort s).owner).see o (laws (sort s).owner).none)) found ∙ list_get s x in
    let same : later (first (list.get x)) ≡ list.get x = ap (λ ids. later (first ids)) (sym here) ∙ back ∙ here in
    ap (λ ids. list.set (later ids) (list.set (first (list.get x)) x)) (list.set_get (first (list.get x)) x)
    ∙ list.set_set (later (first (list.get x))) (first (list.get x)) x
    ∙ ap (λ ids. list.set ids x) same
    ∙ list.get_set x

name_same : (s : Sort) (was named member : ℕ) (x : Entry (sort s).member) (d : Block) → record_at (table_of (sort s).member d) member ≡ Some x → owner_of s (view d) member ≡ was → (sort s).names.set was ((sort s).names.set named x) ≡ x
name_same s was named member x d found is =
    let names = (sort s).names in
    let here : names.get x ≡ was = sym (names_get s x) ∙ ap (λ o. (sort s).names_seen (option_map_or (laws (sort s).member).see o (laws (sort s).member).none)) (sym found) ∙ is in
    names.set_set was named x ∙ ap (λ n. names.set n x) (sym here) ∙ names.get_set x

-- two moves of one member that take each other back
moved_back : (s : Sort) (later first : List ℕ → List ℕ) (object member was named : ℕ) (d : Block) → later (first (list_of s (view d) object)) ≡ list_of s (view d) object → owner_of s (view d) member ≡ was → moved s later object member was (moved s first object member named d) ≡ d
moved_back s later first object member was named d list_back name_back =
    let lists : Block = on_entry (sort s).owner (over (sort s).list first) object d in
    ap (on_entry (sort s).member ((sort s).names.set was) member) (one_after_other s (over (sort s).list later) ((sort s).names.set named) object member lists)
    ∙ ap (λ b. on_entry (sort s).member ((sort s).names.set was) member (on_entry (sort s).member ((sort s).names.set named) member b))
    (on_entry_back (sort s).owner (over (sort s).list later) (over (sort s).list first) object d
    (on_on (over (sort s).list later) (over (sort s).list first) object (table_of (sort s).owner d)
    ∙ on_same (λ x. over (sort s).list later (over (sort s).list first x)) object (table_of (sort s).owner d)
    (λ x found. list_same s later first object x d found list_back)))
    ∙ on_entry_back (sort s).member ((sort s).names.set was) ((sort s).names.set named) member d
    (on_on ((sort s).names.set was) ((sort s).names.set named) member (table_of (sort s).member d)
    ∙ on_same (λ x. (sort s).names.set was ((sort s).names.set named x)) member (table_of (sort s).member d)
    (λ x found. name_same s was named member x d found name_back))

-- a member in front goes
without_front : (id : ℕ) (ids : List ℕ) → without id (id ∷ ids) ≡ ids
without_front id ids = rw eqb-refl refl

pub back_entered : (s : Sort) (member object : ℕ) (d : Block) → owner_of s (view d) member ≡ 0 → left s member object (entered s member object d) ≡ d
back_entered s member object d none =
    moved_back s (without ((sort s).number member)) (λ ids. (sort s).number member ∷ ids) object member 0 object d (without_front ((sort s).number member) (list_of s (view d) object)) none

pub back_left : (s : Sort) (member object : ℕ) (d : Block) → IsDistinct (list_of s (view d) object) → holds (list_of s (view d) object) ((sort s).number member) ≡ true → owner_of s (view d) member ≡ object →
    returned s member object (after (list_of s (view d) object) ((sort s).number member)) (left s member object d) ≡ d
back_left s member object d distinct inside named =
    moved_back s (placed ((sort s).number member) (after (list_of s (view d) object) ((sort s).number member))) (without ((sort s).number member)) object member object 0 d
    (back_in_place (list_of s (view d) object) ((sort s).number member) distinct inside) named
