-- Slots in pages, seen as one list.
use Rattle.std.proofs.Common.{◌≡◌, ℕ, ◌+◌, ◌-◌, ◌*◌, ◌/◌, ◌%◌, ◌<◌, ◌≤◌, ◌≢◌, ◌⊎◌, inl, inr, List, [], ◌∷◌, ◌++◌, length, get_or, set, slice_get, Some, min, refl, sym, ap, ◌∙◌, arith, mod-lt, length-set, get_or-set_same, get_or-set_other}
use native.Mathlib.Nat.{div-add-mod}
use Rattle.std.specs.Prelude.{IsSome}
use Rattle.std.proofs.lemmas.Bool.{cases_eq, cases_lt, false≢true}
use Rattle.std.proofs.lemmas.List.{get_or_default, get_or_past, get_or_push, get_or_append_left, length_push, set-set, set-get_or}
use Rattle.std.proofs.lemmas.List.FromFn.{length-map-range_with_len, get_or-map-range_with_len, map-range_with_len_more, fill_by_all}
use Rattle.std.proofs.lemmas.Option.{slice_get-get_or}
use Rattle.slot_pool.specs.declared.slot.Slot.{Slot}
use Rattle.slot_pool.specs.Paging.{Paged, vacant, page_at, slot_at, slots_in, IsPaged}
use Rattle.slot_pool.specs.Stacking.{content}

-- two places of one page
apart_in_page : (place other : ℕ) → other ≢ place → other / 128 ≡ place / 128 → other % 128 ≢ place % 128
apart_in_page place other apart same = λ e. apart (omega (arith, div-add-mod place 128, div-add-mod other 128, same, e))

module _ {A : Type 0} where
  pub length-slots_in : (pages : List (List (Slot A))) (count : ℕ) → length (slots_in pages count) ≡ count
  length-slots_in pages count = length-map-range_with_len (slot_at pages) 0 count

  -- the slot at a place of the list
  pub get_or-slots_in : (pages : List (List (Slot A))) (count place : ℕ) (d : Slot A) → place < count → get_or (slots_in pages count) place d ≡ slot_at pages place
  get_or-slots_in pages count place d within = get_or-map-range_with_len (slot_at pages) 0 count place place d within (omega arith)

  -- a place has its page, and its slot there
  pub place_within : (pages : List (List (Slot A))) (count place : ℕ) → IsPaged pages count → place < count → (place / 128 < length pages) × (place % 128 < length (page_at pages (place / 128)))
  place_within pages count place paged within =
      let parts = div-add-mod place 128 in
      let small = mod-lt place {m = 128} (omega arith) in
      (omega (arith, parts, small, paged.enough), omega (arith, parts, small, paged.filled (place / 128)))

  -- a page that was read by its place
  pub page_read : (pages : List (List (Slot A))) (i : ℕ) (page : List (Slot A)) → page ≡ get_or pages i page → i < length pages → page ≡ page_at pages i
  page_read pages i page read within = read ∙ get_or_default pages i page [] within

  -- the slot that was read in its page is that of the list
  pub slot_read : (pages : List (List (Slot A))) (count place : ℕ) (page : List (Slot A)) (slot : Slot A) → IsPaged pages count → place < count → page ≡ page_at pages (place / 128) → slice_get page (place % 128) ≡ Some slot → slice_get (slots_in pages count) place ≡ Some slot
  slot_read pages count place page slot paged within is read =
      let there = (place_within pages count place paged within).1 in
      let in_page : slice_get page (place % 128) ≡ Some (slot_at pages place) = rw is (slice_get-get_or (page_at pages (place / 128)) (place % 128) vacant there) in
      slice_get-get_or (slots_in pages count) place vacant (omega (arith, length-slots_in pages count)) ∙ ap Some (get_or-slots_in pages count place vacant within) ∙ sym in_page ∙ read

  -- pages with the same slots stand for the same list
  pub same_slots : (pages others : List (List (Slot A))) (count : ℕ) → ((place : ℕ) → place < count → slot_at others place ≡ slot_at pages place) → slots_in others count ≡ slots_in pages count
  same_slots pages others count same =
      fill_by_all (slot_at pages) (slots_in others count) count vacant (length-slots_in others count) (λ place within. get_or-slots_in others count place vacant within ∙ same place within)

  -- another page in the place of one
  pub page_at-set : (pages : List (List (Slot A))) (i : ℕ) (page : List (Slot A)) → i < length pages → page_at (set pages i page) i ≡ page
  page_at-set pages i page within = get_or-set_same pages i page [] within

  pub page_at-set_other : (pages : List (List (Slot A))) (i j : ℕ) (page : List (Slot A)) → j ≢ i → page_at (set pages i page) j ≡ page_at pages j
  page_at-set_other pages i j page other = get_or-set_other pages i j page [] other

  -- a slot is put into the place of another
  slot_at-put : (pages : List (List (Slot A))) (count place : ℕ) (slot : Slot A) → IsPaged pages count → place < count → slot_at (set pages (place / 128) (set (page_at pages (place / 128)) (place % 128) slot)) place ≡ slot
  slot_at-put pages count place slot paged within =
      let there = place_within pages count place paged within in
      rw (page_at-set pages (place / 128) (set (page_at pages (place / 128)) (place % 128) slot) there.0)
      (get_or-set_same (page_at pages (place / 128)) (place % 128) slot vacant there.1)

  slot_at-put_other : (pages : List (List (Slot A))) (count place other : ℕ) (slot : Slot A) → IsPaged pages count → place < count → other ≢ place → (other / 128 ≡ place / 128) ⊎ (other / 128 ≢ place / 128) → slot_at (set pages (place / 128) (set (page_at pages (place / 128)) (place % 128) slot)) other ≡ slot_at pages other
  slot_at-put_other pages count place other slot paged within apart (inl same) =
      let there = place_within pages count place paged within in
      let page = set (page_at pages (place / 128)) (place % 128) slot in
      let now : page_at (set pages (place / 128) page) (other / 128) ≡ page = rw same (page_at-set pages (place / 128) page there.0) in
      let was : page_at pages (other / 128) ≡ page_at pages (place / 128) = ap (page_at pages) same in
      ap (λ p. get_or p (other % 128) vacant) now ∙ get_or-set_other (page_at pages (place / 128)) (place % 128) (other % 128) slot vacant (apart_in_page place other apart same) ∙ ap (λ p. get_or p (other % 128) vacant) (sym was)
  slot_at-put_other pages count place other slot paged within apart (inr elsewhere) =
      ap (λ p. get_or p (other % 128) vacant) (page_at-set_other pages (place / 128) (other / 128) (set (page_at pages (place / 128)) (place % 128) slot) elsewhere)

  read_put : (pages : List (List (Slot A))) (count place other : ℕ) (slot : Slot A) → IsPaged pages count → place < count → other < count → (other ≡ place) ⊎ (other ≢ place) → get_or (set (slots_in pages count) place slot) other vacant ≡ slot_at (set pages (place / 128) (set (page_at pages (place / 128)) (place % 128) slot)) other
  read_put pages count place other slot paged within below (inl same) =
      rw same (get_or-set_same (slots_in pages count) place slot vacant (omega (arith, length-slots_in pages count)) ∙ sym (slot_at-put pages count place slot paged within))
  read_put pages count place other slot paged within below (inr apart) =
      get_or-set_other (slots_in pages count) place other slot vacant apart ∙ get_or-slots_in pages count other vacant below ∙ sym (slot_at-put_other pages count place other slot paged within apart (cases_eq (other / 128) (place / 128)))

  pub slots_in-put : (pages : List (List (Slot A))) (count place : ℕ) (slot : Slot A) → IsPaged pages count → place < count → slots_in (set pages (place / 128) (set (page_at pages (place / 128)) (place % 128) slot)) count ≡ set (slots_in pages count) place slot
  slots_in-put pages count place slot paged within =
      sym (fill_by_all (slot_at (set pages (place / 128) (set (page_at pages (place / 128)) (place % 128) slot))) (set (slots_in pages count) place slot) count vacant (length-set (slots_in pages count) place slot ∙ length-slots_in pages count)
      (λ other below. read_put pages count place other slot paged within below (cases_eq other place)))

  -- the page that gets the next slot
  pub next_page : (pages : List (List (Slot A))) (count : ℕ) → IsPaged pages count → count < 128 * length pages → (count / 128 < length pages) × (length (page_at pages (count / 128)) ≡ count % 128) × (count % 128 < 128)
  next_page pages count paged room =
      let parts = div-add-mod count 128 in
      let small = mod-lt count {m = 128} (omega arith) in
      (omega (arith, parts, small), omega (arith, parts, small, paged.filled (count / 128)), small)

  filled-push : (pages : List (List (Slot A))) (count i : ℕ) (slot : Slot A) → IsPaged pages count → count < 128 * length pages → (i ≡ count / 128) ⊎ (i ≢ count / 128) → length (page_at (set pages (count / 128) (page_at pages (count / 128) ++ slot ∷ [])) i) ≡ min 128 (count + 1 - 128 * i)
  filled-push pages count i slot paged room (inl same) =
      let there = next_page pages count paged room in
      let parts = div-add-mod count 128 in
      let now : length (page_at (set pages (count / 128) (page_at pages (count / 128) ++ slot ∷ [])) i) ≡ length (page_at pages (count / 128) ++ slot ∷ []) = rw same (ap length (page_at-set pages (count / 128) (page_at pages (count / 128) ++ slot ∷ []) there.0)) in
      omega (arith, parts, same, there.1, there.2, now, length_push (page_at pages (count / 128)) slot)
  filled-push pages count i slot paged room (inr other) =
      let parts = div-add-mod count 128 in
      let small = mod-lt count {m = 128} (omega arith) in
      let now = ap length (page_at-set_other pages (count / 128) i (page_at pages (count / 128) ++ slot ∷ []) other) in
      omega (arith, parts, small, other, now, paged.filled i)

  -- a slot is added behind the last
  pub IsPaged-push : (pages : List (List (Slot A))) (count : ℕ) (slot : Slot A) → IsPaged pages count → count < 128 * length pages → IsPaged (set pages (count / 128) (page_at pages (count / 128) ++ slot ∷ [])) (count + 1)
  IsPaged-push pages count slot paged room = record {
    filled = λ i. filled-push pages count i slot paged room (cases_eq i (count / 128));
    enough = omega (arith, room, length-set pages (count / 128) (page_at pages (count / 128) ++ slot ∷ []));
  }

  slot_at-push_other : (pages : List (List (Slot A))) (count place : ℕ) (slot : Slot A) → IsPaged pages count → count < 128 * length pages → place < count → (place / 128 ≡ count / 128) ⊎ (place / 128 ≢ count / 128) → slot_at (set pages (count / 128) (page_at pages (count / 128) ++ slot ∷ [])) place ≡ slot_at pages place
  slot_at-push_other pages count place slot paged room before (inl same) =
      let there = next_page pages count paged room in
      let within = (place_within pages count place paged before).1 in
      let page = page_at pages (count / 128) in
      let now : page_at (set pages (count / 128) (page ++ slot ∷ [])) (place / 128) ≡ page ++ slot ∷ [] = rw same (page_at-set pages (count / 128) (page ++ slot ∷ []) there.0) in
      let was : page_at pages (place / 128) ≡ page = ap (page_at pages) same in
      ap (λ p. get_or p (place % 128) vacant) now ∙ get_or_append_left page (slot ∷ []) vacant (place % 128) (omega (arith, within, ap length was)) ∙ ap (λ p. get_or p (place % 128) vacant) (sym was)
  slot_at-push_other pages count place slot paged room before (inr elsewhere) =
      ap (λ p. get_or p (place % 128) vacant) (page_at-set_other pages (count / 128) (place / 128) (page_at pages (count / 128) ++ slot ∷ []) elsewhere)

  pub slots_in-push : (pages : List (List (Slot A))) (count : ℕ) (slot : Slot A) → IsPaged pages count → count < 128 * length pages → slots_in (set pages (count / 128) (page_at pages (count / 128) ++ slot ∷ [])) (count + 1) ≡ slots_in pages count ++ slot ∷ []
  slots_in-push pages count slot paged room =
      let there = next_page pages count paged room in
      let page = page_at pages (count / 128) in
      let now = set pages (count / 128) (page ++ slot ∷ []) in
      let last : slot_at now count ≡ slot = ap (λ p. get_or p (count % 128) vacant) (page_at-set pages (count / 128) (page ++ slot ∷ []) there.0) ∙ get_or_push page slot vacant (count % 128) there.1 in
      let front : slots_in now count ≡ slots_in pages count = same_slots pages now count (λ place before. slot_at-push_other pages count place slot paged room before (cases_eq (place / 128) (count / 128))) in
      map-range_with_len_more (slot_at now) 0 count count (omega arith) ∙ ap (λ slots. slots ++ slot_at now count ∷ []) front ∙ ap (λ s. slots_in pages count ++ s ∷ []) last

  filled-pop : (pages : List (List (Slot A))) (count i : ℕ) (rest : List (Slot A)) (slot : Slot A) → IsPaged pages (count + 1) → page_at pages (count / 128) ≡ rest ++ slot ∷ [] → (i ≡ count / 128) ⊎ (i ≢ count / 128) → length (page_at (set pages (count / 128) rest) i) ≡ min 128 (count - 128 * i)
  filled-pop pages count i rest slot paged is (inl same) =
      let parts = div-add-mod count 128 in
      let small = mod-lt count {m = 128} (omega arith) in
      let here : count / 128 < length pages = omega (arith, parts, small, paged.enough) in
      let now : length (page_at (set pages (count / 128) rest) i) ≡ length rest = rw same (ap length (page_at-set pages (count / 128) rest here)) in
      omega (arith, parts, small, same, now, ap length is, length_push rest slot, paged.filled (count / 128))
  filled-pop pages count i rest slot paged is (inr other) =
      let parts = div-add-mod count 128 in
      let small = mod-lt count {m = 128} (omega arith) in
      let now = ap length (page_at-set_other pages (count / 128) i rest other) in
      omega (arith, parts, small, other, now, paged.filled i)

  -- the last slot goes
  pub IsPaged-pop : (pages : List (List (Slot A))) (count : ℕ) (rest : List (Slot A)) (slot : Slot A) → IsPaged pages (count + 1) → page_at pages (count / 128) ≡ rest ++ slot ∷ [] → IsPaged (set pages (count / 128) rest) count
  IsPaged-pop pages count rest slot paged is = record {
    filled = λ i. filled-pop pages count i rest slot paged is (cases_eq i (count / 128));
    enough = omega (arith, paged.enough, length-set pages (count / 128) rest);
  }

  pub slots_in-pop : (pages : List (List (Slot A))) (count : ℕ) (rest : List (Slot A)) (slot : Slot A) → IsPaged pages (count + 1) → page_at pages (count / 128) ≡ rest ++ slot ∷ [] → slots_in pages (count + 1) ≡ slots_in (set pages (count / 128) rest) count ++ slot ∷ []
  slots_in-pop pages count rest slot paged is =
      let parts = div-add-mod count 128 in
      let small = mod-lt count {m = 128} (omega arith) in
      let here : count / 128 < length pages = omega (arith, parts, small, paged.enough) in
      let fewer = set pages (count / 128) rest in
      let room : count < 128 * length fewer = omega (arith, paged.enough, length-set pages (count / 128) rest) in
      let page : page_at fewer (count / 128) ≡ rest = page_at-set pages (count / 128) rest here in
      let back : set fewer (count / 128) (page_at fewer (count / 128) ++ slot ∷ []) ≡ pages =
      ap (λ p. set fewer (count / 128) (p ++ slot ∷ [])) page ∙ set-set pages (count / 128) rest (rest ++ slot ∷ []) ∙ ap (set pages (count / 128)) (sym is) ∙ set-get_or pages (count / 128) [] in
      ap (λ ps. slots_in ps (count + 1)) (sym back) ∙ slots_in-push fewer count slot (IsPaged-pop pages count rest slot paged is) room

  -- a page of no slots is added
  page_at-more_empty : (pages : List (List (Slot A))) (i : ℕ) → length pages ≤ i → (i ≡ length pages) ⊎ (i ≢ length pages) → page_at (pages ++ [] ∷ []) i ≡ []
  page_at-more_empty pages i past (inl last) = get_or_push pages [] [] i (sym last)
  page_at-more_empty pages i past (inr behind) = get_or_past (pages ++ [] ∷ []) i [] (omega (arith, past, behind, length_push pages []))

  page_at-more_cases : (pages : List (List (Slot A))) (i : ℕ) → (i < length pages) ⊎ (length pages ≤ i) → page_at (pages ++ [] ∷ []) i ≡ page_at pages i
  page_at-more_cases pages i (inl within) = get_or_append_left pages ([] ∷ []) [] i within
  page_at-more_cases pages i (inr past) = page_at-more_empty pages i past (cases_eq i (length pages)) ∙ sym (get_or_past pages i [] past)

  page_at-more : (pages : List (List (Slot A))) (i : ℕ) → page_at (pages ++ [] ∷ []) i ≡ page_at pages i
  page_at-more pages i = page_at-more_cases pages i (cases_lt i (length pages))

  pub IsPaged-more : (pages : List (List (Slot A))) (count : ℕ) → IsPaged pages count → IsPaged (pages ++ [] ∷ []) count
  IsPaged-more pages count paged = record {
    filled = λ i. ap length (page_at-more pages i) ∙ paged.filled i;
    enough = omega (arith, paged.enough, length_push pages []);
  }

  pub slots_in-more : (pages : List (List (Slot A))) (count : ℕ) → slots_in (pages ++ [] ∷ []) count ≡ slots_in pages count
  slots_in-more pages count = same_slots pages (pages ++ [] ∷ []) count (λ place within. ap (λ p. get_or p (place % 128) vacant) (page_at-more pages (place / 128)))

  -- the slots of one page
  pub length-page_at : (pages : List (List (Slot A))) (count k : ℕ) → IsPaged pages count → 128 * k < count → (k < length pages) × (length (page_at pages k) ≡ min 128 (count - 128 * k))
  length-page_at pages count k paged some = (omega (arith, some, paged.enough), paged.filled k)

  pub slot_at-page : (pages : List (List (Slot A))) (count k i : ℕ) → IsPaged pages count → i < length (page_at pages k) → slice_get (page_at pages k) i ≡ slice_get (slots_in pages count) (128 * k + i)
  slot_at-page pages count k i paged within =
      let parts = div-add-mod (128 * k + i) 128 in
      let small = mod-lt (128 * k + i) {m = 128} (omega arith) in
      let row : (128 * k + i) / 128 ≡ k = omega (arith, parts, small, within, paged.filled k) in
      let column : (128 * k + i) % 128 ≡ i = omega (arith, parts, small, within, paged.filled k) in
      let below : 128 * k + i < count = omega (arith, within, paged.filled k) in
      let at : slot_at pages (128 * k + i) ≡ get_or (page_at pages k) i vacant = rw (row, column) refl in
      let one : slice_get (page_at pages k) i ≡ Some (get_or (page_at pages k) i vacant) = slice_get-get_or (page_at pages k) i vacant within in
      let other : slice_get (slots_in pages count) (128 * k + i) ≡ Some (get_or (slots_in pages count) (128 * k + i) vacant) = slice_get-get_or (slots_in pages count) (128 * k + i) vacant (omega (arith, below, length-slots_in pages count)) in
      one ∙ ap Some (sym at ∙ sym (get_or-slots_in pages count (128 * k + i) vacant below)) ∙ sym other

  -- the slots with another one in its place, and for how many there are pages
  pub paged-put : (pages : List (List (Slot A))) (count place : ℕ) (page : List (Slot A)) (slot : Slot A) → IsPaged pages count → place < count → page ≡ page_at pages (place / 128) → ◌≡◌ {A = Paged A} (record { slots = slots_in (set pages (place / 128) (set page (place % 128) slot)) count; room = 128 * length (set pages (place / 128) (set page (place % 128) slot)) }) (record { slots = set (slots_in pages count) place slot; room = 128 * length pages })
  paged-put pages count place page slot paged within is =
      let now : slots_in (set pages (place / 128) (set page (place % 128) slot)) count ≡ set (slots_in pages count) place slot = rw is (slots_in-put pages count place slot paged within) in
      let room : length (set pages (place / 128) (set page (place % 128) slot)) ≡ length pages = length-set pages (place / 128) (set page (place % 128) slot) in
      ap {B = Paged A} (λ s. record { slots = s; room = 128 * length (set pages (place / 128) (set page (place % 128) slot)) }) now ∙ ap {B = Paged A} (λ n. record { slots = set (slots_in pages count) place slot; room = 128 * n }) room

  -- a place with a record lies among the slots
  pub record_within : (slots : List (Slot A)) (place : ℕ) → IsSome (content (get_or slots place vacant)) → place < length slots
  record_within slots place some = elim (cases_lt place (length slots)) [
    | inl within ↦ within
    | inr past ↦ absurd (false≢true (rw (get_or_past slots place vacant past) at some))
  ]
