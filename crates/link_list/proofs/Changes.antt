-- What the changes of links do to the lists over the cells.
use Rattle.std.proofs.Common.{◌≡◌, ◌≢◌, Bool, true, false, cond, eqb, List, [], ◌∷◌, ◌++◌, ℕ, refl, sym, ap, ◌∙◌, inl, inr}
use Rattle.std.proofs.lemmas.Bool.{cases_Bool, eqb-false, eq-eqb, ne_eqb, false≢true, false_from_ne_true, or_left, or_parts, or_right}
use Rattle.link_list.specs.declared.link.Link.{Link}
use Rattle.link_list.specs.declared.link.Head.{Head}
use Rattle.link_list.specs.Ids.{before}
use Rattle.odb_base.specs.Ids.{AreApart, after, first, holds, without}
use Rattle.link_list.specs.Links.{joined, linked_between, linked_in, linked_out, with_after, with_before}
use Rattle.link_list.specs.Standing.{AreLinked, NamesCell, Stands, last_or, named, number}
use Rattle.odb_base.proofs.Splits.{Parts, Split, after-split, distinct_in, distinct_out, parts_of, without-split}
use Rattle.link_list.proofs.Members.{Place, before-split, first_in, holds-last, last_in}
use Rattle.odb_base.proofs.Ids.{holds-append, member_differs}
use Rattle.link_list.proofs.Linking.{linked_back, linked_first, linked_front, linked_join, linked_kept, linked_last, member_is_cell}

-- the number of the first member, where what follows the front part changed
first_ended : (front old tail : List ℕ) (head new : ℕ) → ((k : ℕ) → holds front k ≡ true → k ≢ 0) → head ≡ number (first (front ++ old)) → new ≡ number (first tail) → cond (eqb (last_or 0 front) 0) new head ≡ number (first (front ++ tail))
first_ended [] old tail head new some e e' = e'
first_ended (x ∷ xs) old tail head new some e e' = rw (ne_eqb (last_or x xs) 0 (some (last_or x xs) (holds-last x xs))) e

module _ {Cells : Type 0} (with_link : Cells → ℕ → Link → Cells) (link_of : Cells → ℕ → Link) (cell : Cells → ℕ → Bool)
    (none : (cells : Cells) → cell cells 0 ≡ false)
    (kept : (cells : Cells) (id other : ℕ) (link : Link) → cell cells id ≡ true → cell (with_link cells id link) other ≡ cell cells other)
    (set : (cells : Cells) (id : ℕ) (link : Link) → cell cells id ≡ true → link_of (with_link cells id link) id ≡ link)
    (others : (cells : Cells) (id other : ℕ) (link : Link) → cell cells id ≡ true → other ≢ id → link_of (with_link cells id link) other ≡ link_of cells other) where
  -- which identifiers name a cell stays
  pub cell-with_after : (cells : Cells) (id other k : ℕ) → NamesCell (cell cells) id → cell (with_after with_link link_of id other cells) k ≡ cell cells k
  cell-with_after cells id other k h = elim (cases_Bool (eqb id 0)) [
    | inl e ↦ rw e refl
    | inr e ↦ rw e (kept cells id k _ (h (eqb-false id 0 e)))
  ]

  pub cell-with_before : (cells : Cells) (id other k : ℕ) → NamesCell (cell cells) id → cell (with_before with_link link_of id other cells) k ≡ cell cells k
  cell-with_before cells id other k h = elim (cases_Bool (eqb id 0)) [
    | inl e ↦ rw e refl
    | inr e ↦ rw e (kept cells id k _ (h (eqb-false id 0 e)))
  ]

  -- other links stay
  pub other-with_after : (cells : Cells) (id other k : ℕ) → NamesCell (cell cells) id → k ≢ id → link_of (with_after with_link link_of id other cells) k ≡ link_of cells k
  other-with_after cells id other k h ne = elim (cases_Bool (eqb id 0)) [
    | inl e ↦ rw e refl
    | inr e ↦ rw e (others cells id k _ (h (eqb-false id 0 e)) ne)
  ]

  pub other-with_before : (cells : Cells) (id other k : ℕ) → NamesCell (cell cells) id → k ≢ id → link_of (with_before with_link link_of id other cells) k ≡ link_of cells k
  other-with_before cells id other k h ne = elim (cases_Bool (eqb id 0)) [
    | inl e ↦ rw e refl
    | inr e ↦ rw e (others cells id k _ (h (eqb-false id 0 e)) ne)
  ]

  -- an identifier that names a cell isn't 0
  pub not_zero : (cells : Cells) (id : ℕ) → cell cells id ≡ true → id ≢ 0
  not_zero cells id inside e = false≢true (sym (none cells) ∙ ap (cell cells) (sym e) ∙ inside)

  -- the link that was changed
  set-with_after : (cells : Cells) (id other k : ℕ) → cell cells k ≡ true → k ≡ id → link_of (with_after with_link link_of id other cells) k ≡ record { before = (link_of cells k).before; after = other }
  set-with_after cells id other k inside e =
      rw (← e, ne_eqb k 0 (not_zero cells k inside)) (set cells k _ inside)

  set-with_before : (cells : Cells) (id other k : ℕ) → cell cells k ≡ true → k ≡ id → link_of (with_before with_link link_of id other cells) k ≡ record { before = other; after = (link_of cells k).after }
  set-with_before cells id other k inside e =
      rw (← e, ne_eqb k 0 (not_zero cells k inside)) (set cells k _ inside)

  -- Two parts of a list, whose ends are led to other numbers: the last link of the front, and then the first of the back.
  module _ (cells : Cells) (front back : List ℕ) (parts : Parts front back) (next prior : ℕ)
      (in_front : AreLinked (cell cells) (link_of cells) 0 front next) (in_back : AreLinked (cell cells) (link_of cells) prior back 0)
      (next' prior' : ℕ) where
    abbrev left : ℕ
    left = last_or 0 front

    abbrev right : ℕ
    right = number (first back)

    abbrev led : Cells
    led = with_after with_link link_of left next' cells

    abbrev ended : Cells
    ended = with_before with_link link_of right prior' led

    front_cell : (k : ℕ) → holds front k ≡ true → cell cells k ≡ true
    front_cell k inside = member_is_cell (cell cells) (link_of cells) 0 front next k in_front inside

    back_cell : (k : ℕ) → holds back k ≡ true → cell cells k ≡ true
    back_cell k inside = member_is_cell (cell cells) (link_of cells) prior back 0 k in_back inside

    pub left_cell : NamesCell (cell cells) left
    left_cell some = front_cell left (last_in front some)

    right_cell : NamesCell (cell cells) right
    right_cell some = back_cell right (first_in back some)

    cell-led : (k : ℕ) → cell led k ≡ cell cells k
    cell-led k = cell-with_after cells left next' k left_cell

    pub right_cell_led : NamesCell (cell led) right
    right_cell_led some = cell-led right ∙ right_cell some

    cell-ended-led : (k : ℕ) → cell ended k ≡ cell led k
    cell-ended-led k = cell-with_before led right prior' k right_cell_led

    pub cell-ended : (k : ℕ) → cell ended k ≡ cell cells k
    cell-ended k = cell-ended-led k ∙ cell-led k

    other-led : (k : ℕ) → k ≢ left → link_of led k ≡ link_of cells k
    other-led k ne = other-with_after cells left next' k left_cell ne

    other-ended : (k : ℕ) → k ≢ right → link_of ended k ≡ link_of led k
    other-ended k ne = other-with_before led right prior' k right_cell_led ne

    -- a cell outside a part isn't at that part's end
    not_left : (k : ℕ) → cell cells k ≡ true → holds front k ≡ false → k ≢ left
    not_left k is out e =
        let some : left ≢ 0 = λ z. not_zero cells k is (e ∙ z) in
        member_differs front left k (last_in front some) out (sym e)

    not_right : (k : ℕ) → cell cells k ≡ true → holds back k ≡ false → k ≢ right
    not_right k is out e =
        let some : right ≢ 0 = λ z. not_zero cells k is (e ∙ z) in
        member_differs back right k (first_in back some) out (sym e)

    -- the link of a cell outside both parts stays
    pub link-ended : (k : ℕ) → cell cells k ≡ true → holds front k ≡ false → holds back k ≡ false → link_of ended k ≡ link_of cells k
    link-ended k is out_front out_back = other-ended k (not_right k is out_back) ∙ other-led k (not_left k is out_front)

    back_apart : (k : ℕ) → holds back k ≡ true → holds front k ≡ false
    back_apart k inside = false_from_ne_true (holds front k) (λ both. false≢true (sym (parts.apart k both) ∙ inside))

    front_led : AreLinked (cell led) (link_of led) 0 front next'
    front_led = linked_last (cell cells) (cell led) (link_of cells) (link_of led) cell-led 0 front next next' in_front parts.front_distinct
        (λ k inside ne. other-led k ne)
        (λ k inside e. set-with_after cells left next' k (front_cell k inside) e)

    pub front_ended : AreLinked (cell ended) (link_of ended) 0 front next'
    front_ended = linked_kept (cell led) (cell ended) (link_of led) (link_of ended) cell-ended-led 0 front next' front_led
        (λ k inside. other-ended k (not_right k (front_cell k inside) (parts.apart k inside)))

    back_led : AreLinked (cell led) (link_of led) prior back 0
    back_led = linked_kept (cell cells) (cell led) (link_of cells) (link_of led) cell-led prior back 0 in_back
        (λ k inside. other-led k (not_left k (back_cell k inside) (back_apart k inside)))

    pub back_ended : AreLinked (cell ended) (link_of ended) prior' back 0
    back_ended = linked_first (cell led) (cell ended) (link_of led) (link_of ended) cell-ended-led prior prior' back 0 back_led parts.back_distinct
        (λ k inside ne. other-ended k ne)
        (λ k inside e. set-with_before led right prior' k (cell-led k ∙ back_cell k inside) e)

    -- the list of another head, without a member among these, stays
    pub others_ended : (other : Head) (members : List ℕ) → AreApart front members → AreApart back members → Stands (cell cells) (link_of cells) other members → Stands (cell ended) (link_of ended) other members
    others_ended other members apart_front apart_back h = record {
      first_member = h.first_member;
      linked = linked_kept (cell cells) (cell ended) (link_of cells) (link_of ended) cell-ended 0 members 0 h.linked
          (λ k inside. link-ended k
          (member_is_cell (cell cells) (link_of cells) 0 members 0 k h.linked inside)
          (false_from_ne_true (holds front k) (λ both. false≢true (sym (apart_front k both) ∙ inside)))
          (false_from_ne_true (holds back k) (λ both. false≢true (sym (apart_back k both) ∙ inside))));
      distinct = h.distinct;
    }

  -- 0 is no member
  pub zero_outside : (cells : Cells) (b : ℕ) (ids : List ℕ) (n : ℕ) → AreLinked (cell cells) (link_of cells) b ids n → holds ids 0 ≡ false
  zero_outside cells b ids n h = false_from_ne_true (holds ids 0) (λ inside. not_zero cells 0 (member_is_cell (cell cells) (link_of cells) b ids n 0 h inside) refl)

  -- the identifier that the number of a first member stands for
  named_first : (cells : Cells) (b : ℕ) (ids : List ℕ) (n : ℕ) → AreLinked (cell cells) (link_of cells) b ids n → named (number (first ids)) ≡ first ids
  named_first cells b [] n h = refl
  named_first cells b (x ∷ xs) n h = rw (ne_eqb x 0 (not_zero cells x h.0)) refl

  -- an identifier that enters a list between two parts
  module _ (cells : Cells) (head : Head) (id : ℕ) (front back : List ℕ) (stands : Stands (cell cells) (link_of cells) head (front ++ back))
      (outside : holds (front ++ back) id ≡ false) (is_cell : cell cells id ≡ true) where
    -- its own link is set first, and then those of the members beside it
    abbrev own : Cells
    own = with_link cells id (record { before = last_or 0 front; after = number (first back) })

    abbrev entered : Cells
    entered = linked_between with_link link_of id (last_or 0 front) (number (first back)) cells

    entered_parts : Parts front back
    entered_parts = parts_of front back stands.distinct

    apart_from : (holds front id ≡ false) × (holds back id ≡ false)
    apart_from = or_parts (holds front id) (holds back id) (sym (holds-append front back id) ∙ outside)

    cell-own : (k : ℕ) → cell own k ≡ cell cells k
    cell-own k = kept cells id k _ is_cell

    front_stands : AreLinked (cell cells) (link_of cells) 0 front (number (first back))
    front_stands = linked_front (cell cells) (link_of cells) 0 front back 0 stands.linked

    front_own : AreLinked (cell own) (link_of own) 0 front (number (first back))
    front_own = linked_kept (cell cells) (cell own) (link_of cells) (link_of own) cell-own 0 front _ front_stands
        (λ k inside. others cells id k _ is_cell (member_differs front k id inside apart_from.0))

    back_own : AreLinked (cell own) (link_of own) (last_or 0 front) back 0
    back_own = linked_kept (cell cells) (cell own) (link_of cells) (link_of own) cell-own _ back 0 (linked_back (cell cells) (link_of cells) 0 front back 0 stands.linked)
        (λ k inside. others cells id k _ is_cell (member_differs back k id inside apart_from.1))

    own_link : link_of entered id ≡ record { before = last_or 0 front; after = number (first back) }
    own_link = link-ended own front back entered_parts (number (first back)) (last_or 0 front) front_own back_own id id id (cell-own id ∙ is_cell) apart_from.0 apart_from.1 ∙ set cells id _ is_cell

    -- the cells that the members beside it name
    pub left_named : NamesCell (cell own) (last_or 0 front)
    left_named = left_cell own front back entered_parts (number (first back)) (last_or 0 front) front_own back_own id id

    pub right_named : NamesCell (cell (with_after with_link link_of (last_or 0 front) id own)) (number (first back))
    right_named = right_cell_led own front back entered_parts (number (first back)) (last_or 0 front) front_own back_own id id

    cell-entered : (k : ℕ) → cell entered k ≡ cell cells k
    cell-entered k = cell-ended own front back entered_parts (number (first back)) (last_or 0 front) front_own back_own id id k ∙ cell-own k

    pub entered_stands : Stands (cell entered) (link_of entered) (record { first = cond (eqb (last_or 0 front) 0) id head.first }) (front ++ id ∷ back)
    entered_stands = record {
      first_member = first_ended front back (id ∷ back) head.first id
          (λ k inside. not_zero cells k (member_is_cell (cell cells) (link_of cells) 0 front _ k front_stands inside)) stands.first_member refl;
      linked = linked_join (cell entered) (link_of entered) 0 front (id ∷ back) 0
          (front_ended own front back entered_parts (number (first back)) (last_or 0 front) front_own back_own id id)
          (cell-entered id ∙ is_cell, own_link, back_ended own front back entered_parts (number (first back)) (last_or 0 front) front_own back_own id id);
      distinct = distinct_in front back id stands.distinct outside;
    }

    own_others : (other : Head) (members : List ℕ) → holds members id ≡ false → Stands (cell cells) (link_of cells) other members → Stands (cell own) (link_of own) other members
    own_others other members out h = record {
      first_member = h.first_member;
      linked = linked_kept (cell cells) (cell own) (link_of cells) (link_of own) cell-own 0 members 0 h.linked
          (λ k inside. others cells id k _ is_cell (member_differs members k id inside out));
      distinct = h.distinct;
    }

    -- the list of another head, without a member among these, stays
    pub entered_others : (other : Head) (members : List ℕ) → AreApart (front ++ id ∷ back) members → Stands (cell cells) (link_of cells) other members → Stands (cell entered) (link_of entered) other members
    entered_others other members apart h =
        others_ended own front back entered_parts (number (first back)) (last_or 0 front) front_own back_own id id other members
        (λ k inside. apart k (holds-append front (id ∷ back) k ∙ or_left (holds front k) (holds (id ∷ back) k) inside))
        (λ k inside. apart k (holds-append front (id ∷ back) k ∙ or_right (holds front k) (holds (id ∷ back) k) (or_right (eqb id k) (holds back k) inside)))
        (own_others other members (apart id (holds-append front (id ∷ back) id ∙ or_right (holds front id) (holds (id ∷ back) id) (or_left (eqb id id) (holds back id) (eq-eqb id id refl)))) h)

    pub entered-is : linked_in with_link link_of (front ++ id ∷ back) id cells ≡ entered
    entered-is = rw (before-split front back id apart_from.0, after-split front back id apart_from.0) refl

  -- a member that leaves a list
  module _ (cells : Cells) (head : Head) (id : ℕ) (front back : List ℕ) (stands : Stands (cell cells) (link_of cells) head (front ++ id ∷ back)) where
    abbrev left_cells : Cells
    left_cells = joined with_link link_of (last_or 0 front) (number (first back)) cells

    all_parts : Parts front (id ∷ back)
    all_parts = parts_of front (id ∷ back) stands.distinct

    left_parts : Parts front back
    left_parts = parts_of front back (distinct_out front back id stands.distinct)

    front_before : AreLinked (cell cells) (link_of cells) 0 front id
    front_before = linked_front (cell cells) (link_of cells) 0 front (id ∷ back) 0 stands.linked

    from_member : AreLinked (cell cells) (link_of cells) (last_or 0 front) (id ∷ back) 0
    from_member = linked_back (cell cells) (link_of cells) 0 front (id ∷ back) 0 stands.linked

    pub member_link : link_of cells id ≡ record { before = last_or 0 front; after = number (first back) }
    member_link = from_member.1

    pub left_before : NamesCell (cell cells) (last_or 0 front)
    left_before = left_cell cells front back left_parts id id front_before from_member.2 (number (first back)) (last_or 0 front)

    pub right_before : NamesCell (cell (with_after with_link link_of (last_or 0 front) (number (first back)) cells)) (number (first back))
    right_before = right_cell_led cells front back left_parts id id front_before from_member.2 (number (first back)) (last_or 0 front)

    cell-left : (k : ℕ) → cell left_cells k ≡ cell cells k
    cell-left k = cell-ended cells front back left_parts id id front_before from_member.2 (number (first back)) (last_or 0 front) k

    pub left_stands : Stands (cell left_cells) (link_of left_cells) (record { first = cond (eqb (last_or 0 front) 0) (number (first back)) head.first }) (front ++ back)
    left_stands = record {
      first_member = first_ended front (id ∷ back) back head.first (number (first back))
          (λ k inside. not_zero cells k (member_is_cell (cell cells) (link_of cells) 0 front _ k front_before inside)) stands.first_member refl;
      linked = linked_join (cell left_cells) (link_of left_cells) 0 front back 0
          (front_ended cells front back left_parts id id front_before from_member.2 (number (first back)) (last_or 0 front))
          (back_ended cells front back left_parts id id front_before from_member.2 (number (first back)) (last_or 0 front));
      distinct = distinct_out front back id stands.distinct;
    }

    pub left_others : (other : Head) (members : List ℕ) → AreApart (front ++ id ∷ back) members → Stands (cell cells) (link_of cells) other members → Stands (cell left_cells) (link_of left_cells) other members
    left_others other members apart h =
        others_ended cells front back left_parts id id front_before from_member.2 (number (first back)) (last_or 0 front) other members
        (λ k inside. apart k (holds-append front (id ∷ back) k ∙ or_left (holds front k) (holds (id ∷ back) k) inside))
        (λ k inside. apart k (holds-append front (id ∷ back) k ∙ or_right (holds front k) (holds (id ∷ back) k) (or_right (eqb id k) (holds back k) inside)))
        h

    pub left-is : linked_out with_link link_of (front ++ id ∷ back) id cells ≡ left_cells
    left-is =
        let out = back_is_apart in
        rw (before-split front back id out, after-split front back id out) refl
      where
        back_is_apart : holds front id ≡ false
        back_is_apart = false_from_ne_true (holds front id) (λ both. false≢true (sym (all_parts.apart id both) ∙ or_left (eqb id id) (holds back id) (eq-eqb id id refl)))

  -- an identifier that comes in its place in a list
  module _ (cells : Cells) (head : Head) (id left right : ℕ) (ids placed : List ℕ) (place : Place id left right ids placed)
      (stands : Stands (cell cells) (link_of cells) head ids) (outside : holds ids id ≡ false) (is_cell : cell cells id ≡ true) where
    in_parts : Stands (cell cells) (link_of cells) head (place.front ++ place.back)
    in_parts = rw place.is at stands

    outside_parts : holds (place.front ++ place.back) id ≡ false
    outside_parts = rw place.is at outside

    pub enter_left : NamesCell (cell (with_link cells id (record { before = left; after = right }))) left
    enter_left = rw (place.left, place.right) (left_named cells head id place.front place.back in_parts outside_parts is_cell)

    pub enter_right : NamesCell (cell (with_after with_link link_of left id (with_link cells id (record { before = left; after = right })))) right
    enter_right = rw (place.left, place.right) (right_named cells head id place.front place.back in_parts outside_parts is_cell)

    pub enter_cells : linked_between with_link link_of id left right cells ≡ linked_in with_link link_of placed id cells
    enter_cells = rw (place.left, place.right, place.becomes) (sym (entered-is cells head id place.front place.back in_parts outside_parts is_cell))

    pub enter_list : Stands (cell (linked_between with_link link_of id left right cells)) (link_of (linked_between with_link link_of id left right cells)) (record { first = cond (eqb left 0) id head.first }) placed
    enter_list = rw (place.left, place.right, place.becomes) (entered_stands cells head id place.front place.back in_parts outside_parts is_cell)

    pub enter_named : (k : ℕ) → cell (linked_between with_link link_of id left right cells) k ≡ cell cells k
    enter_named k = rw (place.left, place.right) (cell-entered cells head id place.front place.back in_parts outside_parts is_cell k)

    pub enter_others : (other : Head) (members : List ℕ) → AreApart placed members → Stands (cell cells) (link_of cells) other members → Stands (cell (linked_between with_link link_of id left right cells)) (link_of (linked_between with_link link_of id left right cells)) other members
    enter_others other members apart h =
        rw (place.left, place.right) (entered_others cells head id place.front place.back in_parts outside_parts is_cell other members (rw place.becomes at apart) h)

  -- a member of a list that leaves it
  module _ (cells : Cells) (head : Head) (id : ℕ) (ids : List ℕ) (s : Split id ids) (stands : Stands (cell cells) (link_of cells) head ids) (link : Link) (link_is : link ≡ link_of cells id) where
    around : Stands (cell cells) (link_of cells) head (s.front ++ id ∷ s.back)
    around = rw s.is at stands

    link-is : link ≡ record { before = last_or 0 s.front; after = number (first s.back) }
    link-is = link_is ∙ member_link cells head id s.front s.back around

    pub before-is : link.before ≡ last_or 0 s.front
    before-is = ap (λ (l : Link). l.before) link-is

    pub after-is : link.after ≡ number (first s.back)
    after-is = ap (λ (l : Link). l.after) link-is

    pub leave_left : NamesCell (cell cells) link.before
    leave_left = rw before-is (left_before cells head id s.front s.back around)

    pub leave_right : NamesCell (cell (with_after with_link link_of link.before link.after cells)) link.after
    leave_right = rw (before-is, after-is) (right_before cells head id s.front s.back around)

    pub leave_cells : joined with_link link_of link.before link.after cells ≡ linked_out with_link link_of ids id cells
    leave_cells = rw (before-is, after-is) (sym (left-is cells head id s.front s.back around) ∙ ap (λ l. linked_out with_link link_of l id cells) (sym s.is))

    pub leave_list : Stands (cell (joined with_link link_of link.before link.after cells)) (link_of (joined with_link link_of link.before link.after cells)) (record { first = cond (eqb link.before 0) link.after head.first }) (without id ids)
    leave_list = rw (before-is, after-is, ap (without id) s.is ∙ without-split s.front s.back id s.apart) (left_stands cells head id s.front s.back around)

    pub leave_named : (k : ℕ) → cell (joined with_link link_of link.before link.after cells) k ≡ cell cells k
    leave_named k = rw (before-is, after-is) (cell-left cells head id s.front s.back around k)

    pub leave_others : (other : Head) (members : List ℕ) → AreApart ids members → Stands (cell cells) (link_of cells) other members → Stands (cell (joined with_link link_of link.before link.after cells)) (link_of (joined with_link link_of link.before link.after cells)) other members
    leave_others other members apart h =
        rw (before-is, after-is) (left_others cells head id s.front s.back around other members (rw s.is at apart) h)

    pub leave_next : named link.after ≡ after ids id
    leave_next =
        ap named after-is
        ∙ named_first cells id s.back 0 (from_member cells head id s.front s.back around).2
        ∙ sym (ap (λ l. after l id) s.is ∙ after-split s.front s.back id s.apart)

    -- what stands before it, by its link
    pub leave_before : link.before ≡ number (before ids id)
    leave_before = before-is ∙ sym (ap (λ l. number (before l id)) s.is ∙ before-split s.front s.back id s.apart)
