-- What lists rest on: the cells of their own members. A change of other cells leaves them, and a change of one list
-- leaves the others.
use Rattle.std.proofs.Common.{◌≡◌, ◌≢◌, ◌≤◌, ◌||◌, Bool, true, false, eqb, List, ℕ, sym, ◌∙◌, inl, inr, ◌⊎◌}
use Rattle.link_list.specs.declared.link.Head.{Head}
use Rattle.link_list.specs.declared.link.Link.{Link}
use Rattle.link_list.specs.Lists.{AreLists, OneBecame, list_of}
use Rattle.link_list.specs.Standing.{OthersStand, Stands}
use Rattle.link_list.proofs.Linking.{linked_stays}
use Rattle.link_list.proofs.Reading.{members-stands}
use Rattle.odb_base.specs.Ids.{AreApart, holds, without}
use Rattle.odb_base.proofs.Members.{apart_swap, apart_with, holds_without}

module _ (cell cell' : ℕ → Bool) (link link' : ℕ → Link) where
  -- the members' cells are cells still, with the same links
  abbrev pub MembersStay : List ℕ → Type 0
  MembersStay ids = (k : ℕ) → holds ids k ≡ true → (cell' k ≡ true) × (link' k ≡ link k)

  -- a head stands as long as the cells of its members stay
  pub stays : (head : Head) (ids : List ℕ) → Stands cell link head ids → MembersStay ids → Stands cell' link' head ids
  stays head ids h kept = record {
    first_member = h.first_member;
    linked = linked_stays cell cell' link link' 0 ids 0 h.linked kept;
    distinct = h.distinct;
  }

module _ {O : Type 0} (cell cell' : ℕ → Bool) (link link' : ℕ → Link) (most most' : ℕ) (heads heads' : O → Head)
    (none : cell' 0 ≡ false) (few : (id : ℕ) → cell' id ≡ true → id ≤ most') (lists : AreLists cell link most heads) where
  abbrev list : O → List ℕ
  list object = list_of link most (heads object)

  abbrev list' : O → List ℕ
  list' object = list_of link' most' (heads' object)

  -- the list that a head stands for is the one that is read off anew
  reads : (head : Head) (ids : List ℕ) → Stands cell' link' head ids → list_of link' most' head ≡ ids
  reads head ids h = members-stands cell' link' none head ids most' few h

  read_stands : (head : Head) (ids : List ℕ) → Stands cell' link' head ids → Stands cell' link' head (list_of link' most' head)
  read_stands head ids h = rw (reads head ids h) h

  -- an object whose head is as before and whose members' cells stay
  abbrev pub Untouched : O → Type 0
  Untouched object = (heads' object ≡ heads object) × MembersStay cell cell' link link' (list object)

  stands_still : (object : O) → Untouched object → Stands cell' link' (heads' object) (list object)
  stands_still object kept = rw kept.0 (stays cell cell' link link' (heads object) (list object) (lists.stands object) kept.1)

  -- its list reads as before
  pub members_kept : (object : O) → Untouched object → list' object ≡ list object
  members_kept object kept = reads (heads' object) (list object) (stands_still object kept)

  -- where that is each object, all lists stand
  pub all_stand : ((object : O) → Untouched object) → AreLists cell' link' most' heads'
  all_stand kept = record {
    stands = λ object. read_stands (heads' object) (list object) (stands_still object (kept object));
    apart = λ object other ne.
        rw (members_kept object (kept object), members_kept other (kept other)) (lists.apart object other ne);
  }

  module _ (object : O) (same_or_other : (other : O) → (other ≡ object) ⊎ (other ≢ object)) (ids : List ℕ)
      (stands : Stands cell' link' (heads' object) ids)
      (others : (other : O) → other ≢ object → Stands cell' link' (heads' other) (list other))
      (apart : (other : O) → other ≢ object → AreApart ids (list other)) where
    became : list' object ≡ ids
    became = reads (heads' object) ids stands

    other_reads : (other : O) → other ≢ object → list' other ≡ list other
    other_reads other ne = reads (heads' other) (list other) (others other ne)

    all_read : (other : O) → Stands cell' link' (heads' other) (list' other)
    all_read other = elim (same_or_other other) [
      | inl same ↦ rw same (read_stands (heads' object) ids stands)
      | inr ne ↦ read_stands (heads' other) (list other) (others other ne)
    ]

    apart_now : (other : O) → other ≢ object → AreApart (list' object) (list' other)
    apart_now other ne = rw (became, other_reads other ne) (apart other ne)

    all_apart : (one two : O) → one ≢ two → AreApart (list' one) (list' two)
    all_apart one two ne = elim (same_or_other one) [
      | inl here ↦ rw here (apart_now two (λ same. ne (here ∙ sym same)))
      | inr away ↦ elim (same_or_other two) [
        | inl here ↦ rw here (apart_swap (list' object) (list' one) (apart_now one away))
        | inr gone ↦ rw (other_reads one away, other_reads two gone) (lists.apart one two ne)
      ]
    ]

    -- one list becomes these identifiers, and each other stands
    pub one_becomes : OneBecame link most heads cell' link' most' heads' object ids
    one_becomes = record {
      lists = record { stands = all_read; apart = all_apart };
      became = became;
      others = other_reads;
    }

  -- What the calls say of the list that they change, and of others, makes one list become another.
  module _ (object : O) (same_or_other : (other : O) → (other ≡ object) ⊎ (other ≢ object))
      (heads_stay : (other : O) → other ≢ object → heads' other ≡ heads other) where
    others_stand : (touched : List ℕ) → OthersStand cell link cell' link' touched → ((other : O) → other ≢ object → AreApart touched (list other)) → (other : O) → other ≢ object → Stands cell' link' (heads' other) (list other)
    others_stand touched stand apart other ne =
        rw (heads_stay other ne) (stand (heads other) (list other) (apart other ne) (lists.stands other))

    -- an identifier that was in no list enters one, in any place
    pub one_enters : (id : ℕ) (entered : List ℕ) → ((k : ℕ) → holds entered k ≡ (eqb id k || holds (list object) k)) → ((other : O) → other ≢ object → holds (list other) id ≡ false) → Stands cell' link' (heads' object) entered → OthersStand cell link cell' link' entered → OneBecame link most heads cell' link' most' heads' object entered
    one_enters id entered is outside stands stand =
        let apart = λ (other : O) (ne : other ≢ object). apart_with id (list object) entered (list other) is (outside other ne) (lists.apart object other (λ same. ne (sym same))) in
        one_becomes object same_or_other entered stands (others_stand entered stand apart) apart

    -- a member leaves its list
    pub one_leaves : (id : ℕ) → Stands cell' link' (heads' object) (without id (list object)) → OthersStand cell link cell' link' (list object) → OneBecame link most heads cell' link' most' heads' object (without id (list object))
    one_leaves id stands stand =
        let before = λ (other : O) (ne : other ≢ object). lists.apart object other (λ same. ne (sym same)) in
        let apart = λ (other : O) (ne : other ≢ object) (k : ℕ) (inside : holds (without id (list object)) k ≡ true). before other ne k (holds_without id (list object) k inside) in
        one_becomes object same_or_other (without id (list object)) stands (others_stand (list object) stand before) apart
