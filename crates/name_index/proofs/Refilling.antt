-- Empty chains that are filled with the identifiers of a map, one after another.
use Rattle.std.proofs.Common.{◌≡◌, ◌≢◌, ◌+◌, ◌<◌, Bool, true, false, eqb, List, [], ◌∷◌, ◌++◌, ℕ, zero, suc, Option, Some, None, length, get_or, take, refl, sym, ap, subst, ◌∙◌, inl, inr, arith}
use Rattle.std.specs.FinMap.{empty, get, get-empty, insert, len, len-empty}
use Rattle.std.specs.List.{AllByRecursion}
use Rattle.std.specs.Ordering.{nat_cmp}
use Rattle.std.specs.Cmp.Lexicographic.{slice_cmp}
use Rattle.std.specs.Prelude.{slice_index, slice_set}
use Rattle.std.proofs.lemmas.Bool.{eq-eqb, eqb-true, false≢true, false_from_ne_true, or_cases, or_left, or_right}
use Rattle.std.proofs.lemmas.List.{take_more}
use Rattle.odb_base.specs.Ids.{IsDistinct, holds}
use Rattle.odb_base.proofs.Ids.{holds-append}
use Rattle.name_index.specs.Gathered.{AreIds}
use Rattle.name_index.specs.Hash.{bucket_at}
use Rattle.name_index.specs.Index.{Stands}
use Rattle.name_index.specs.Names.{HasId, Names}
use Rattle.name_index.specs.Rechained.{Rechained, with_chains}
use Rattle.name_index.proofs.Buckets.{stands_none}
use Rattle.name_index.proofs.Effects.{add_stands}
use Rattle.name_index.proofs.Maps.{cases_name, get-insert_other, get-insert_same, not_None, same_Some}

-- the identifier at a place is in the list, and not before that place
pub holds-at : (ids : List ℕ) (i : ℕ) → i < length ids → holds ids (get_or ids i 0) ≡ true
holds-at [] i h = absurd (omega (arith, h))
holds-at (x ∷ xs) zero h = or_left (eqb x x) (holds xs x) (eq-eqb x x refl)
holds-at (x ∷ xs) (suc i) h = or_right (eqb x (get_or xs i 0)) (holds xs (get_or xs i 0)) (holds-at xs i (omega (arith, h)))

pub holds-take : (ids : List ℕ) (i id : ℕ) → holds (take i ids) id ≡ true → holds ids id ≡ true
holds-take ids zero id inside = absurd (false≢true inside)
holds-take [] (suc i) id inside = inside
holds-take (x ∷ xs) (suc i) id inside = elim (or_cases (eqb x id) (holds (take i xs) id) inside) [
  | inl here ↦ or_left (eqb x id) (holds xs id) here
  | inr there ↦ or_right (eqb x id) (holds xs id) (holds-take xs i id there)
]

pub holds-before : (ids : List ℕ) (i : ℕ) → IsDistinct ids → i < length ids → holds (take i ids) (get_or ids i 0) ≡ false
holds-before [] i distinct h = absurd (omega (arith, h))
holds-before (x ∷ xs) zero distinct h = refl
holds-before (x ∷ xs) (suc i) distinct h = false_from_ne_true (holds (take (suc i) (x ∷ xs)) (get_or xs i 0)) (λ inside.
    elim (or_cases (eqb x (get_or xs i 0)) (holds (take i xs) (get_or xs i 0)) inside) [
      | inl here ↦ false≢true (sym distinct.0 ∙ ap (holds xs) (eqb-true x (get_or xs i 0) here) ∙ holds-at xs i (omega (arith, h)))
      | inr there ↦ false≢true (sym (holds-before xs i distinct.1 (omega (arith, h))) ∙ there)
    ])

-- the chains stand for the part of the map that is done
pub record Refilled (cell : ℕ → Bool) (name : ℕ → List ℕ) (chain : ℕ → ℕ) (heads : List ℕ) (done : List ℕ) : Type 0 where
  pub part : Names
  pub stands : Stands cell name chain (record { heads = heads; held = len part }) part
  pub from : (bytes : List ℕ) (id : ℕ) → get part bytes ≡ Some id → (name id ≡ bytes) × (holds done id ≡ true)
  pub to : (id : ℕ) → holds done id ≡ true → get part (name id) ≡ Some id

pub refilled_none : (cell : ℕ → Bool) (name : ℕ → List ℕ) (chain : ℕ → ℕ) (heads : List ℕ) → ((k : ℕ) → k < length heads → slice_index heads k ≡ 0) → Refilled cell name chain heads []
refilled_none cell name chain heads nothing =
    let P : ℕ → Type 0 = λ n. Stands cell name chain (record { heads = heads; held = n }) empty in
    record {
      part = empty;
      stands = subst P (sym (len-empty (slice_cmp nat_cmp) ℕ)) (stands_none cell name chain heads nothing);
      from = λ bytes id h. absurd (not_None (get empty bytes) id (get-empty (slice_cmp nat_cmp) bytes) h);
      to = λ id inside. absurd (false≢true inside);
    }

-- cells of which one more chain is set
pub with_chains-push : {Cells : Type 0} (with_chain : Cells → ℕ → ℕ → Cells) (sets : List (ℕ × ℕ)) (id next : ℕ) (cells : Cells) → with_chains with_chain (sets ++ (id, next) ∷ []) cells ≡ with_chain (with_chains with_chain sets cells) id next
with_chains-push with_chain [] id next cells = refl
with_chains-push with_chain (set ∷ sets) id next cells = with_chains-push with_chain sets id next (with_chain cells set.0 set.1)

each-push : (Of : ℕ → Type 0) (sets : List (ℕ × ℕ)) (id next : ℕ) → AllByRecursion (λ set. Of set.0) sets → Of id → AllByRecursion (λ set. Of set.0) (sets ++ (id, next) ∷ [])
each-push Of [] id next h here = (here, tt)
each-push Of (set ∷ sets) id next h here = (h.0, each-push Of sets id next h.1 here)

pub rechained_more : {Cells : Type 0} (with_chain : Cells → ℕ → ℕ → Cells) (Of : ℕ → Type 0) (old mid new : Cells) (id next : ℕ) → Rechained with_chain Of old mid → Of id → new ≡ with_chain mid id next → Rechained with_chain Of old new
rechained_more with_chain Of old mid new id next h here is = record {
  sets = h.sets ++ (id, next) ∷ [];
  each = each-push Of h.sets id next h.each here;
  is = is ∙ ap (λ c. with_chain c id next) h.is ∙ sym (with_chains-push with_chain h.sets id next old);
}

pub rechained_none : {Cells : Type 0} (with_chain : Cells → ℕ → ℕ → Cells) (Of : ℕ → Type 0) (cells : Cells) → Rechained with_chain Of cells cells
rechained_none with_chain Of cells = record { sets = []; each = tt; is = refl }

module _ {Cells : Type 0} (with_chain : Cells → ℕ → ℕ → Cells) (cell : Cells → ℕ → Bool) (name_of : Cells → ℕ → List ℕ) (chain_of : Cells → ℕ → ℕ)
    (none : (cells : Cells) → cell cells 0 ≡ false)
    (kept : (cells : Cells) (id other next : ℕ) → cell cells id ≡ true → cell (with_chain cells id next) other ≡ cell cells other)
    (named : (cells : Cells) (id other next : ℕ) → cell cells id ≡ true → name_of (with_chain cells id next) other ≡ name_of cells other)
    (set : (cells : Cells) (id next : ℕ) → cell cells id ≡ true → chain_of (with_chain cells id next) id ≡ next)
    (others : (cells : Cells) (id other next : ℕ) → cell cells id ≡ true → other ≢ id → chain_of (with_chain cells id next) other ≡ chain_of cells other)
    (first cells : Cells) (ids : List ℕ) (names : Names) (are : AreIds (cell first) (name_of first) ids names)
    (same_cell : (k : ℕ) → cell cells k ≡ cell first k) (same_name : (k : ℕ) → name_of cells k ≡ name_of first k)
    (heads : List ℕ) (i : ℕ) (within : i < length ids) (refilled : Refilled (cell cells) (name_of cells) (chain_of cells) heads (take i ids)) where
  abbrev id : ℕ
  id = get_or ids i 0

  abbrev at : ℕ
  at = bucket_at (length heads) (name_of cells id)

  there : (cell first id ≡ true) × (get names (name_of first id) ≡ Some id)
  there = are.each id (holds-at ids i within)

  pub next_cell : cell cells id ≡ true
  next_cell = same_cell id ∙ there.0

  pub next_has_id : HasId names id
  next_has_id = (name_of first id, there.1)

  is_new : get refilled.part (name_of cells id) ≡ None
  is_new = by_cases (get refilled.part (name_of cells id)) refl
    where
      by_cases : (o : Option ℕ) → get refilled.part (name_of cells id) ≡ o → get refilled.part (name_of cells id) ≡ None
      by_cases None e = e
      by_cases (Some k) e =
          let got = refilled.from (name_of cells id) k e in
          let same : k ≡ id = same_Some k id (sym (are.each k (holds-take ids i k got.1)).1 ∙ ap (get names) (sym (same_name k) ∙ got.0 ∙ same_name id) ∙ there.1) in
          absurd (false≢true (sym (holds-before ids i are.distinct within) ∙ ap (holds (take i ids)) (sym same) ∙ got.1))

  abbrev part' : Names
  part' = insert refilled.part (name_of cells id) id

  more-is : take (i + 1) ids ≡ take i ids ++ id ∷ []
  more-is = take_more ids i 0 within

  id_done : holds (take (i + 1) ids) id ≡ true
  id_done = ap (λ l. holds l id) more-is ∙ holds-append (take i ids) (id ∷ []) id ∙ or_right (holds (take i ids) id) (holds (id ∷ []) id) (or_left (eqb id id) false (eq-eqb id id refl))

  still_done : (k : ℕ) → holds (take i ids) k ≡ true → holds (take (i + 1) ids) k ≡ true
  still_done k inside = ap (λ l. holds l k) more-is ∙ holds-append (take i ids) (id ∷ []) k ∙ or_left (holds (take i ids) k) (holds (id ∷ []) k) inside

  module _ (new : Cells) (heads' : List ℕ) (some : 0 < length heads) (heads-is : heads' ≡ slice_set heads at id) (cells-is : new ≡ with_chain cells id (slice_index heads at)) where
    new_named : (k : ℕ) → name_of new k ≡ name_of cells k
    new_named k = ap (λ c. name_of c k) cells-is ∙ named cells id k (slice_index heads at) next_cell

    pub next_named : (k : ℕ) → name_of new k ≡ name_of first k
    next_named k = new_named k ∙ same_name k

    pub next_kept : (k : ℕ) → cell new k ≡ cell first k
    next_kept k = ap (λ c. cell c k) cells-is ∙ kept cells id k (slice_index heads at) next_cell ∙ same_cell k

    added : Stands (cell new) (name_of new) (chain_of new) (record { heads = heads'; held = len refilled.part + 1 }) part'
    added = add_stands with_chain cell name_of chain_of none kept named set others cells (record { heads = heads; held = len refilled.part }) refilled.part refilled.stands id new heads' next_cell is_new some heads-is cells-is

    from' : (bytes : List ℕ) (k : ℕ) → get part' bytes ≡ Some k → (name_of new k ≡ bytes) × (holds (take (i + 1) ids) k ≡ true)
    from' bytes k h = elim (cases_name bytes (name_of cells id)) [
      | inl e ↦
          let same = same_Some id k (sym (get-insert_same refilled.part (name_of cells id) id) ∙ ap (get part') (sym e) ∙ h) in
          (new_named k ∙ ap (name_of cells) (sym same) ∙ sym e, ap (holds (take (i + 1) ids)) (sym same) ∙ id_done)
      | inr ne ↦
          let old = refilled.from bytes k (sym (get-insert_other refilled.part (name_of cells id) id bytes ne) ∙ h) in
          (new_named k ∙ old.0, still_done k old.1)
    ]

    to' : (k : ℕ) → holds (take (i + 1) ids) k ≡ true → get part' (name_of new k) ≡ Some k
    to' k inside =
        let either = or_cases (holds (take i ids) k) (holds (id ∷ []) k) (sym (holds-append (take i ids) (id ∷ []) k) ∙ ap (λ l. holds l k) (sym more-is) ∙ inside) in
        elim either [
          | inl before ↦
              let old = refilled.to k before in
              ap (get part') (new_named k)
              ∙ get-insert_other refilled.part (name_of cells id) id (name_of cells k) (λ e. not_None (get refilled.part (name_of cells id)) k is_new (ap (get refilled.part) (sym e) ∙ old))
              ∙ old
          | inr here ↦
              let same = eqb-true id k (only k here) in
              ap (get part') (new_named k ∙ ap (name_of cells) (sym same)) ∙ get-insert_same refilled.part (name_of cells id) id ∙ ap Some same
        ]
      where
        only : (k : ℕ) → holds (id ∷ []) k ≡ true → eqb id k ≡ true
        only k h = elim (or_cases (eqb id k) false h) [ inl e ↦ e | inr e ↦ absurd (false≢true e) ]

    pub refilled_more : Refilled (cell new) (name_of new) (chain_of new) heads' (take (i + 1) ids)
    refilled_more =
        let P : ℕ → Type 0 = λ n. Stands (cell new) (name_of new) (chain_of new) (record { heads = heads'; held = n }) part' in
        record {
          part = part';
          stands = subst P added.counted added;
          from = from';
          to = to';
        }
