-- To an edit of a sound block at most one refusal applies of a number and a place. So its plan has the first that applies.
use Rattle.std.proofs.Common.{◌≡◌, ◌≢◌, ◌<◌, ◌&&◌, Bool, true, List, [], ◌∷◌, ℕ, zero, suc, Option, None, Some, Ok, Err, length, not, refl, sym, ap, subst, ◌∙◌, inl, inr, arith}
use Rattle.std.specs.Prelude.{◌==◌, Contains, MatchOption, slice_index_or}
use Rattle.std.proofs.lemmas.Bool.{and_parts, eqb-false, not-true}
use Rattle.odb_base.specs.Kind.{kind_code}
use Rattle.odb_base.specs.declared.codes.kind.Kind.{Kind}
use Rattle.odb_base.specs.declared.codes.kind.Kind.TheVariants as kind
use Rattle.library.specs.declared.master.Master.{Master}
use Rattle.tech.specs.Technology.{Technology}
use Rattle.edit_words.specs.declared.edit.Edit.{Edit}
use Rattle.edit_words.specs.declared.edit.Edit.TheVariants as edit
use Rattle.edit_words.specs.declared.refusal.Refusal.{Refusal}
use Rattle.edit_words.specs.declared.refusal.Refusal.TheVariants as refusal
use Rattle.block_store.specs.Block.{Block}
use Rattle.block_store.specs.NameLaws.{AreNamesDistinct}
use Rattle.block_store.specs.Names.{name_in}
use Rattle.block_store.specs.Sound.{IsSound}
use Rattle.block_store.proofs.Joined.{some_is}
use Rattle.edits.specs.Plan.{Planned, plan}
use Rattle.edits.specs.Refusals.{Applies, ComesNoLater, FirstIsPlanned, IsFirst, JoinsJoined, Made, Named, NewName, SwapsDiffering, makes, new_name, objects, refusal_number}
use Rattle.edits.proofs.Plans.{plans_unrefused, refuses_first}

module _ {X : Type 0} (key : X → ℕ) where
  -- no member has this key
  abbrev none_has : ℕ → List X → Bool
  none_has n [] = true
  none_has n (x ∷ xs) = not (n == key x) && none_has n xs

  -- no two members have one key
  abbrev keys_differ : List X → Bool
  keys_differ [] = true
  keys_differ (x ∷ xs) = none_has (key x) xs && keys_differ xs

  other_key : (n : ℕ) (xs : List X) (k : ℕ) (x : X) → none_has n xs ≡ true → k < length xs → slice_index_or xs k x ≡ x → n ≢ key x
  other_key n [] k x none within at same = omega arith
  other_key n (y ∷ ys) zero x none within at same =
      eqb-false n (key y) (not-true (n == key y) (and_parts (not (n == key y)) (none_has n ys) none).0) (same ∙ ap key (sym at))
  other_key n (y ∷ ys) (suc k) x none within at same =
      other_key n ys k x (and_parts (not (n == key y)) (none_has n ys) none).1 (omega arith) at same

  same_at : (xs : List X) (j k : ℕ) (x y : X) → keys_differ xs ≡ true → j < length xs → slice_index_or xs j x ≡ x → k < length xs → slice_index_or xs k y ≡ y → key x ≡ key y → x ≡ y
  same_at [] j k x y differ j_within x_at k_within y_at same = absurd (omega arith)
  same_at (z ∷ zs) zero zero x y differ j_within x_at k_within y_at same = sym x_at ∙ y_at
  same_at (z ∷ zs) zero (suc k) x y differ j_within x_at k_within y_at same =
      absurd (other_key (key z) zs k y (and_parts (none_has (key z) zs) (keys_differ zs) differ).0 (omega arith) y_at (ap key x_at ∙ same))
  same_at (z ∷ zs) (suc j) zero x y differ j_within x_at k_within y_at same =
      absurd (other_key (key z) zs j x (and_parts (none_has (key z) zs) (keys_differ zs) differ).0 (omega arith) x_at (ap key y_at ∙ sym same))
  same_at (z ∷ zs) (suc j) (suc k) x y differ j_within x_at k_within y_at same =
      same_at zs j k x y (and_parts (none_has (key z) zs) (keys_differ zs) differ).1 (omega arith) x_at (omega arith) y_at same

  -- members of one key are the same where keys differ
  same_member : (xs : List X) (x y : X) → keys_differ xs ≡ true → Contains xs x → Contains xs y → key x ≡ key y → x ≡ y
  same_member xs x y differ one other same = same_at xs one.0 other.0 x y differ one.1 one.2 other.1 other.2 same

-- a line names its objects at different places
apart : (e : Edit) → keys_differ (λ (n : Named). n.at) (objects e) ≡ true
apart (edit.NewBTerm name None) = refl
apart (edit.NewBTerm name (Some net)) = refl
apart other = refl

-- the objects that an edit makes are of different kinds
of_kinds : (library : List Master) (e : Edit) → keys_differ (λ (m : Made). kind_code m.kind) (makes library e) ≡ true
of_kinds library (edit.NewInst name master) = refl
of_kinds library other = refl

-- who comes no later than the other and no earlier comes alike
alike_places : (m p n q : ℕ) → ComesNoLater m p n q → ComesNoLater n q m p → (m ≡ n) × (p ≡ q)
alike_places m p n q (inl lower) (inl higher) = absurd (omega arith)
alike_places m p n q (inl lower) (inr same) = absurd (omega (arith, same.0))
alike_places m p n q (inr same) (inl higher) = absurd (omega (arith, same.0))
alike_places m p n q (inr same) (inr back) =
    let place : p ≡ q = omega (arith, same.1, back.1) in
    (same.0, place)

module _ (tech : Technology) (library : List Master) (cap : ℕ) (b : Block) (sound : IsSound tech library cap b) where
  distinct : (k : Kind) → AreNamesDistinct k b
  distinct kind.Inst name one other h same = (sound.kinds kind.Inst).named one other name h same
  distinct kind.Net name one other h same = (sound.kinds kind.Net).named one other name h same
  distinct kind.BTerm name one other h same = (sound.kinds kind.BTerm).named one other name h same
  distinct kind.Row name one other h same = (sound.kinds kind.Row).named one other name h same
  distinct kind.Region name one other h same = (sound.kinds kind.Region).named one other name h same
  distinct kind.Group name one other h same = (sound.kinds kind.Group).named one other name h same
  distinct none name one other h same = cc

  one_holder : (o : Option NewName) (one other : ℕ) → MatchOption o ⊥ (λ new. name_in new.kind one b ≡ Some new.name) → MatchOption o ⊥ (λ new. name_in new.kind other b ≡ Some new.name) → one ≡ other
  one_holder None one other h same = absurd h
  one_holder (Some new) one other h same = distinct new.kind new.name one other h same

  one_net : (e : Edit) (one other : ℕ) → JoinsJoined b e one → JoinsJoined b e other → one ≡ other
  one_net (edit.Join k id net) one other h same = some_is one other (sym h.0 ∙ same.0)
  one_net e one other h same = absurd h

  one_term : (e : Edit) (one other : List ℕ) → SwapsDiffering library b e one → SwapsDiffering library b e other → one ≡ other
  one_term (edit.Swap inst master) one other h same = some_is one other (sym h ∙ same)
  one_term e one other h same = absurd h

  -- of a number and a place one refusal applies
  alone : (e : Edit) (one other : Refusal) (at : ℕ) → Applies tech library cap b e one at → Applies tech library cap b e other at → refusal_number one ≡ refusal_number other → one ≡ other
  alone e (refusal.NotLive k id) (refusal.NotLive k' id') at h same number =
      let named = same_member (λ (n : Named). n.at) (objects e) (record { at = at; kind = k; id = id }) (record { at = at; kind = k'; id = id' }) (apart e) h.0 same.0 refl in
      ap (λ (n : Named). refusal.NotLive n.kind n.id) named
  alone e (refusal.NotLive k id) other at h same number = absurd (omega arith)
  alone e (refusal.BadValue word) (refusal.BadValue word') at h same number = ap (λ w. refusal.BadValue w) (sym h.0 ∙ same.0)
  alone e (refusal.BadValue word) other at h same number = absurd (omega arith)
  alone e (refusal.BadName word) (refusal.BadName word') at h same number = ap (λ w. refusal.BadName w) (sym h.0 ∙ same.0)
  alone e (refusal.BadName word) other at h same number = absurd (omega arith)
  alone e (refusal.Unknown word) (refusal.Unknown word') at h same number = ap (λ w. refusal.Unknown w) (sym h.0 ∙ same.0)
  alone e (refusal.Unknown word) other at h same number = absurd (omega arith)
  alone e (refusal.NameTaken id) (refusal.NameTaken id') at h same number = ap (λ i. refusal.NameTaken i) (one_holder (new_name e) id id' h.1 same.1)
  alone e (refusal.NameTaken id) other at h same number = absurd (omega arith)
  alone e (refusal.Joined net) (refusal.Joined net') at h same number = ap (λ n. refusal.Joined n) (one_net e net net' h.1 same.1)
  alone e (refusal.Joined net) other at h same number = absurd (omega arith)
  alone e refusal.NotJoined refusal.NotJoined at h same number = refl
  alone e refusal.NotJoined other at h same number = absurd (omega arith)
  alone e (refusal.TermsDiffer name) (refusal.TermsDiffer name') at h same number = ap (λ n. refusal.TermsDiffer n) (one_term e name name' h.1 same.1)
  alone e (refusal.TermsDiffer name) other at h same number = absurd (omega arith)
  alone e refusal.Special refusal.Special at h same number = refl
  alone e refusal.Special other at h same number = absurd (omega arith)
  alone e (refusal.TableFull k) (refusal.TableFull k') at h same number =
      let made = same_member (λ (m : Made). kind_code m.kind) (makes library e) (record { kind = k; count = h.1.0 }) (record { kind = k'; count = same.1.0 }) (of_kinds library e) h.1.1 same.1.1 (sym h.0 ∙ same.0) in
      ap (λ (m : Made). refusal.TableFull m.kind) made
  alone e (refusal.TableFull k) other at h same number = absurd (omega arith)
  alone e refusal.Memory other at h same number = absurd h

  -- two that are the first to apply are the same
  one_first : (e : Edit) (one other : Refusal) → IsFirst tech library cap b e one → IsFirst tech library cap b e other → one ≡ other
  one_first e one other first same =
      let places = alike_places (refusal_number one) first.at (refusal_number other) same.at (first.least other same.at same.applies) (same.least one first.at first.applies) in
      alone e one other first.at first.applies (subst (Applies tech library cap b e other) (sym places.1) same.applies) places.0

  planned_by : (e : Edit) (why : Refusal) (planned : Planned) → plan tech library cap b e ≡ planned → IsFirst tech library cap b e why → planned ≡ Err why
  planned_by e why (Ok steps) is first = absurd (plans_unrefused tech library cap b e steps is why first.at first.applies)
  planned_by e why (Err other) is first = ap Err (one_first e other why (refuses_first tech library cap b e other is) first)

  pub first_is_planned : (e : Edit) → FirstIsPlanned tech library cap b e
  first_is_planned e why first = planned_by e why (plan tech library cap b e) refl first
