-- A list of identifiers, cut at the place of a member.
use Rattle.std.proofs.Common.{◌≡◌, ◌+◌, ◌∷◌, ◌++◌, List, [], ℕ, zero, suc, take, drop, slice_get, refl, sym, ap, ◌∙◌, add-one}
use Rattle.std.specs.List.{insert, remove}
use Rattle.std.proofs.lemmas.List.{take-append-drop}
use Rattle.odb_base.specs.Ids.{after, first, placed_before, without}
use Rattle.odb_base.proofs.Splits.{after-split, placed_before-split, without-split}
use Rattle.block_store.specs.Places.{IsPlaceOf}

module _ (member : ℕ) (ids : List ℕ) (place : ℕ) where
  -- what stands before the member, the member, and what stands behind it
  cut : IsPlaceOf member ids place → ids ≡ take place ids ++ member ∷ drop (place + 1) ids
  cut h = sym (take-append-drop place ids) ∙ ap (λ l. take place ids ++ l) h.here

  pub after_place : IsPlaceOf member ids place → after ids member ≡ first (drop (place + 1) ids)
  after_place h = ap (λ l. after l member) (cut h) ∙ after-split (take place ids) (drop (place + 1) ids) member h.first

  pub without_place : IsPlaceOf member ids place → without member ids ≡ remove ids place
  without_place h = ap (without member) (cut h) ∙ without-split (take place ids) (drop (place + 1) ids) member h.first ∙ ap (λ n. take place ids ++ drop n ids) (add-one place)

  pub placed_at_place : (id : ℕ) → IsPlaceOf member ids place → placed_before id member ids ≡ insert ids place id
  placed_at_place id h =
      ap (placed_before id member) (cut h) ∙ placed_before-split (take place ids) (drop (place + 1) ids) id member h.first ∙ ap (λ l. take place ids ++ id ∷ l) (sym h.here)

-- the first of what is behind a place
pub first_at : (ids : List ℕ) (place : ℕ) → slice_get ids place ≡ first (drop place ids)
first_at [] zero = refl
first_at [] (suc place) = refl
first_at (x ∷ xs) zero = refl
first_at (x ∷ xs) (suc place) = first_at xs place
