-- A walk over the items of a tree.
use Rattle.std.proofs.Common.{◌≡◌, ◌<◌, ◌≤◌, ◌+◌, ◌∙◌, suc, List, ℕ, Result, Ok, Err, add-one, length, get_or, drop, drop-cons, refl, sym, ap}
use Rattle.std.proofs.lemmas.List.{drop_all}
use Rattle.lef_tree.specs.declared.tree.LefItem.{LefItem}
use Rattle.lef_build.specs.declared.fault.BuildFault.{BuildFault}
use Rattle.lef_build.specs.Building.{Build, with_item, with_items}

module _ (b : Build) (items : List LefItem) (i : ℕ) where
  -- the next item is taken,
  pub item_taken : (c : Build) (x : LefItem) → i < length items → x ≡ get_or items i x → with_item b x ≡ Ok c
      → with_items (Ok b) (drop i items) ≡ with_items (Ok c) (drop (i + 1) items)
  item_taken c x within is taken =
      let rest = drop-cons items i x within in
      let here : with_item b (get_or items i x) ≡ Ok c = ap (with_item b) (sym is) ∙ taken in
      rw (add-one, rest) (ap (λ (r : Result Build BuildFault). with_items r (drop (suc i) items)) here)

  -- or it has a fault,
  pub item_fails : (why : BuildFault) (x : LefItem) → i < length items → x ≡ get_or items i x → with_item b x ≡ Err why
      → with_items (Ok b) (drop i items) ≡ Err why
  item_fails why x within is fails =
      let rest = drop-cons items i x within in
      let here : with_item b (get_or items i x) ≡ Err why = ap (with_item b) (sym is) ∙ fails in
      rw rest (ap (λ (r : Result Build BuildFault). with_items r (drop (suc i) items)) here)

  -- or there is none
  pub no_item_left : length items ≤ i → with_items (Ok b) (drop i items) ≡ Ok b
  no_item_left end = rw (drop_all i items end) refl
