-- Files that are entered one after the other, each in its place, stand in order, whatever they were. So what a shelf
-- over memory tells is in order for all values of its fields, and is its files themselves where these are in order.
use Rattle.std.specs.Prelude.{◌≡◌, List, [], ◌∷◌, ℕ, map}
use Rattle.std.specs.Ordering.{match_ordering, nat_cmp, ordering_reverse}
use Rattle.std.specs.List.{AllByRecursion}
use Rattle.std.specs.List.Sorted.{IsStrictlySortedBy, IsStrictlySortedBy-prop}
use Rattle.std.specs.Coded.{Coded, prop_coded}
use Rattle.std.specs.Cmp.Lexicographic.{nat_list_cmp_total, slice_cmp}
use Rattle.std.proofs.Common.{◌∙◌, Ordering, Less, Equal, Greater, ap, refl, sym, subst}
use Rattle.std.proofs.lemmas.Map.Lookups.{exact_bytes}
use Rattle.odb_outside.specs.Files.{AreInOrder, File, file, with_file}
use Rattle.odb_outside.specs.Shelves.{Told}

-- the files, each entered among those behind it
abbrev pub entered : List File → List File
entered [] = []
entered (f ∷ files) = with_file f.name f.bytes (entered files)

abbrev names : List File → List (List ℕ)
names files = map (λ f. f.name) files

-- the name is below all of these
abbrev IsBelow : List ℕ → List (List ℕ) → Type 0
IsBelow name others = AllByRecursion (λ other. slice_cmp nat_cmp name other ≡ Less) others

below_after : (a b : List ℕ) (others : List (List ℕ)) → slice_cmp nat_cmp a b ≡ Less → IsBelow b others → IsBelow a others
below_after a b [] less below = tt
below_after a b (c ∷ others) less below = (nat_list_cmp_total.trans a b c less below.0, below_after a b others less below.1)

module _ (name bytes : List ℕ) where
  below-by : (a : List ℕ) (f : File) (files : List File) → slice_cmp nat_cmp a name ≡ Less → IsBelow a (names (f ∷ files)) → IsBelow a (names (with_file name bytes files)) → (o : Ordering)
      → IsBelow a (names (match_ordering o (file name bytes ∷ f ∷ files) (file name bytes ∷ files) (f ∷ with_file name bytes files)))
  below-by a f files less below rest Less = (less, below)
  below-by a f files less below rest Equal = (less, below.1)
  below-by a f files less below rest Greater = (below.0, rest)

  -- what is below all the files and the name stays so
  below-set : (a : List ℕ) (files : List File) → slice_cmp nat_cmp a name ≡ Less → IsBelow a (names files) → IsBelow a (names (with_file name bytes files))
  below-set a [] less below = (less, tt)
  below-set a (f ∷ files) less below = below-by a f files less below (below-set a files less below.1) (slice_cmp nat_cmp name f.name)

  order-by : (f : File) (files : List File) → AreInOrder (f ∷ files) → AreInOrder (with_file name bytes files) → (o : Ordering) → slice_cmp nat_cmp name f.name ≡ o
      → AreInOrder (match_ordering o (file name bytes ∷ f ∷ files) (file name bytes ∷ files) (f ∷ with_file name bytes files))
  unfolding IsStrictlySortedBy
  order-by f files order rest Less is = ((is, below_after name f.name (names files) is order.0), order)
  order-by f files order rest Equal is = (subst (λ (n : List ℕ). IsBelow n (names files)) (sym (exact_bytes name f.name is)) order.0, order.1)
  order-by f files order rest Greater is = (below-set f.name files (nat_list_cmp_total.antisymm f.name name ∙ ap ordering_reverse is) order.0, rest)

  -- a file that is set leaves files in order
  pub with_file_in_order : (files : List File) → AreInOrder files → AreInOrder (with_file name bytes files)
  unfolding IsStrictlySortedBy
  with_file_in_order [] order = (tt, tt)
  with_file_in_order (f ∷ files) order = order-by f files order (with_file_in_order files order.1) (slice_cmp nat_cmp name f.name) refl

pub entered_in_order : (files : List File) → AreInOrder (entered files)
unfolding IsStrictlySortedBy
entered_in_order [] = tt
entered_in_order (f ∷ files) = with_file_in_order f.name f.bytes (entered files) (entered_in_order files)

-- that files are in order is no data
abbrev pub order_code : (told : Told) → Coded (AreInOrder told.files)
order_code told = prop_coded (IsStrictlySortedBy-prop _ _)
