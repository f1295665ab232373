-- Files in order are the same once they are entered one after the other, and stay in order where one is set.
use Rattle.std.proofs.Common.{◌≡◌, ◌∙◌, List, [], ◌∷◌, ◌++◌, ℕ, Result, Ok, Err, OnErr, OnOk, ap, refl}
use Rattle.std.specs.List.Sorted.{IsStrictlySortedBy}
use Rattle.odb_outside.specs.Files.{AreInOrder, File, bytes_of, with_file, with_more}
use Rattle.odb_outside.specs.Ordered.{entered, with_file_in_order}

first : (f : File) (files : List File) → AreInOrder (f ∷ files) → with_file f.name f.bytes files ≡ f ∷ files
unfolding IsStrictlySortedBy
first f [] order = refl
first f (g ∷ files) order = rw order.0.0 refl

pub entered-is : (files : List File) → AreInOrder files → entered files ≡ files
unfolding IsStrictlySortedBy
entered-is [] order = refl
entered-is (f ∷ files) order = ap (λ (fs : List File). with_file f.name f.bytes fs) (entered-is files order.1) ∙ first f files order

pub none_in_order : (files : List File) → files ≡ [] → AreInOrder files
unfolding IsStrictlySortedBy
none_in_order files none = rw none tt

pub set_in_order : {T E : Type 0} (result : Result T E) (name bytes : List ℕ) (files new : List File) → AreInOrder files → OnOk result (new ≡ with_file name bytes files) → OnErr result (new ≡ files) → AreInOrder new
set_in_order (Ok x) name bytes files new order ok err = rw ok (with_file_in_order name bytes files order)
set_in_order (Err e) name bytes files new order ok err = rw err order

-- what is entered where a file of files in order was set
pub entered_set : (name own bytes : List ℕ) (files new : List File) → AreInOrder files → own ≡ name → new ≡ with_file own bytes files → entered new ≡ with_file name bytes (entered files)
entered_set name own bytes files new order same is =
    rw (entered-is files order, ← same, is) (entered-is (with_file own bytes files) (with_file_in_order own bytes files order))

pub entered_set_ok : {T E : Type 0} (result : Result T E) (name own bytes : List ℕ) (files new : List File) → AreInOrder files → own ≡ name → OnOk result (new ≡ with_file own bytes files) → OnOk result (entered new ≡ with_file name bytes (entered files))
entered_set_ok (Ok x) name own bytes files new order same is = entered_set name own bytes files new order same is
entered_set_ok (Err e) name own bytes files new order same is = tt

-- and where a file of them has more
pub entered_more : (name own piece : List ℕ) (files new : List File) → AreInOrder files → own ≡ name → new ≡ with_more own piece files → entered new ≡ with_more name piece (entered files)
entered_more name own piece files new order same is =
    rw (entered-is files order, ← same, is) (entered-is (with_more own piece files) (with_file_in_order own (bytes_of own files ++ piece) files order))
