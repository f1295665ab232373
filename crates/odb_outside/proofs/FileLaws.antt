-- What is read of files after one of them was set.
use Rattle.std.proofs.Common.{◌≡◌, Ordering, Less, Equal, Greater, ℕ, List, [], ◌∷◌, Option, None, Some, refl, sym, ap, ◌∙◌, ◌++◌}
use Rattle.std.specs.Prelude.{unwrap_or}
use Rattle.std.specs.Ordering.{match_ordering, nat_cmp}
use Rattle.std.specs.Cmp.{nat_cmp_is}
use Rattle.std.specs.Cmp.Lexicographic.{slice_cmp}
use Rattle.std.proofs.lemmas.Map.Lookups.{exact_bytes}
use Rattle.std.proofs.lemmas.Option.{none-some}
use Rattle.std.proofs.lemmas.List.{append-nil}
use Rattle.odb_outside.specs.Files.{File, bytes_of, file, file_of, with_file, with_more, without_file}

same-name : (name : List ℕ) → slice_cmp nat_cmp name name ≡ Equal
same-name [] = refl
same-name (x ∷ xs) = rw (sym (nat_cmp_is x x Equal refl)) (same-name xs)

module _ (name bytes : List ℕ) where
  own-first : (files : List File) → file_of name (file name bytes ∷ files) ≡ Some bytes
  own-first files = rw (same-name name) refl

  own-by : (f : File) (files : List File) → file_of name (with_file name bytes files) ≡ Some bytes → (o : Ordering) → slice_cmp nat_cmp name f.name ≡ o
      → file_of name (match_ordering o (file name bytes ∷ f ∷ files) (file name bytes ∷ files) (f ∷ with_file name bytes files)) ≡ Some bytes
  own-by f files rest Less is = own-first (f ∷ files)
  own-by f files rest Equal is = own-first files
  own-by f files rest Greater is = rw is rest

  -- the file that was set has its bytes
  pub own : (files : List File) → file_of name (with_file name bytes files) ≡ Some bytes
  own [] = own-first []
  own (f ∷ files) = own-by f files (own files) (slice_cmp nat_cmp name f.name) refl

  same-by : (f : File) (files : List File) → (file_of name files ≡ Some bytes → with_file name bytes files ≡ files) → (o : Ordering) → slice_cmp nat_cmp name f.name ≡ o
      → match_ordering o None (Some f.bytes) (file_of name files) ≡ Some bytes
      → match_ordering o (file name bytes ∷ f ∷ files) (file name bytes ∷ files) (f ∷ with_file name bytes files) ≡ f ∷ files
  same-by f files rest Less is held = absurd (none-some bytes held)
  same-by f files rest Equal is held =
      ap (λ (n : List ℕ). file n bytes ∷ files) (exact_bytes name f.name is) ∙ ap (λ (o : Option (List ℕ)). file f.name (unwrap_or o f.bytes) ∷ files) (sym held)
  same-by f files rest Greater is held = ap (λ (fs : List File). f ∷ fs) (rest held)

  -- to set a file to the bytes that it has changes nothing
  pub same : (files : List File) → file_of name files ≡ Some bytes → with_file name bytes files ≡ files
  same [] held = absurd (none-some bytes held)
  same (f ∷ files) held = same-by f files (same files) (slice_cmp nat_cmp name f.name) refl held

module _ (name bytes : List ℕ) where
  others-first : (files : List File) → without_file name (file name bytes ∷ files) ≡ files
  others-first files = rw (same-name name) refl

  others-by : (f : File) (files : List File) → without_file name (with_file name bytes files) ≡ without_file name files → (o : Ordering) → slice_cmp nat_cmp name f.name ≡ o
      → without_file name (match_ordering o (file name bytes ∷ f ∷ files) (file name bytes ∷ files) (f ∷ with_file name bytes files)) ≡ match_ordering o (f ∷ files) files (f ∷ without_file name files)
  others-by f files rest Less is = others-first (f ∷ files)
  others-by f files rest Equal is = others-first files
  others-by f files rest Greater is = rw is (ap (λ (fs : List File). f ∷ fs) rest)

  -- no other file changes
  pub others : (files : List File) → without_file name (with_file name bytes files) ≡ without_file name files
  others [] = others-first []
  others (f ∷ files) = others-by f files (others files) (slice_cmp nat_cmp name f.name) refl

-- the file that was set is there
pub own-held : (name bytes : List ℕ) (files : List File) → file_of name (with_file name bytes files) ≡ Some (bytes_of name (with_file name bytes files))
own-held name bytes files =
    own name bytes files ∙ ap (λ (o : Option (List ℕ)). Some (unwrap_or o [])) (sym (own name bytes files))

pub held-after : (name own-name bytes : List ℕ) (files new : List File) → own-name ≡ name → new ≡ with_file name bytes files → file_of own-name new ≡ Some (bytes_of own-name new)
held-after name own-name bytes files new same-names is = rw (same-names, is) (own-held name bytes files)

-- to append nothing changes nothing
pub no-more : (name : List ℕ) (files : List File) → file_of name files ≡ Some (bytes_of name files) → files ≡ with_more name [] files
no-more name files held =
    sym (ap (λ (bytes : List ℕ). with_file name bytes files) (append-nil (bytes_of name files)) ∙ same name (bytes_of name files) files held)

-- what is appended stands behind what the file had
pub more : (name bytes : List ℕ) (files : List File) → bytes_of name (with_more name bytes files) ≡ bytes_of name files ++ bytes
more name bytes files = ap (λ (o : Option (List ℕ)). unwrap_or o []) (own name (bytes_of name files ++ bytes) files)
