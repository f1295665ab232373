-- A file that is written piece by piece, and one that is read piece by piece.
use Rattle.std.proofs.Common.{◌≡◌, ◌+◌, ◌<◌, ◌≤◌, ℕ, List, [], ◌∷◌, ◌++◌, Ordering, Less, Equal, Greater, Option, None, Some, Ok, Err, refl, sym, ap, ◌∙◌, subst, inl, inr, arith, length, take, drop, append_assoc, append-nil, length-append, length-drop, Vec, Global}
use Rattle.std.specs.Bool.{⊤}
use Rattle.std.specs.Option.{unwrap_or}
use Rattle.std.specs.Ordering.{match_ordering, nat_cmp}
use Rattle.std.specs.Cmp.{nat_cmp_is}
use Rattle.std.specs.Cmp.Lexicographic.{slice_cmp}
use Rattle.std.proofs.Math.Seq.{take-length}
use Rattle.std.proofs.lemmas.List.{drop-take, length-take-le, take-append-drop, take-take}
use Rattle.odb_outside.specs.Files.{File, file, with_file, with_more}
use Rattle.odb_outside.specs.Shelves.{Creates, HasFiles, KeepsFiles, ReadsFile, Told, WritesFile, files_told}
use Rattle.odb_outside.specs.declared.fault.Failed.{Failed}
use Rattle.odb_outside.specs.declared.fault.WriteFault.{WriteFault}
use Rattle.odb_outside.specs.declared.fault.WriteFault.TheVariants as write
use Rattle.odb_outside.proofs.FileLaws.{own}
use Rattle.shelf_files.specs.Whole.{AreNow, IsRestRead, Writes, WritesPart}
use Rattle.shelf_files.specs.declared.reading.FileRead.TheVariants as read

same-name : (name : List ℕ) → slice_cmp nat_cmp name name ≡ Equal
same-name [] = refl
same-name (x ∷ xs) = rw (sym (nat_cmp_is x x Equal refl)) (same-name xs)

module _ (name first then : List ℕ) where
  again-first : (files : List File) → with_file name then (file name first ∷ files) ≡ file name then ∷ files
  again-first files = rw (same-name name) refl

  again-by : (f : File) (files : List File) → with_file name then (with_file name first files) ≡ with_file name then files → (o : Ordering) → slice_cmp nat_cmp name f.name ≡ o
      → with_file name then (match_ordering o (file name first ∷ f ∷ files) (file name first ∷ files) (f ∷ with_file name first files)) ≡ match_ordering o (file name then ∷ f ∷ files) (file name then ∷ files) (f ∷ with_file name then files)
  again-by f files rest Less is = again-first (f ∷ files)
  again-by f files rest Equal is = again-first files
  again-by f files rest Greater is = rw is (ap (λ (fs : List File). f ∷ fs) rest)

  -- of two times that a file is set, the second counts
  again : (files : List File) → with_file name then (with_file name first files) ≡ with_file name then files
  again [] = again-first []
  again (f ∷ files) = again-by f files (again files) (slice_cmp nat_cmp name f.name) refl

-- what is appended to a file that was set
more-of : (name bytes more : List ℕ) (files : List File) → with_more name more (with_file name bytes files) ≡ with_file name (bytes ++ more) files
more-of name bytes more files =
    ap (λ (had : Option (List ℕ)). with_file name (unwrap_or had [] ++ more) (with_file name bytes files)) (own name bytes files)
    ∙ again name bytes (bytes ++ more) files

take-more : (bytes : List ℕ) (done n : ℕ) → take done bytes ++ take n (drop done bytes) ≡ take (done + n) bytes
take-more bytes done n =
    ap (λ (front : List ℕ). front ++ take n (drop done bytes)) (sym (take-take done (done + n) bytes (omega arith)))
    ∙ ap (λ (rest : List ℕ). take done (take (done + n) bytes) ++ rest) (sym (drop-take done n bytes))
    ∙ take-append-drop done (take (done + n) bytes)

-- what the shelf tells where so many bytes of the file were written
abbrev pub begun : Told → List ℕ → List ℕ → ℕ → Told
begun was name bytes done = record { files = with_file name (take done bytes) was.files; name = name; left = [] }

abbrev pub IsUnderWay : Option Told → List ℕ → List ℕ → ℕ → Option Told → Type 0
IsUnderWay None name bytes done now = ⊤
IsUnderWay (Some was) name bytes done now = now ≡ Some (begun was name bytes done)

pub way_first : (old new : Option Told) (name bytes : List ℕ) → Creates old name (Ok tt) new → IsUnderWay old name bytes 0 new
way_first None new name bytes made = tt
way_first (Some was) new name bytes made = made

told-more : (was : Told) (name bytes : List ℕ) (done n : ℕ)
    → record (begun was name bytes done) { files = with_more name (take n (drop done bytes)) (with_file name (take done bytes) was.files) } ≡ begun was name bytes (done + n)
told-more was name bytes done n =
    ap (λ (files : List File). record { files = files; name = name; left = [] })
    (more-of name (take done bytes) (take n (drop done bytes)) was.files ∙ ap (λ (b : List ℕ). with_file name b was.files) (take-more bytes done n))

pub way_on : (old mid new : Option Told) (name bytes : List ℕ) (done n : ℕ) → IsUnderWay old name bytes done mid → WritesFile mid new (Ok n) (drop done bytes) → IsUnderWay old name bytes (done + n) new
way_on None mid new name bytes done n way writes = tt
way_on (Some was) mid new name bytes done n way writes =
    let wrote = rw way at writes in
    wrote ∙ ap Some (told-more was name bytes done n)

now-files : (told : Option Told) (t : Told) → told ≡ Some t → AreNow (files_told told) t.files
now-files told t is = rw is refl

now-same : (was now : Option Told) (files : List File) → KeepsFiles was now → AreNow (files_told was) files → AreNow (files_told now) files
now-same was now files keeps are = rw keeps are

-- a fault of the write leaves a prefix
pub way_failed : (old mid new : Option Told) (name bytes : List ℕ) (done : ℕ) (why : WriteFault) → done ≤ length bytes → IsUnderWay old name bytes done mid → WritesFile mid new (Err why) (drop done bytes) → WritesPart (files_told old) name bytes (files_told new)
way_failed None mid new name bytes done why within way writes = tt
way_failed (Some was) mid new name bytes done write.Failed within way writes =
    let part = rw way at writes in
    inr (record {
      count = done + part.n;
      within = omega (arith, part.within, length-drop done bytes, within);
      files = now-files new _ (part.told ∙ ap Some (told-more was name bytes done part.n));
    })
way_failed (Some was) mid new name bytes done write.Memory within way writes =
    let part = rw way at writes in
    inr (record { count = done; within = within; files = now-files new _ part })

has-now : (new : Option Told) (files : List File) → HasFiles new files → AreNow (files_told new) files
has-now None files has = has
has-now (Some told) files has = has

-- a fault of making the file leaves it empty, or as it was
pub not_made : (old new : Option Told) (name bytes : List ℕ) (why : WriteFault) → Creates old name (Err why) new → WritesPart (files_told old) name bytes (files_told new)
not_made None new name bytes why made = tt
not_made (Some was) new name bytes write.Failed (inl has) = inl (has-now new _ has)
not_made (Some was) new name bytes write.Failed (inr has) = inr (record { count = 0; within = omega arith; files = has-now new _ has })
not_made (Some was) new name bytes write.Memory made = inl (now-files new was made)

-- all bytes are written
pub way_over : (old mid new : Option Told) (name bytes : List ℕ) (done : ℕ) → length bytes ≤ done → done ≤ length bytes → IsUnderWay old name bytes done mid → KeepsFiles mid new → Writes (files_told old) name bytes (files_told new)
way_over None mid new name bytes done over within way keeps = tt
way_over (Some was) mid new name bytes done over within way keeps =
    let all : done ≡ length bytes = omega arith in
    now-same mid new _ keeps (subst (λ (b : List ℕ). AreNow (files_told mid) (with_file name b was.files)) (ap (λ k. take k bytes) all ∙ take-length bytes) (now-files mid _ way))

-- and where putting the file back fails, they are a prefix all the same
pub way_unclosed : (old mid new : Option Told) (name bytes : List ℕ) (done : ℕ) → done ≤ length bytes → IsUnderWay old name bytes done mid → KeepsFiles mid new → WritesPart (files_told old) name bytes (files_told new)
way_unclosed None mid new name bytes done within way keeps = tt
way_unclosed (Some was) mid new name bytes done within way keeps =
    inr (record { count = done; within = within; files = now-same mid new _ keeps (now-files mid _ way) })

-- ---- reading

-- so much was read of what was left, and this is left
abbrev pub IsTaken : Option Told → List ℕ → Option Told → Type 0
IsTaken None bytes now = ⊤
IsTaken (Some was) bytes None = ⊥
IsTaken (Some was) bytes (Some now) = (was.left ≡ bytes ++ now.left) × (now.files ≡ was.files)

pub taken_first : (told : Option Told) → IsTaken told [] told
taken_first None = tt
taken_first (Some told) = (refl, refl)

pub taken_on : (was mid now : Option Told) (bytes piece : List ℕ) (n : ℕ) → IsTaken was bytes mid → ReadsFile {E = Failed} mid now (Ok n) piece → IsTaken was (bytes ++ take n piece) now
taken_on None mid now bytes piece n taken reads = tt
taken_on (Some was) None now bytes piece n taken reads = absurd taken
taken_on (Some was) (Some mid) now bytes piece n taken reads =
    rw reads.told (
      taken.0 ∙ ap (λ (left : List ℕ). bytes ++ left) reads.next.0 ∙ sym (append_assoc bytes (take n piece) reads.left),
      taken.1,
    )

-- nothing is left
pub taken_all : (was mid now : Option Told) (given : Vec ℕ Global) (piece : List ℕ) → IsTaken was given.items mid → ReadsFile {E = Failed} mid now (Ok 0) piece → 0 < length piece → length given.items ≤ 4294967295 → IsRestRead was (read.Bytes given)
taken_all None mid now given piece taken reads some within = tt
taken_all (Some was) None now given piece taken reads some within = absurd taken
taken_all (Some was) (Some mid) now given piece taken reads some within =
    let all : was.left ≡ given.items = taken.0 ∙ ap (λ (left : List ℕ). given.items ++ left) (reads.next.1 some refl) ∙ append-nil given.items in
    (sym all, rw all within)

-- too much was read
pub taken_much : (was mid now : Option Told) (bytes piece : List ℕ) (n : ℕ) → IsTaken was bytes mid → ReadsFile {E = Failed} mid now (Ok n) piece → n ≤ length piece → 4294967295 < length bytes + n → IsRestRead was read.TooLong
taken_much None mid now bytes piece n taken reads within much = tt
taken_much (Some was) None now bytes piece n taken reads within much = absurd taken
taken_much (Some was) (Some mid) now bytes piece n taken reads within much =
    let all = ap length taken.0 in
    let left = ap length reads.next.0 in
    omega (arith, much, within, all, left, length-append bytes mid.left, length-append (take n piece) reads.left, length-take-le n piece within)
