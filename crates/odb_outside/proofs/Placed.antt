-- Where a file stands among files, by recursion over them.
use Rattle.std.proofs.Common.{◌≡◌, Ordering, Less, Equal, Greater, ℕ, suc, ◌+◌, List, [], ◌∷◌, Option, Result, Ok, Err, Some, refl, sym, ap, ◌∙◌, arith, subst}
use Rattle.std.specs.Ordering.{match_ordering, nat_cmp}
use Rattle.std.specs.Cmp.Lexicographic.{slice_cmp}
use Rattle.std.specs.Prelude.{unwrap_or}
use Rattle.std.proofs.lemmas.Map.Lookups.{exact_bytes}
use Rattle.odb_outside.specs.Files.{File}
use Rattle.odb_outside.specs.Placing.{IsFound, IsGap, IsPlace, place_in}

-- the place, where the first of the files has place k
abbrev IsPlaceFrom : List ℕ → List File → ℕ → Result ℕ ℕ → Type 0
IsPlaceFrom name files k (Ok at) = (i : ℕ) × (at ≡ k + i) × IsFound name files i
IsPlaceFrom name files k (Err at) = (i : ℕ) × (at ≡ k + i) × IsGap name files i

module _ (name : List ℕ) (f : File) (files : List File) where
  found-here : slice_cmp nat_cmp name f.name ≡ Equal → IsFound name (f ∷ files) 0
  found-here is = record {
    within = omega arith;
    stored = rw is refl;
    named = λ g here. ap (λ (o : Option File). (unwrap_or o f).name) (sym here) ∙ sym (exact_bytes name f.name is);
    holds = λ g here. rw is (ap (λ (o : Option File). Some (unwrap_or o f).bytes) here);
    changed = λ bytes. rw is refl;
  }

  gap-here : slice_cmp nat_cmp name f.name ≡ Less → IsGap name (f ∷ files) 0
  gap-here is = record { within = omega arith; missing = rw is refl; entered = λ bytes. rw is refl }

  found-behind : slice_cmp nat_cmp name f.name ≡ Greater → (i : ℕ) → IsFound name files i → IsFound name (f ∷ files) (suc i)
  found-behind is i found = record {
    within = omega (arith, found.within);
    stored = rw is found.stored;
    named = found.named;
    holds = λ g here. rw is (found.holds g here);
    changed = λ bytes. rw is (ap (λ (fs : List File). f ∷ fs) (found.changed bytes));
  }

  gap-behind : slice_cmp nat_cmp name f.name ≡ Greater → (i : ℕ) → IsGap name files i → IsGap name (f ∷ files) (suc i)
  gap-behind is i gap = record {
    within = omega (arith, gap.within);
    missing = rw is gap.missing;
    entered = λ bytes. rw is (ap (λ (fs : List File). f ∷ fs) (gap.entered bytes));
  }

  behind : slice_cmp nat_cmp name f.name ≡ Greater → (k : ℕ) (r : Result ℕ ℕ) → IsPlaceFrom name files (k + 1) r → IsPlaceFrom name (f ∷ files) k r
  behind is k (Ok at) p = (suc p.0, omega (arith, p.1), found-behind is p.0 p.2)
  behind is k (Err at) p = (suc p.0, omega (arith, p.1), gap-behind is p.0 p.2)

  by-order : (k : ℕ) (r : Result ℕ ℕ) → IsPlaceFrom name files (k + 1) r → (o : Ordering) → slice_cmp nat_cmp name f.name ≡ o → IsPlaceFrom name (f ∷ files) k (match_ordering o (Err k) (Ok k) r)
  by-order k r rest Less is = (0, omega arith, gap-here is)
  by-order k r rest Equal is = (0, omega arith, found-here is)
  by-order k r rest Greater is = behind is k r rest

placed-from : (name : List ℕ) (files : List File) (k : ℕ) → IsPlaceFrom name files k (place_in name files k)
placed-from name [] k = (0, omega arith, record { within = omega arith; missing = refl; entered = λ bytes. refl })
placed-from name (f ∷ files) k = by-order name f files k _ (placed-from name files (k + 1)) (slice_cmp nat_cmp name f.name) refl

from-first : (name : List ℕ) (files : List File) (r : Result ℕ ℕ) → IsPlaceFrom name files 0 r → IsPlace name files r
from-first name files (Ok at) p = subst (λ (i : ℕ). IsFound name files i) (omega (arith, p.1)) p.2
from-first name files (Err at) p = subst (λ (i : ℕ). IsGap name files i) (omega (arith, p.1)) p.2

pub placed : (name : List ℕ) (files : List File) → IsPlace name files (place_in name files 0)
placed name files = from-first name files _ (placed-from name files 0)
