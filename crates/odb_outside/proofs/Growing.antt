-- Bytes that are gained one piece after another.
use Rattle.std.proofs.Common.{◌≡◌, ◌+◌, List, [], ◌++◌, take-add, ℕ, Option, Some, None, length, take, drop, Err, ◌-◌, append-nil, length-drop, arith, ap, sym, ◌∙◌, append_assoc, length-append}
use Rattle.std.proofs.Math.Seq.{take-append-add, take-append_seam, take-length}
use Rattle.std.proofs.lemmas.List.{take-append-drop}
use Rattle.odb_outside.specs.declared.fault.WriteFault.{WriteFault}
use Rattle.odb_outside.specs.declared.fault.WriteFault.TheVariants as fault
use Rattle.odb_outside.specs.Writing.{Grows, GrowsByPrefix, Writes}

-- first some bytes and then others
pub grows_on : (a b c : Option (List ℕ)) (x y : List ℕ) → Grows a b x → Grows b c y → Grows a c (x ++ y)
grows_on None b c x y first then = tt
grows_on (Some old) None c x y first then = absurd first
grows_on (Some old) (Some mid) None x y first then = absurd then
grows_on (Some old) (Some mid) (Some new) x y first then = then ∙ ap (λ l. l ++ y) first ∙ append_assoc old x y

-- first some bytes and then a prefix of others
pub grows_by_prefix_on : (a b c : Option (List ℕ)) (x y : List ℕ) → Grows a b x → GrowsByPrefix b c y → GrowsByPrefix a c (x ++ y)
grows_by_prefix_on None b c x y first then = tt
grows_by_prefix_on (Some old) None c x y first then = absurd first
grows_by_prefix_on (Some old) (Some mid) None x y first then = absurd then.2
grows_by_prefix_on (Some old) (Some mid) (Some new) x y first then = (
  length x + then.0,
  simp length-append (omega (arith, then.1)),
  then.2 ∙ ap (λ l. l ++ take then.0 y) first ∙ append_assoc old x (take then.0 y) ∙ ap (λ l. old ++ l) (sym (take-append-add x y then.0)),
)

-- all the bytes are a prefix of them
pub grows_whole : (a b : Option (List ℕ)) (x y : List ℕ) → Grows a b x → GrowsByPrefix a b (x ++ y)
grows_whole None b x y h = tt
grows_whole (Some old) None x y h = absurd h
grows_whole (Some old) (Some new) x y h =
    (length x, simp length-append (omega arith), h ∙ ap (λ l. old ++ l) (sym (take-append_seam x y)))

-- what a slice from done on passes to a callee
rest-is : (bytes : List ℕ) (done : ℕ) → take (length bytes - done) (drop done bytes) ≡ drop done bytes
rest-is bytes done = ap (λ n. take n (drop done bytes)) (sym (length-drop done bytes)) ∙ take-length (drop done bytes)

-- the front of some bytes was written, and then some of the rest
pub written_on : (a b c : Option (List ℕ)) (bytes : List ℕ) (done n : ℕ) → Grows a b (take done bytes) → Grows b c (take n (take (length bytes - done) (drop done bytes))) → Grows a c (take (done + n) bytes)
written_on a b c bytes done n first then =
    rw take-add (grows_on a b c (take done bytes) (take n (drop done bytes)) first (rw rest-is at then))

-- the front of some bytes was written, and then a write of the rest failed
pub failed_on : (a b c : Option (List ℕ)) (bytes : List ℕ) (done : ℕ) (e : WriteFault) → Grows a b (take done bytes) → Writes b c (Err e) (take (length bytes - done) (drop done bytes)) → GrowsByPrefix a c bytes
failed_on a b c bytes done fault.Failed first then =
    rw take-append-drop at (grows_by_prefix_on a b c (take done bytes) (drop done bytes) first (rw rest-is at then))
failed_on a b c bytes done fault.Memory first then =
    rw take-append-drop at (grows_whole a c (take done bytes) (drop done bytes) (rw append-nil at (grows_on a b c (take done bytes) [] first then)))
