-- What being a name says of the bytes.
use Rattle.std.proofs.Common.{◌≡◌, ◌≤◌, Bool, true, false, cond, List, ℕ, Option, Some, None, length, eqb, ltb, arith}
use Rattle.std.proofs.lemmas.Bool.Decides.{nat_tests}
use Rattle.odb_base.specs.declared.name.NameFault.{NameFault}
use Rattle.odb_base.specs.declared.name.NameFault.TheVariants as fault
use Rattle.odb_base.specs.Name.{IsName, name_fault}

-- where a test would give a fault and there is none, the test failed
test_failed : (b : Bool) (f : NameFault) (rest : Option NameFault) → cond b (Some f) rest ≡ None → (b ≡ false) × (rest ≡ None)
test_failed true f rest e = cc
test_failed false f rest e = (cc, e)

-- a name has at most 4,095 bytes
pub name_is_short : (bytes : List ℕ) → IsName bytes → length bytes ≤ 4095
unfolding name_fault
name_is_short bytes h =
    let some = test_failed (eqb (length bytes) 0) fault.Empty _ h in
    let short = test_failed (ltb 4095 (length bytes)) fault.TooLong _ some.1 in
    grind (arith, nat_tests, short.0)
