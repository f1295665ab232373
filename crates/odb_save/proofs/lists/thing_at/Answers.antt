use Rattle.std.proofs.Common.{◌≡◌, ◌+◌, ◌-◌, ◌<◌, ℕ, zero, suc, List, [], ◌∷◌, None, false, eqb, length, slice_get, refl, sym, ap, ◌∙◌, arith}
use Rattle.std.specs.Option.{option_copied}
use Rattle.std.proofs.lemmas.Bool.Decides.{nat_tests}
use Rattle.named_list.specs.Naming.{at_id}
use Rattle.odb_save.proofs.lists.thing_at.Goals as goal

-- something stands at a place in the list
some_within : {A : Type 0} (things : List A) (place : ℕ) → place < length things → slice_get things place ≡ None → ⊥
some_within [] place within none = omega arith
some_within (x ∷ things) zero within none = cc
some_within (x ∷ things) (suc place) within none = some_within things place (omega arith) none

at_id-place : {A : Type 0} (things : List A) (place : ℕ) → at_id things (place + 1) ≡ slice_get things place
at_id-place things place =
    let some : eqb (place + 1) 0 ≡ false = grind (arith, nat_tests) in
    let back : place + 1 - 1 ≡ place = omega arith in
    rw (some, back) refl

pub unreachable-requires : goal.unreachable-requires
unreachable-requires g c =
    some_within c.args.things.now c.args.place c.requires.within
    (sym (at_id-place c.args.things.now c.args.place) ∙ sym c.get.ensures ∙ ap option_copied c.in-None.is)
