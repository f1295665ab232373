-- Answers that are exact where memory suffices.
use Rattle.std.specs.Prelude.{◌≡◌, ◌≢◌, Bool, false, IsTrue, List, ℕ, Option, Some, None, Result, Ok, Err}
use Rattle.lef_tree.specs.declared.tree.LefItem.{LefItem}
use Rattle.lef_build.specs.declared.fault.BuildFault.{BuildFault}
use Rattle.lef_build.specs.declared.fault.BuildFault.TheVariants as fault
use Rattle.lef_build.specs.Building.{Build, with_item, with_items}

-- the answer is the wanted one, or there is no memory
abbrev pub IsAnswer : {T : Type 0} → Result T BuildFault → Result T BuildFault → Type 0
IsAnswer wanted (Ok x) = wanted ≡ Ok x
IsAnswer wanted (Err why) = why ≢ fault.Memory → wanted ≡ Err why

-- a question found no fault, or the one that there is
abbrev pub IsAsked : Option BuildFault → Result (Unit {0}) BuildFault → Type 0
IsAsked found (Ok u) = found ≡ None
IsAsked found (Err why) = why ≢ fault.Memory → found ≡ Some why

-- the values of the item of this name are good and give this, or they aren't
abbrev pub IsMade : {T : Type 0} → List ℕ → Bool → T → Result T BuildFault → Type 0
IsMade name good value (Ok x) = IsTrue good × (x ≡ value)
IsMade name good value (Err why) = why ≢ fault.Memory → (good ≡ false) × (why ≡ fault.BadValue name)

-- the item has this part, or it has this fault
abbrev pub IsPart : {T : Type 0} → Option BuildFault → T → Result T BuildFault → Type 0
IsPart found value (Ok x) = (found ≡ None) × (x ≡ value)
IsPart found value (Err why) = why ≢ fault.Memory → found ≡ Some why

-- an item is taken, or its first fault is told
abbrev pub TakesItem : Build → LefItem → Build → Result (Unit {0}) BuildFault → Type 0
TakesItem old i new (Ok u) = with_item old i ≡ Ok new
TakesItem old i new (Err why) = why ≢ fault.Memory → with_item old i ≡ Err why

-- items are taken one after the other, or their first fault is told
abbrev pub TakesItems : Build → List LefItem → Build → Result (Unit {0}) BuildFault → Type 0
TakesItems old items new (Ok u) = with_items (Ok old) items ≡ Ok new
TakesItems old items new (Err why) = why ≢ fault.Memory → with_items (Ok old) items ≡ Err why
