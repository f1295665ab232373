-- The values that may be saved, each by itself: a number within its limits, a text or a list that isn't too long, fields that agree.
use Rattle.std.specs.Prelude.{◌≡◌, ◌<◌, ◌≤◌, ◌^◌, Bool, true, List, ℕ, ℤ, Option, None, Some, FitsSigned, length}
use Rattle.std.specs.Int.{w32}
use Rattle.std.specs.List.{AllByRecursion}
use Rattle.std.specs.Str.{bytes_eq}
use Rattle.odb_base.specs.Geometry.{is_coordinate}
use Rattle.odb_base.specs.declared.codes.orient.Orient.{Orient}
use Rattle.odb_base.specs.declared.codes.place_status.PlaceStatus.{PlaceStatus}
use Rattle.odb_base.specs.declared.geometry.Placement.{Placement}
use Rattle.odb_base.specs.declared.geometry.Rect.{Rect}
use Rattle.slot_pool.specs.Table.{Table}
use Rattle.saved_fields.specs.Fields.{is_between, is_from, is_name}
use Rattle.saved_fields.specs.Parts.{may_be_turned, may_have, may_stand}
use Rattle.saved_fields.specs.Sites.{Sites, may_step, most_sites}

-- an identifier of 32 bits
abbrev pub IsId : ℕ → Type 0
IsId n = n < 2 ^ 32

-- a number from the least to the most, of 32 bits
abbrev pub IsNumber : ℕ → ℕ → ℕ → Type 0
IsNumber least most n = (is_between least most n ≡ true) × (n < 2 ^ 32)

-- a number of at most this, of eight bits
abbrev pub IsSmall : ℕ → ℕ → Type 0
IsSmall most n = (is_between 0 most n ≡ true) × (n < 2 ^ 8)

-- a distance that passes, of 32 bits
abbrev pub IsDistance : (ℤ → Bool) → ℤ → Type 0
IsDistance passes z = (passes z ≡ true) × FitsSigned w32 z

-- a text with so many bytes, from the least to the most
abbrev pub IsText : ℕ → ℕ → List ℕ → Type 0
IsText least most bytes = IsNumber least most (length bytes) × Unit {0}

-- a name, as a text
abbrev pub IsNameText : List ℕ → Type 0
IsNameText bytes = (is_name bytes ≡ true) × IsText 1 4095 bytes

-- just this text
abbrev pub IsWord : List ℕ → List ℕ → Type 0
IsWord word bytes = (bytes_eq word bytes ≡ true) × IsText (length word) (length word) bytes

-- a list of at most so many items that fit
abbrev pub IsList : {A : Type 0} → ℕ → (A → Type 0) → List A → Type 0
IsList most Fits xs = IsNumber 0 most (length xs) × AllByRecursion Fits xs

-- such a list of at least one item
abbrev pub IsFilledList : {A : Type 0} → ℕ → (A → Type 0) → List A → Type 0
IsFilledList most Fits xs = IsNumber 1 most (length xs) × AllByRecursion Fits xs

-- where there is a value, it fits
abbrev pub IsOption : {A : Type 0} → (A → Type 0) → Option A → Type 0
IsOption Fits None = Unit {0}
IsOption Fits (Some x) = Fits x

-- an orientation of what has this status
abbrev pub IsTurn : PlaceStatus → Orient → Type 0
IsTurn placed o = (may_be_turned placed o ≡ true) × Unit {0}

abbrev pub IsPlacementFields : Placement → Type 0
IsPlacementFields p = ((Unit {0} × IsDistance (may_stand p.status) p.x) × IsDistance (may_stand p.status) p.y) × IsTurn p.status p.orientation

abbrev pub IsRectFields : Rect → Type 0
IsRectFields r = ((IsDistance is_coordinate r.xl × IsDistance is_coordinate r.yl) × IsDistance (is_from r.xl) r.xh) × IsDistance (is_from r.yl) r.yh

-- a number that names a terminal
abbrev pub IsTerm : ℕ → Type 0
IsTerm n = (1 ≤ n) × (n < 2 ^ 32)

abbrev pub IsSites : Sites → Type 0
IsSites t =
    (((Unit {0} × IsNumber 1 (most_sites t.0.0.0.0) t.0.0.0.1) × IsNumber 1 (most_sites t.0.0.0.0) t.0.0.1)
    × IsDistance (may_step t.0.0.0.0) t.0.1) × IsDistance (may_step t.0.0.0.0) t.1

-- a number of slots within the cap
abbrev pub IsWithin : ℕ → ℕ → Type 0
IsWithin cap n = (n ≤ cap) × (n < 2 ^ 32)

-- how many slots a table may have
abbrev pub IsSlotCount : Bool → ℕ → ℕ → Type 0
IsSlotCount built cap n = (may_have built n ≡ true) × IsWithin cap n

-- how many free identifiers a table may have
abbrev pub IsFreeCount : Bool → ℕ → Type 0
IsFreeCount built n = (may_have built n ≡ true) × (n < 2 ^ 32)

-- a table whose records fit
abbrev pub IsTableOf : {A : Type 0} → Bool → ℕ → (A → Type 0) → Table A → Type 0
IsTableOf built cap Fits t =
    (IsSlotCount built cap (length t.slots) × AllByRecursion (λ o. Unit {0} × IsOption Fits o) t.slots)
    × (IsFreeCount built (length t.free) × AllByRecursion IsId t.free)
