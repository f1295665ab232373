-- The laws of each sort of lists. Each is by computation, whatever the number of sorts; but a sort says for itself
-- that its setters keep entries lawful.
use Rattle.std.proofs.Common.{◌≡◌, ◌≢◌, List, [], ℕ, refl, arith}
use Rattle.odb_base.specs.declared.codes.kind.Kind.TheVariants as kind
use Rattle.block_store.specs.Block.{Block}
use Rattle.block_store.specs.KindLaws.{Parts}
use Rattle.block_store.specs.Kinds.{Entry, on_entry, table_of}
use Rattle.block_store.specs.Lens.{over}
use Rattle.block_store.specs.Lists.{bterm_number, iterm_number}
use Rattle.block_store.specs.Sorts.{BTermsOfNet, ITermsOfNet, Sort, sort}
use Rattle.block_store.specs.View.{laws}
use Rattle.block_store.proofs.Changed.{KeepsName}
use Rattle.block_store.proofs.Held.{AreNumbered}
use Rattle.block_store.proofs.OneTable.{lift}

-- the numbers of two members differ
pub numbers_apart : (s : Sort) → AreNumbered (sort s).number
numbers_apart ITermsOfNet a b apart same = apart (omega arith)
numbers_apart BTermsOfNet a b apart same = apart (omega arith)

pub kinds_apart : (iterm bterm : ℕ) → iterm_number iterm ≢ bterm_number bterm
kinds_apart iterm bterm same = omega arith

-- the list and the name as they are set and shown
pub list_set : (s : Sort) (ids : List ℕ) (x : Entry (sort s).owner) → (sort s).list_seen ((laws (sort s).owner).see ((sort s).list.set ids x)) ≡ ids
list_set ITermsOfNet ids x = refl
list_set s ids x = refl

pub list_get : (s : Sort) (x : Entry (sort s).owner) → (sort s).list_seen ((laws (sort s).owner).see x) ≡ (sort s).list.get x
list_get ITermsOfNet x = refl
list_get s x = refl

pub names_set : (s : Sort) (named : ℕ) (x : Entry (sort s).member) → (sort s).names_seen ((laws (sort s).member).see ((sort s).names.set named x)) ≡ named
names_set ITermsOfNet named x = refl
names_set s named x = refl

pub names_get : (s : Sort) (x : Entry (sort s).member) → (sort s).names_seen ((laws (sort s).member).see x) ≡ (sort s).names.get x
names_get ITermsOfNet x = refl
names_get s x = refl

-- what isn't there has no list and names nothing
pub no_list : (s : Sort) → (sort s).list_seen (laws (sort s).owner).none ≡ []
no_list ITermsOfNet = refl
no_list s = refl

pub no_name : (s : Sort) → (sort s).names_seen (laws (sort s).member).none ≡ 0
no_name ITermsOfNet = refl
no_name s = refl

-- a member's field leaves all lists, and a list leaves what members name
pub list_beside : (s other : Sort) (named : ℕ) (x : Entry (sort other).owner) → (sort other).list_seen ((laws (sort other).owner).see (lift (sort s).member ((sort s).names.set named) (sort other).owner x)) ≡ (sort other).list_seen ((laws (sort other).owner).see x)
list_beside ITermsOfNet ITermsOfNet named x = refl
list_beside ITermsOfNet other named x = refl
list_beside s ITermsOfNet named x = refl
list_beside s other named x = refl

pub names_beside : (s other : Sort) (change : Entry (sort s).owner → Entry (sort s).owner) (x : Entry (sort other).member) → (sort other).names_seen ((laws (sort other).member).see (lift (sort s).owner change (sort other).member x)) ≡ (sort other).names_seen ((laws (sort other).member).see x)
names_beside ITermsOfNet ITermsOfNet change x = refl
names_beside ITermsOfNet other change x = refl
names_beside s ITermsOfNet change x = refl
names_beside s other change x = refl

-- both leave the terminals of instances and their places
pub terminals_beside_list : (s : Sort) (change : List ℕ → List ℕ) (x : Entry kind.Inst) → ((laws kind.Inst).see (lift (sort s).owner (over (sort s).list change) kind.Inst x)).terminals ≡ ((laws kind.Inst).see x).terminals
terminals_beside_list ITermsOfNet change x = refl
terminals_beside_list s change x = refl

pub terminals_beside_name : (s : Sort) (named : ℕ) (x : Entry kind.Inst) → ((laws kind.Inst).see (lift (sort s).member ((sort s).names.set named) kind.Inst x)).terminals ≡ ((laws kind.Inst).see x).terminals
terminals_beside_name ITermsOfNet named x = refl
terminals_beside_name s named x = refl

pub place_beside_list : (s : Sort) (change : List ℕ → List ℕ) (x : Entry kind.ITerm) → ((laws kind.ITerm).see (lift (sort s).owner (over (sort s).list change) kind.ITerm x)).place ≡ ((laws kind.ITerm).see x).place
place_beside_list ITermsOfNet change x = refl
place_beside_list s change x = refl

pub place_beside_name : (s : Sort) (named : ℕ) (x : Entry kind.ITerm) → ((laws kind.ITerm).see (lift (sort s).member ((sort s).names.set named) kind.ITerm x)).place ≡ ((laws kind.ITerm).see x).place
place_beside_name ITermsOfNet named x = refl
place_beside_name s named x = refl

-- both leave the names of objects
pub list_keeps_name : (s : Sort) (change : List ℕ → List ℕ) → KeepsName (laws (sort s).owner).name (over (sort s).list change)
list_keeps_name ITermsOfNet change = λ x. refl
list_keeps_name s change = λ x. refl

pub names_keep_name : (s : Sort) (named : ℕ) → KeepsName (laws (sort s).member).name ((sort s).names.set named)
names_keep_name ITermsOfNet named = tt
names_keep_name BTermsOfNet named = λ x. refl

-- the entries stay lawful
pub lawful_list : (s : Sort) (change : List ℕ → List ℕ) (parts : Parts) (x : Entry (sort s).owner) → (laws (sort s).owner).Is parts x → (laws (sort s).owner).Is parts (over (sort s).list change x)
lawful_list ITermsOfNet change parts x is = record { name = is.name; kept = is.kept; special_kept = is.special_kept; wires = is.wires; props = is.props }
lawful_list BTermsOfNet change parts x is = record { name = is.name; kept = is.kept; special_kept = is.special_kept; wires = is.wires; props = is.props }

pub lawful_names : (s : Sort) (named : ℕ) (parts : Parts) (x : Entry (sort s).member) → (laws (sort s).member).Is parts x → (laws (sort s).member).Is parts ((sort s).names.set named x)
lawful_names ITermsOfNet named parts x is = is
lawful_names BTermsOfNet named parts x is = record { name = is.name; direction = is.direction; kept = is.kept; pins = is.pins }

-- the two tables change one beside the other
pub one_after_other : (s : Sort) (list : Entry (sort s).owner → Entry (sort s).owner) (name : Entry (sort s).member → Entry (sort s).member) (object member : ℕ) (b : Block) →
    on_entry (sort s).owner list object (on_entry (sort s).member name member b) ≡ on_entry (sort s).member name member (on_entry (sort s).owner list object b)
one_after_other ITermsOfNet list name object member b = refl
one_after_other s list name object member b = refl

-- the members' table stands where a list changes
pub member_beside : (s : Sort) (list : Entry (sort s).owner → Entry (sort s).owner) (object : ℕ) (b : Block) → table_of (sort s).member (on_entry (sort s).owner list object b) ≡ table_of (sort s).member b
member_beside ITermsOfNet list object b = refl
member_beside s list object b = refl
