-- Lists of objects in objects. In a list of a sort stand just the objects of one kind that name the list's object,
-- each once.
use Rattle.std.proofs.Common.{refl}
use Rattle.std.specs.Prelude.{◌≡◌, ◌==◌, ◌≤◌, List, ℕ}
use Rattle.slot_pool.specs.Table.{once_if, times}
use Rattle.odb_base.specs.declared.codes.kind.Kind.{Kind}
use Rattle.odb_base.specs.declared.codes.kind.Kind.TheVariants as kind
use Rattle.block_store.specs.Block.{Block}
use Rattle.block_store.specs.Kinds.{Entry, on_entry}
use Rattle.block_store.specs.Lens.{Lens, over}
use Rattle.block_store.specs.Lists.{bterm_number, iterm_number}
use Rattle.block_store.specs.View.{View, laws}

pub data Sort : Type 0 where
  -- terminals of instances in the lists of nets
  ITermsOfNet : Sort
  -- terminals of the block in the lists of nets
  BTermsOfNet : Sort

pub record Membership : Type 1 where
  -- whose lists they are, and of which kind the members are
  pub owner : Kind
  pub member : Kind
  -- the number that stands in the list for a member
  pub number : ℕ → ℕ
  -- the list, and the field that names the list's object, 0 for none
  pub list : Lens (Entry owner) (List ℕ)
  pub names : Lens (Entry member) ℕ
  -- both as the objects show them
  pub list_seen : (laws owner).Links → List ℕ
  pub names_seen : (laws member).Links → ℕ

abbrev pub sort : Sort → Membership
sort ITermsOfNet = record {
  owner = kind.Net;
  member = kind.ITerm;
  number = iterm_number;
  list = record { get = λ e. e.terms; set = λ l e. record e { terms = l }; set_get = λ l e. refl; get_set = λ e. refl; set_set = λ new old e. refl };
  names = record { get = λ r. r.net; set = λ n r. record r { net = n }; set_get = λ n r. refl; get_set = λ r. refl; set_set = λ new old r. refl };
  list_seen = λ links. links.terms;
  names_seen = λ links. links.net;
}
sort BTermsOfNet = record {
  owner = kind.Net;
  member = kind.BTerm;
  number = bterm_number;
  list = record { get = λ e. e.terms; set = λ l e. record e { terms = l }; set_get = λ l e. refl; get_set = λ e. refl; set_set = λ new old e. refl };
  names = record { get = λ e. e.fields.net; set = λ n e. record e { fields = record e.fields { net = n } }; set_get = λ n e. refl; get_set = λ e. refl; set_set = λ new old e. refl };
  list_seen = λ links. links.terms;
  names_seen = λ links. links.net;
}

-- the list of an object, and the object that a member names, in a view
abbrev pub list_of : Sort → View → ℕ → List ℕ
list_of s v object = (sort s).list_seen (v (sort s).owner object)

abbrev pub owner_of : Sort → View → ℕ → ℕ
owner_of s v member = (sort s).names_seen (v (sort s).member member)

-- Lists hold just the members that name the object, each once. A list of what isn't an object is empty, and a
-- member that names nothing names 0: so each object that a member names is there and holds it, and each member
-- of a list is there and names the object.
abbrev pub AreHeld : (ℕ → List ℕ) → (ℕ → ℕ) → (ℕ → ℕ) → Type 0
AreHeld list number owner = (object member : ℕ) → 1 ≤ object → times (number member) (list object) ≡ once_if (owner member == object)

-- the lists of a sort hold just the members that name their objects
abbrev pub IsHeld : Sort → View → Type 0
IsHeld s v = AreHeld (list_of s v) (sort s).number (owner_of s v)

-- a member's list changes, and the member names another object, or none
abbrev pub moved : (s : Sort) → (List ℕ → List ℕ) → ℕ → ℕ → ℕ → Block → Block
moved s change object member named b =
    on_entry (sort s).member ((sort s).names.set named) member (on_entry (sort s).owner (over (sort s).list change) object b)
