-- Fields that are set by themselves: no other object sees them. The block stays sound, and setting back what stood
-- leads to it. A further such field is a constructor, its line in `field` and one in `lawful_with`.
use Rattle.std.proofs.Common.{IsTrue, ◌≡◌, Bool, ℕ, Option, refl}
use Rattle.std.specs.Option.{option_map, unwrap_or}
use Rattle.slot_pool.specs.Table.{record_at}
use Rattle.odb_base.specs.Direction.{is_bterm_direction}
use Rattle.odb_base.specs.declared.codes.direction.Direction.{Direction}
use Rattle.odb_base.specs.declared.codes.kind.Kind.{Kind}
use Rattle.odb_base.specs.declared.codes.kind.Kind.TheVariants as kind
use Rattle.odb_base.specs.declared.codes.usage.Usage.{Usage}
use Rattle.odb_base.specs.declared.geometry.Placement.{Placement}
use Rattle.tech.specs.Technology.{Technology}
use Rattle.library.specs.declared.master.Master.{Master}
use Rattle.std.proofs.Common.{List}
use Rattle.block_store.specs.Block.{Block}
use Rattle.block_store.specs.KindLaws.{Parts}
use Rattle.block_store.specs.Kinds.{Entry, on_entry, table_of}
use Rattle.block_store.specs.Lens.{Lens}
use Rattle.block_store.specs.Placements.{IsPlacement}
use Rattle.block_store.specs.Sound.{IsSound}
use Rattle.block_store.specs.View.{laws}
use Rattle.block_store.proofs.Changed.{KeepsName, parts_by, sound_entry}
use Rattle.block_store.proofs.OneTable.{on_entry_back}
use Rattle.block_store.proofs.TableLemmas.{set_back}

pub data Field : Type 0 where
  InstPlace : Field
  PinPlace : Field
  NetUsage : Field
  NetSpecial : Field
  BTermUsage : Field
  BTermDirection : Field

pub record FieldOf : Type 1 where
  pub kind : Kind
  pub Value : Type 0
  pub part : Lens (Entry kind) Value
  -- the value may stand there
  pub Is : Value → Type 0

abbrev pub field : Field → FieldOf
field InstPlace = record { kind = kind.Inst; Value = Placement; part = record { get = λ e. e.fields.place; set = λ v e. record e { fields = record e.fields { place = v } }; set_get = λ v e. refl; get_set = λ e. refl; set_set = λ v w e. refl }; Is = IsPlacement }
field PinPlace = record { kind = kind.Pin; Value = Placement; part = record { get = λ r. r.place; set = λ v r. record r { place = v }; set_get = λ v r. refl; get_set = λ r. refl; set_set = λ v w r. refl }; Is = IsPlacement }
field NetUsage = record { kind = kind.Net; Value = Usage; part = record { get = λ e. e.fields.usage; set = λ v e. record e { fields = record e.fields { usage = v } }; set_get = λ v e. refl; get_set = λ e. refl; set_set = λ v w e. refl }; Is = λ v. Unit {0} }
field NetSpecial = record { kind = kind.Net; Value = Bool; part = record { get = λ e. e.fields.special; set = λ v e. record e { fields = record e.fields { special = v } }; set_get = λ v e. refl; get_set = λ e. refl; set_set = λ v w e. refl }; Is = λ v. Unit {0} }
field BTermUsage = record { kind = kind.BTerm; Value = Usage; part = record { get = λ e. e.fields.usage; set = λ v e. record e { fields = record e.fields { usage = v } }; set_get = λ v e. refl; get_set = λ e. refl; set_set = λ v w e. refl }; Is = λ v. Unit {0} }
field BTermDirection = record { kind = kind.BTerm; Value = Direction; part = record { get = λ e. e.fields.direction; set = λ v e. record e { fields = record e.fields { direction = v } }; set_get = λ v e. refl; get_set = λ e. refl; set_set = λ v w e. refl }; Is = λ d. IsTrue (is_bterm_direction d) }

abbrev pub with_field : (f : Field) → (field f).Value → ℕ → Block → Block
with_field f v id b = on_entry (field f).kind ((field f).part.set v) id b

abbrev pub field_at : (f : Field) → ℕ → Block → Option (field f).Value
field_at f id b = option_map (field f).part.get (record_at (table_of (field f).kind b) id)

not_seen : (f : Field) (v : (field f).Value) (x : Entry (field f).kind) → (laws (field f).kind).see ((field f).part.set v x) ≡ (laws (field f).kind).see x
not_seen InstPlace v x = refl
not_seen f v x = refl

not_named : (f : Field) (v : (field f).Value) → KeepsName (laws (field f).kind).name ((field f).part.set v)
not_named PinPlace v = tt
not_named f v = λ x. refl

lawful_with : (f : Field) (parts : Parts) (v : (field f).Value) → (field f).Is v → (x : Entry (field f).kind) → (laws (field f).kind).Is parts x → (laws (field f).kind).Is parts ((field f).part.set v x)
lawful_with InstPlace parts v new x is = record { name = is.name; place = new; fitted = is.fitted; group = is.group; kept = is.kept; props = is.props }
lawful_with PinPlace parts v new x is = is
lawful_with NetUsage parts v new x is = record { name = is.name; kept = is.kept; special_kept = is.special_kept; wires = is.wires; props = is.props }
lawful_with NetSpecial parts v new x is = record { name = is.name; kept = is.kept; special_kept = is.special_kept; wires = is.wires; props = is.props }
lawful_with BTermUsage parts v new x is = record { name = is.name; direction = is.direction; kept = is.kept; pins = is.pins }
lawful_with BTermDirection parts v new x is = record { name = is.name; direction = new; kept = is.kept; pins = is.pins }

pub sound_field : (tech : Technology) (library : List Master) (cap : ℕ) (d : Block) (f : Field) (v : (field f).Value) (id : ℕ) → (field f).Is v → IsSound tech library cap d → IsSound tech library cap (with_field f v id d)
sound_field tech library cap d f v id new sound =
    sound_entry tech library cap d (field f).kind ((field f).part.set v) id (lawful_with f (parts_by tech library d.header) v new) (not_named f v) (not_seen f v) sound

-- a field of an entry, set back to what it was, or to a first value where there is no object
pub entry_back : {V : Type 0} (k : Kind) (part : Lens (Entry k) V) (id : ℕ) (new first : V) (d : Block) → on_entry k (part.set (unwrap_or (option_map part.get (record_at (table_of k d) id)) first)) id (on_entry k (part.set new) id d) ≡ d
entry_back k part id new first d =
    on_entry_back k _ (part.set new) id d (set_back part.set part.get new first id (table_of k d) part.set_set part.get_set)

pub field_back : (f : Field) (id : ℕ) (new first : (field f).Value) (d : Block) → with_field f (unwrap_or (field_at f id d) first) id (with_field f new id d) ≡ d
field_back f id new first d = entry_back (field f).kind (field f).part id new first d
