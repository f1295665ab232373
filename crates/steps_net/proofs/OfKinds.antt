-- What each kind owes to the steps: a new object is tied to nothing, one that is tied to nothing stands in no list and
-- has none, and another name keeps an object lawful.
use Rattle.std.proofs.Common.{◌≡◌, List, [], ℕ, Option, None, Some, refl, sym, ap, ◌∙◌}
use Rattle.odb_base.specs.Name.{IsName}
use Rattle.odb_base.specs.declared.codes.kind.Kind.{Kind}
use Rattle.odb_base.specs.declared.codes.kind.Kind.TheVariants as kind
use Rattle.block_records.specs.Record.{kind_of}
use Rattle.edit_words.specs.Tag.{NewObject, new_object}
use Rattle.edit_words.specs.declared.step.Step.{Step}
use Rattle.edit_words.specs.declared.step.Step.TheVariants as step
use Rattle.tech.specs.Technology.{Technology}
use Rattle.library.specs.declared.master.Master.{Master}
use Rattle.block_store.specs.Alone.{IsApart}
use Rattle.block_store.specs.Block.{Block}
use Rattle.block_store.specs.KindLaws.{Parts}
use Rattle.block_store.specs.Kinds.{Entry}
use Rattle.block_store.specs.Lens.{Lens}
use Rattle.block_store.specs.Moves.{new_bterm, new_group, new_inst, new_net, new_region, new_row}
use Rattle.block_store.specs.Sound.{IsSound}
use Rattle.block_store.specs.View.{laws, view}
use Rattle.block_store.proofs.Changed.{parts_by}
use Rattle.block_store.proofs.Joined.{bterm_outside, bterm_seen, iterm_outside, iterm_seen}
use Rattle.steps_net.specs.Can.{new_entry}
use Rattle.steps_net.proofs.InstancesChanged.{in_no_members}

-- a new object is tied to nothing
abbrev pub IsUntied : Option NewObject → Type 0
IsUntied None = ◌≡◌ {A = Unit {0}} tt tt
IsUntied (Some new) = (laws (kind_of new.object)).see (new_entry new.object) ≡ (laws (kind_of new.object)).none

pub untied : (s : Step) → IsUntied (new_object s)
untied (step.NewNet id name) = refl
untied s = refl

-- the entry with empty lists
abbrev pub bare_entry : (k : Kind) → Entry k → Entry k
bare_entry kind.Inst e = new_inst e.fields
bare_entry kind.Net e = new_net e.fields
bare_entry kind.BTerm e = new_bterm e.fields
bare_entry kind.Row e = new_row e.fields
bare_entry kind.Region e = new_region e.fields
bare_entry kind.Group e = new_group e.fields
bare_entry k e = e

-- a lawful object that is tied to nothing has empty lists
pub is_bare : (k : Kind) (parts : Parts) (e : Entry k) → (laws k).Is parts e → (laws k).see e ≡ (laws k).none → bare_entry k e ≡ e
is_bare kind.Inst parts e is none = ap (λ l. record e { props = l }) (sym is.props)
is_bare kind.Net parts e is none =
    ap (λ l. record e { terms = l; wires = []; props = [] }) (sym (ap (λ links. links.terms) none))
    ∙ ap (λ l. record e { wires = l; props = [] }) (sym is.wires)
    ∙ ap (λ l. record e { props = l }) (sym is.props)
is_bare kind.BTerm parts e is none = ap (λ l. record e { pins = l }) (sym is.pins)
is_bare kind.Row parts e is none = ap (λ l. record e { props = l }) (sym is.props)
is_bare kind.Region parts e is none = absurd is
is_bare kind.Group parts e is none = absurd is
is_bare k parts e is none = refl

module _ (tech : Technology) (library : List Master) (cap : ℕ) (d : Block) (sound : IsSound tech library cap d) where
  -- an object that is tied to nothing stands in no list
  pub apart : (k : Kind) (id : ℕ) (e : Entry k) → (laws k).Is (parts_by tech library d.header) e → view d k id ≡ (laws k).none → IsApart k id d
  apart kind.Inst id e is none = in_no_members id d (sound.kinds kind.Group).each
  apart kind.ITerm id e is none = iterm_outside tech library cap d sound id (sym (iterm_seen d id) ∙ ap (λ links. links.net) none)
  apart kind.BTerm id e is none = bterm_outside tech library cap d sound id (sym (bterm_seen d id) ∙ ap (λ links. links.net) none)
  apart kind.Net id e is none = tt
  apart kind.Row id e is none = tt
  apart kind.Track id e is none = tt
  apart kind.Blockage id e is none = tt
  apart kind.Region id e is none = tt
  apart k id e is none = absurd is

-- an object is lawful under another name, and tied as before
abbrev pub MayBeNamed : (k : Kind) → Option (Lens (Entry k) (List ℕ)) → Parts → Type 0
MayBeNamed k None parts = Unit {0}
MayBeNamed k (Some lens) parts =
    ((name : List ℕ) → IsName name → (x : Entry k) → (laws k).Is parts x → (laws k).Is parts (lens.set name x))
    × ((name : List ℕ) (x : Entry k) → (laws k).see (lens.set name x) ≡ (laws k).see x)

pub may_be_named : (k : Kind) (parts : Parts) → MayBeNamed k (laws k).name parts
may_be_named kind.Inst parts = (λ name lawful x is. record { name = lawful; place = is.place; fitted = is.fitted; group = is.group; kept = is.kept; props = is.props }, λ name x. refl)
may_be_named kind.Net parts = (λ name lawful x is. record { name = lawful; kept = is.kept; special_kept = is.special_kept; wires = is.wires; props = is.props }, λ name x. refl)
may_be_named kind.BTerm parts = (λ name lawful x is. record { name = lawful; direction = is.direction; kept = is.kept; pins = is.pins }, λ name x. refl)
may_be_named kind.Row parts = (
  λ name lawful x is. let f = is.fields in record {
    fields = record { name = lawful; site_from_one = f.site_from_one; site = f.site; x = f.x; y = f.y; nx = f.nx; ny = f.ny; sx = f.sx; sy = f.sy; repeated = f.repeated };
    props = is.props;
  },
  λ name x. refl,
)
may_be_named kind.Region parts = (λ name lawful x is. is, λ name x. refl)
may_be_named kind.Group parts = (λ name lawful x is. is, λ name x. refl)
may_be_named k parts = tt
