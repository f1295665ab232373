-- The counts of lawful masters, of vias and of lists of terminals fit 32 bits.
use Rattle.std.proofs.Common.{◌≡◌, ◌-◌, ◌≤◌, Bool, true, false, eqb, List, ℕ, Option, None, Some, is_some, length, refl, arith, inl, inr}
use Rattle.std.specs.Option.{option_map_or}
use Rattle.std.proofs.lemmas.Bool.{cases_Bool}
use Rattle.slot_pool.specs.Table.{Table, once_if, record_at}
use Rattle.slot_pool.proofs.Counts.{live_within}
use Rattle.tech.specs.Technology.{Technology}
use Rattle.tech.specs.declared.via.TechVia.{TechVia}
use Rattle.library.specs.Masters.{master_at}
use Rattle.library.specs.declared.master.Master.{Master}
use Rattle.lawful_parts.specs.Lawful.{IsLibrary, IsMaster, IsTechVia}
use Rattle.block_store.specs.Instances.{term_count}
use Rattle.block_store.proofs.Joined.{none_is, shown_by}
use Rattle.saved_reader.specs.Fits.{FitsMaster, IsShort}

pub once_true : (b : Bool) → 1 ≤ once_if b → b ≡ true
once_true true h = refl
once_true false h = absurd (omega arith)

master_lawful : (t : Technology) (library : List Master) (id : ℕ) (m : Master) → IsLibrary t library → master_at library id ≡ Some m → IsMaster t m
master_lawful t library id m lawful found = elim (cases_Bool (eqb id 0)) [
  | inl none ↦ absurd (none_is m (rw none at found))
  | inr some ↦ lawful.masters (id - 1) m (rw some at found)
]

pub few_terminals : (t : Technology) (library : List Master) (id n : ℕ) → IsLibrary t library → term_count library id ≡ Some n → n ≤ 65535
few_terminals t library id n lawful counted =
    let shown = shown_by (λ m. length m.terminals) (master_at library id) n counted in
    let few = (master_lawful t library id shown.value lawful shown.is).few in
    omega (arith, few, shown.shows)

-- ---- terminals of nets

named_live : {A : Type 0} (of : A → ℕ) (o : Option A) → 1 ≤ option_map_or of o 0 → is_some o ≡ true
named_live of None h = absurd (omega arith)
named_live of (Some x) h = refl

-- a terminal that names an object is there
pub named_within : {A : Type 0} (of : A → ℕ) (t : Table A) (id owner : ℕ) → 1 ≤ owner → option_map_or of (record_at t id) 0 ≡ owner → (1 ≤ id) × (id ≤ length t.slots)
named_within of t id owner some named =
    let within = live_within t.slots id (named_live of (record_at t id) (omega arith)) in
    (within.0, within.1)

-- ---- masters and vias

pub master_fits : (t : Technology) (m : Master) → IsMaster t m → FitsMaster m
master_fits t m is = record {
  class = is.class_short;
  foreign = is.foreign_short;
  terminals = omega (arith, is.few);
  shapes = λ place x at. let few = (is.terminals place x at).shapes.few in omega (arith, few);
  obstructions = omega (arith, is.obstructions.few);
}

pub via_fits : (t : Technology) (v : TechVia) → IsTechVia t v → IsShort v.shapes
via_fits t v is = omega (arith, is.shapes.few)
