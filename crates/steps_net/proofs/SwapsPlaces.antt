-- Terminals that get new places among those of their instance.
use Rattle.std.proofs.Common.{◌≡◌, ◌≢◌, ◌+◌, ◌<◌, List, [], ◌∷◌, ℕ, zero, suc, Option, Some, None, IsTrue, drop, get_or, length, slice_get, refl, sym, ap, ◌∙◌, arith}
use Rattle.std.specs.Option.{option_map}
use Rattle.std.proofs.lemmas.Option.{slice_get-get_or}
use Rattle.slot_pool.specs.Table.{Table, is_live, record_at}
use Rattle.block_records.specs.declared.iterm.ITermRec.{ITermRec}
use Rattle.block_store.specs.declared.entry.InstEntry.{InstEntry}
use Rattle.block_store.specs.Block.{Block}
use Rattle.block_store.specs.Fields.{master_in, terminals_in}
use Rattle.slot_pool.specs.Mapped.{on_record, on_slot}
use Rattle.block_store.specs.Lists.{list_in}
use Rattle.block_store.specs.Moves.{with_index, with_master, with_terminals}
use Rattle.block_store.specs.Sound.{inst_terms}
use Rattle.block_store.specs.Tables.{IsTable}
use Rattle.block_store.specs.Store.{Store}
use Rattle.block_store.proofs.Joined.{net_shown, none_is, some_is}
use Rattle.slot_pool.proofs.Mapped.{at_on, at_on_other, slots_on, view_on}
use Rattle.block_store.proofs.Shown.{live_on, table_on}
use Rattle.steps_net.specs.Back.{master_of}
use Rattle.steps_net.specs.Do.{swapped, terms_indexed}
use Rattle.steps_net.proofs.InstancesLoops.{with_iterm}
use Rattle.steps_net.proofs.InstancesTerms.{drop_here}

-- the terminal with another place
abbrev pub moved_to : ℕ → ITermRec → ITermRec
moved_to index r = record r { index = index }

-- the table in which the terminals have the places from `index` on
abbrev pub table_indexed : ℕ → List ℕ → Table ITermRec → Table ITermRec
table_indexed index [] t = t
table_indexed index (id ∷ ids) t = table_indexed (index + 1) ids (on_record (moved_to index) id t)

-- only that table changes
pub indexed_is : (index : ℕ) (ids : List ℕ) (b : Block) → terms_indexed index ids b ≡ with_iterm (table_indexed index ids b.iterm) b
indexed_is index [] b = refl
indexed_is index (id ∷ ids) b = indexed_is (index + 1) ids (with_index id index b)

-- the instance and its terminals change apart from each other
pub swapped_is : (inst master : ℕ) (ids : List ℕ) (b : Block) → with_terminals inst ids (with_master inst master (terms_indexed 0 ids b)) ≡ swapped inst master ids b
swapped_is inst master ids b =
    ap (λ c. with_terminals inst ids (with_master inst master c)) (indexed_is 0 ids b) ∙ sym (indexed_is 0 ids (with_terminals inst ids (with_master inst master b)))

-- what an instance shows
pub list_shown : {A : Type 0} (list_of : A → List ℕ) (o : Option A) (ids : List ℕ) → option_map list_of o ≡ Some ids → list_in list_of o ≡ ids
list_shown list_of None ids h = absurd (none_is ids h)
list_shown list_of (Some x) ids h = some_is (list_of x) ids h

pub had_master : (inst master : ℕ) (ids : List ℕ) (b : Block) → master_in inst (terms_indexed 0 ids b) ≡ Some master → master ≡ master_of b inst
had_master inst master ids b h =
    sym (net_shown (λ (e : InstEntry). e.fields.master) (record_at b.inst inst) master (sym (ap (master_in inst) (indexed_is 0 ids b)) ∙ h))

terms_before_by : (inst master : ℕ) (b : Block) (o : Option InstEntry) → record_at b.inst inst ≡ o → terminals_in inst (with_master inst master b) ≡ option_map (λ (e : InstEntry). e.fields.terminals) o
terms_before_by inst master b o is =
    view_on (option_map (λ (e : InstEntry). e.fields.terminals)) (λ e. record e { fields = record e.fields { master = master } }) inst b.inst (λ x found. refl) inst
    ∙ ap (option_map (λ (e : InstEntry). e.fields.terminals)) is

pub had_terms : (inst master : ℕ) (terms ids : List ℕ) (b : Block) → terminals_in inst (with_master inst master (terms_indexed 0 ids b)) ≡ Some terms → terms ≡ inst_terms b inst
had_terms inst master terms ids b h =
    sym (list_shown (λ (e : InstEntry). e.fields.terminals) (record_at b.inst inst) terms
    (sym (terms_before_by inst master b (record_at b.inst inst) refl) ∙ ap (λ c. terminals_in inst (with_master inst master c)) (sym (indexed_is 0 ids b)) ∙ h))

module _ {A : Type 0} where
  free_on_by : (change : A → A) (id : ℕ) (t : Table A) (o : Option A) → (on_slot change id t o).free ≡ t.free
  free_on_by change id t None = refl
  free_on_by change id t (Some x) = refl

  -- a change of a record leaves the free identifiers
  pub free_on : (change : A → A) (id : ℕ) (t : Table A) → (on_record change id t).free ≡ t.free
  free_on change id t = free_on_by change id t (record_at t id)

pub free_indexed : (index : ℕ) (ids : List ℕ) (t : Table ITermRec) → (table_indexed index ids t).free ≡ t.free
free_indexed index [] t = refl
free_indexed index (id ∷ ids) t = free_indexed (index + 1) ids (on_record (moved_to index) id t) ∙ free_on (moved_to index) id t

pub slots_indexed : (index : ℕ) (ids : List ℕ) (t : Table ITermRec) → length (table_indexed index ids t).slots ≡ length t.slots
slots_indexed index [] t = refl
slots_indexed index (id ∷ ids) t = slots_indexed (index + 1) ids (on_record (moved_to index) id t) ∙ slots_on (moved_to index) id t

pub is_table_indexed : (cap index : ℕ) (ids : List ℕ) (t : Table ITermRec) → IsTable cap t → IsTable cap (table_indexed index ids t)
is_table_indexed cap index [] t is = is
is_table_indexed cap index (id ∷ ids) t is = is_table_indexed cap (index + 1) ids (on_record (moved_to index) id t) (table_on cap (moved_to index) id t is)

module _ {R : Type 0} (view : Option ITermRec → R) where
  -- what doesn't show the place stays
  pub view_indexed : ((index : ℕ) (r : ITermRec) → view (Some (moved_to index r)) ≡ view (Some r)) → (index : ℕ) (ids : List ℕ) (t : Table ITermRec) (part : ℕ) → view (record_at (table_indexed index ids t) part) ≡ view (record_at t part)
  view_indexed same index [] t part = refl
  view_indexed same index (id ∷ ids) t part =
      view_indexed same (index + 1) ids (on_record (moved_to index) id t) part ∙ view_on view (moved_to index) id t (λ r found. same index r) part

-- what isn't in the list stays
pub kept_indexed : (index : ℕ) (ids : List ℕ) (t : Table ITermRec) (part : ℕ) → ((j : ℕ) → slice_get ids j ≢ Some part) → record_at (table_indexed index ids t) part ≡ record_at t part
kept_indexed index [] t part none = refl
kept_indexed index (id ∷ ids) t part none =
    kept_indexed (index + 1) ids (on_record (moved_to index) id t) part (λ j. none (suc j))
    ∙ at_on_other (moved_to index) id part t (λ same. none 0 (ap Some (sym same)))

-- no identifier stands twice in the list
abbrev pub IsOnce : List ℕ → Type 0
IsOnce ids = (j k part : ℕ) → slice_get ids j ≡ Some part → slice_get ids k ≡ Some part → j ≡ k

pub tail_once : (id : ℕ) (ids : List ℕ) → IsOnce (id ∷ ids) → IsOnce ids
tail_once id ids once j k part at_j at_k = let same = once (suc j) (suc k) part at_j at_k in omega (arith, same)

pub head_once : (id : ℕ) (ids : List ℕ) → IsOnce (id ∷ ids) → (j : ℕ) → slice_get ids j ≢ Some id
head_once id ids once j at = let same = once 0 (suc j) id refl at in omega (arith, same)

-- what is in the list gets its place
pub set_indexed : (index : ℕ) (ids : List ℕ) (t : Table ITermRec) (j part : ℕ) → IsOnce ids → slice_get ids j ≡ Some part → record_at (table_indexed index ids t) part ≡ option_map (moved_to (index + j)) (record_at t part)
set_indexed index [] t j part once at = absurd (none_is part at)
set_indexed index (id ∷ ids) t zero part once at =
    let same : id ≡ part = some_is id part at in
    let none = head_once id ids once in
    ap (record_at (table_indexed (index + 1) ids (on_record (moved_to index) id t))) (sym same)
    ∙ kept_indexed (index + 1) ids (on_record (moved_to index) id t) id none
    ∙ at_on (moved_to index) id t
    ∙ ap (λ i. option_map (moved_to i) (record_at t id)) (omega arith)
    ∙ ap (λ i. option_map (moved_to (index + 0)) (record_at t i)) same
set_indexed index (id ∷ ids) t (suc j) part once at =
    let other : part ≢ id = λ same. head_once id ids once j (at ∙ ap Some same) in
    set_indexed (index + 1) ids (on_record (moved_to index) id t) j part (tail_once id ids once) at
    ∙ ap (option_map (moved_to (index + 1 + j))) (at_on_other (moved_to index) id part t other)
    ∙ ap (λ i. option_map (moved_to i) (record_at t part)) (omega arith)

-- The loop that writes the places.
pub record IsPlacing (terms : List ℕ) (place : ℕ) (first now : Store) : Type 0 where
  pub rest : terms_indexed place (drop place terms) now.block ≡ terms_indexed 0 terms first.block
  pub live : (k id : ℕ) → slice_get terms k ≡ Some id → IsTrue (is_live now.block.iterm id)
  pub capped : now.cap ≡ first.cap

pub live_place : (terms : List ℕ) (place : ℕ) (first now : Store) → place < length terms → IsPlacing terms place first now → IsTrue (is_live now.block.iterm (get_or terms place 0))
live_place terms place first now within was = was.live place (get_or terms place 0) (slice_get-get_or terms place 0 within)

pub next_placing : (terms : List ℕ) (place : ℕ) (first now next : Store) → place < length terms → IsPlacing terms place first now
    → next.block ≡ with_index (get_or terms place 0) place now.block → next.cap ≡ now.cap → IsPlacing terms (place + 1) first next
next_placing terms place first now next within was is cap = record {
  rest = ap (terms_indexed (place + 1) (drop (place + 1) terms)) is ∙ sym (ap (λ l. terms_indexed place l now.block) (drop_here terms place within)) ∙ was.rest;
  live = λ k id at. rw is (live_on (moved_to place) (get_or terms place 0) now.block.iterm id (was.live k id at));
  capped = cap ∙ was.capped;
}

-- an instance stays where terminals get their places
pub live_after : (inst : ℕ) (terms : List ℕ) (first now : Block) → now ≡ terms_indexed 0 terms first → IsTrue (is_live first.inst inst) → IsTrue (is_live now.inst inst)
live_after inst terms first now is live = rw (is, indexed_is 0 terms first) live
