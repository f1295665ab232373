-- What a change of one table leaves of a block: the other tables, the header, and what the objects show.
use Rattle.std.proofs.Common.{◌≡◌, ℕ, IsTrue, refl, sym, ap, ◌∙◌}
use Rattle.std.specs.Option.{option_map_or}
use Rattle.slot_pool.specs.Table.{Table, is_live, record_at}
use Rattle.odb_base.specs.declared.codes.kind.Kind.{Kind}
use Rattle.odb_base.specs.declared.codes.kind.Kind.TheVariants as kind
use Rattle.block_store.specs.Block.{Block, live_in}
use Rattle.block_store.specs.Kinds.{Entry, on_entry, table, table_of, with_table}
use Rattle.slot_pool.specs.Mapped.{on_record}
use Rattle.block_store.specs.View.{laws, view}
use Rattle.slot_pool.proofs.Mapped.{view_on}
use Rattle.block_store.proofs.Shown.{live_on}
use Rattle.block_store.proofs.TableLemmas.{on_same}

-- what holds of one table and of all tables before holds of all tables
pub stays : (P : (k : Kind) → Table (Entry k) → Type 0) (k : Kind) (t : Table (Entry k)) (b : Block) → P k t → ((other : Kind) → P other (table_of other b)) → (other : Kind) → P other (table_of other (with_table k t b))
stays P kind.Inst t b new old kind.Inst = new
stays P kind.ITerm t b new old kind.ITerm = new
stays P kind.Net t b new old kind.Net = new
stays P kind.BTerm t b new old kind.BTerm = new
stays P kind.Pin t b new old kind.Pin = new
stays P kind.Row t b new old kind.Row = new
stays P kind.Track t b new old kind.Track = new
stays P kind.Wire t b new old kind.Wire = new
stays P kind.Blockage t b new old kind.Blockage = new
stays P kind.Region t b new old kind.Region = new
stays P kind.Group t b new old kind.Group = new
stays P kind.Prop t b new old kind.Prop = new
stays P k t b new old other = old other

-- the header stays
pub header_stays : (k : Kind) (t : Table (Entry k)) (b : Block) → (with_table k t b).header ≡ b.header
header_stays kind.Inst t b = refl
header_stays k t b = refl

-- the change of an entry as each kind sees it
abbrev pub lift : (k : Kind) → (Entry k → Entry k) → (other : Kind) → Entry other → Entry other
lift kind.Inst change kind.Inst x = change x
lift kind.ITerm change kind.ITerm x = change x
lift kind.Net change kind.Net x = change x
lift kind.BTerm change kind.BTerm x = change x
lift kind.Pin change kind.Pin x = change x
lift kind.Row change kind.Row x = change x
lift kind.Track change kind.Track x = change x
lift kind.Wire change kind.Wire x = change x
lift kind.Blockage change kind.Blockage x = change x
lift kind.Region change kind.Region x = change x
lift kind.Group change kind.Group x = change x
lift kind.Prop change kind.Prop x = change x
lift k change other x = x

table_on : (k : Kind) (change : Entry k → Entry k) (id : ℕ) (b : Block) (other : Kind) → table_of other (on_entry k change id b) ≡ on_record (lift k change other) id (table_of other b)
table_on kind.Inst change id b kind.Inst = refl
table_on kind.ITerm change id b kind.ITerm = refl
table_on kind.Net change id b kind.Net = refl
table_on kind.BTerm change id b kind.BTerm = refl
table_on kind.Pin change id b kind.Pin = refl
table_on kind.Row change id b kind.Row = refl
table_on kind.Track change id b kind.Track = refl
table_on kind.Wire change id b kind.Wire = refl
table_on kind.Blockage change id b kind.Blockage = refl
table_on kind.Region change id b kind.Region = refl
table_on kind.Group change id b kind.Group = refl
table_on kind.Prop change id b kind.Prop = refl
table_on k change id b other = sym (on_same (lift k change other) id (table_of other b) (λ x found. refl))

-- what an identifier shows, in a table
abbrev pub shown : (k : Kind) → Table (Entry k) → ℕ → (laws k).Links
shown k t id = option_map_or (laws k).see (record_at t id) (laws k).none

-- where the objects of a changed table show what they showed, all objects do
pub view_same : (k : Kind) (t : Table (Entry k)) (b : Block) → ((id : ℕ) → shown k t id ≡ view b k id) → view (with_table k t b) ≡ view b
view_same k t b same = λ i other id. stays (λ other t. (id : ℕ) → shown other t id ≡ view b other id) k t b same (λ other id. refl) other id i

-- what a change of an entry leaves of what objects show
pub seen_on : {R : Type 0} (k : Kind) (change : Entry k → Entry k) (id : ℕ) (b : Block) (other : Kind) (part : (laws other).Links → R) → ((x : Entry other) → part ((laws other).see (lift k change other x)) ≡ part ((laws other).see x)) → (i : ℕ) → part (view (on_entry k change id b) other i) ≡ part (view b other i)
seen_on k change id b other part same i =
    ap (λ t. part (shown other t i)) (table_on k change id b other)
    ∙ view_on (λ o. part (option_map_or (laws other).see o (laws other).none)) (lift k change other) id (table_of other b) (λ x found. same x) i

-- a change taken back
pub on_entry_back : (k : Kind) (later first : Entry k → Entry k) (id : ℕ) (b : Block) → on_record later id (on_record first id (table_of k b)) ≡ table_of k b → on_entry k later id (on_entry k first id b) ≡ b
on_entry_back k later first id b back =
    let c = on_entry k first id b in
    ap (λ t. with_table k (on_record later id t) c) ((table k).set_get (on_record first id (table_of k b)) b)
    ∙ (table k).set_set (on_record later id (on_record first id (table_of k b))) (on_record first id (table_of k b)) b
    ∙ ap (λ t. with_table k t b) back
    ∙ (table k).get_set b

-- who is there, by its table
pub live_is : (k : Kind) (id : ℕ) (b : Block) → live_in k id b ≡ is_live (table_of k b) id
live_is kind.Inst id b = refl
live_is k id b = refl

-- a change of an entry leaves who is there
pub live_stays : (k : Kind) (change : Entry k → Entry k) (id : ℕ) (b : Block) (other : Kind) (i : ℕ) → IsTrue (live_in other i b) → IsTrue (live_in other i (on_entry k change id b))
live_stays k change id b other i live =
    live_is other i (on_entry k change id b)
    ∙ stays (λ other t. IsTrue (live_in other i b) → IsTrue (is_live t i)) k (on_record change id (table_of k b)) b
    (λ live. live_on change id (table_of k b) i (sym (live_is k i b) ∙ live)) (λ other live. sym (live_is other i b) ∙ live) other live
