-- What loading comes to, by what reading gives.
use Rattle.std.proofs.Common.{◌≡◌, List, ℕ, Some, None, Result, Ok, Err, refl, sym, ap, subst, ◌∙◌}
use Rattle.std.specs.Prelude.{IfErr, IfOk, OnOk}
use Rattle.odb_fields.specs.Bytes.{AreBytes}
use Rattle.block_store.specs.Database.{Database, IsSoundDatabase}
use Rattle.block_tables.specs.Causes.{IsRefusal}
use Rattle.block_tables.specs.declared.fault.TablesFault.{TablesFault}
use Rattle.block_tables.specs.declared.fault.TablesFault.TheVariants as tables
use Rattle.saved_reader.specs.declared.saved.Saved.{Saved}
use Rattle.saved_fields.specs.Fault as read
use Rattle.saved_fields.specs.Fault.{Fault}
use Rattle.saved_reader.specs.Saved.{saved_in}
use Rattle.odb_save.specs.declared.load_fault.LoadFault.{LoadFault}
use Rattle.odb_save.specs.declared.load_fault.LoadFault.TheVariants as load
use Rattle.odb_save.specs.Design.{IsDesign}
use Rattle.odb_save.specs.LoadFaults.{of_bytes, of_tables}
use Rattle.odb_save.specs.Loading.{HasLoadCause, HasOneAnswer, IsLoadAnswer, IsLoaded, IsLoadedAs, IsPartFault, IsUnsoundAt, Loads}
use Rattle.odb_save.specs.Save.{content_bytes, save_bytes}
use Rattle.odb_save.specs.Spelled.{database_of, spelled}
use Rattle.odb_save.proofs.LeastPlaces.{one_place}
use Rattle.odb_save.proofs.SoundFields.{saved_fields}
use Rattle.odb_save.proofs.Whole.{bytes_are_read, read_has_bytes}

-- ---- faults

-- a fault of the tables is one of the database
pub part_of_tables : (cap : ℕ) (s : Saved) (fault : TablesFault) → IsDesign s.tech s.library → IsRefusal s.tech s.library cap s.tables fault → IsPartFault cap s (of_tables fault)
part_of_tables cap s (tables.Unsound None id) lawful h = record { unsound = λ d. h.0 d.block; least = (h.1.zero, λ x. h.1.header x.header) }
part_of_tables cap s (tables.Unsound (Some k) id) lawful h = record { unsound = λ d. h.0 d.block; least = (lawful, h.1) }
part_of_tables cap s tables.Memory lawful h = tt

module _ (cap : ℕ) (bytes : List ℕ) where
  answer_of_cause : (fault : LoadFault) → HasLoadCause cap bytes fault → IsLoadAnswer cap bytes (Err fault)
  answer_of_cause load.Memory h = tt
  answer_of_cause fault h = h

  cause_of_part : (s : Saved) → saved_in cap bytes ≡ Ok s → (fault : LoadFault) → IsPartFault cap s fault → HasLoadCause cap bytes fault
  cause_of_part s e (load.Unsound kind id) h = record { saved = s; read = e; place = h }
  cause_of_part s e load.Memory h = tt
  cause_of_part s e fault h = absurd h

  -- ---- answers

  pub loaded : (s : Saved) → AreBytes bytes → saved_in cap bytes ≡ Ok s → IsSoundDatabase (database_of cap s) → IsLoaded cap bytes (database_of cap s)
  unfolding save_bytes content_bytes
  loaded s are e sound = record {
    sound = sound;
    saved = read_has_bytes cap bytes s are e (saved_fields (database_of cap s) sound);
    capped = refl;
  }

  -- what was read was put together
  pub answer_of_parts : (s : Saved) (answer : Result Database LoadFault) → AreBytes bytes → saved_in cap bytes ≡ Ok s
      → OnOk answer (IsSoundDatabase (database_of cap s)) → IfOk answer (λ d. d ≡ database_of cap s) → IfErr answer (λ fault. IsPartFault cap s fault) → IsLoadAnswer cap bytes answer
  answer_of_parts s (Ok d) are e sound is part =
      let P : Database → Type 0 = IsLoaded cap bytes in
      subst P (sym is) (loaded s are e sound)
  answer_of_parts s (Err fault) are e sound is part = answer_of_cause fault (cause_of_part s e fault part)

-- ---- one answer

-- the answer is that of what reading gives
abbrev IsAnswerTo : ℕ → Result Saved Fault → Result Database LoadFault → Type 0
IsAnswerTo cap (Err fault) answer = answer ≡ Err (of_bytes fault)
IsAnswerTo cap (Ok s) (Ok d) = IsSoundDatabase (database_of cap s) × (d ≡ database_of cap s)
IsAnswerTo cap (Ok s) (Err (load.Unsound kind id)) = IsUnsoundAt cap s kind id
IsAnswerTo cap (Ok s) (Err fault) = ⊥

-- what was written is read back
written_is_read : (d : Database) → IsSoundDatabase d → saved_in d.cap (save_bytes d) ≡ Ok (spelled d)
unfolding save_bytes content_bytes
written_is_read d sound = bytes_are_read d.cap (spelled d) (saved_fields d sound)

loaded_is_read : (cap : ℕ) (bytes : List ℕ) (d : Database) → IsLoaded cap bytes d → saved_in cap bytes ≡ Ok (spelled d)
loaded_is_read cap bytes d h =
    ap (λ (n : ℕ). saved_in n bytes) (sym h.capped) ∙ ap (λ (l : List ℕ). saved_in d.cap l) h.saved ∙ written_is_read d h.sound

answer_to : (cap : ℕ) (bytes : List ℕ) (r : Result Saved Fault) (a : Result Database LoadFault) → saved_in cap bytes ≡ r → Loads cap bytes a → IsAnswerTo cap r a
answer_to cap bytes (Ok s) (Ok d) e h =
    let read = loaded_is_read cap bytes d h in
    let same : spelled d ≡ s = cc in
    let is : d ≡ database_of cap s = ap (λ (n : ℕ). database_of n (spelled d)) h.capped ∙ ap (λ (x : Saved). database_of cap x) same in
    (subst IsSoundDatabase is h.sound, is)
answer_to cap bytes (Err f) (Ok d) e h = let read = loaded_is_read cap bytes d h in absurd cc
answer_to cap bytes (Ok s) (Err (load.Unsound kind id)) e h =
    let read = h.read in
    let same : h.saved ≡ s = cc in
    let P : Saved → Type 0 = λ x. IsUnsoundAt cap x kind id in
    subst P same h.place
answer_to cap bytes (Err f) (Err (load.Unsound kind id)) e h = let read = h.read in absurd cc
answer_to cap bytes (Ok s) (Err load.Memory) e h = absurd h
answer_to cap bytes (Err f) (Err load.Memory) e h = absurd h
answer_to cap bytes (Ok s) (Err fault) e h = absurd cc
answer_to cap bytes (Err f) (Err load.NotSaved) e h = let same : read.NotSaved ≡ f = cc in ap (λ (g : Fault). Err (of_bytes g)) same
answer_to cap bytes (Err f) (Err (load.Version got)) e h = let same : read.Version got ≡ f = cc in ap (λ (g : Fault). Err (of_bytes g)) same
answer_to cap bytes (Err f) (Err (load.Cut at)) e h = let same : read.Cut at ≡ f = cc in ap (λ (g : Fault). Err (of_bytes g)) same
answer_to cap bytes (Err f) (Err (load.BadField at)) e h = let same : read.BadField at ≡ f = cc in ap (λ (g : Fault). Err (of_bytes g)) same
answer_to cap bytes (Err f) (Err (load.OverCap kind)) e h = let same : read.OverCap kind ≡ f = cc in ap (λ (g : Fault). Err (of_bytes g)) same
answer_to cap bytes (Err f) (Err (load.Trailing at)) e h = let same : read.Trailing at ≡ f = cc in ap (λ (g : Fault). Err (of_bytes g)) same

-- answers to the same are equal
agree : (cap : ℕ) (r : Result Saved Fault) (a b : Result Database LoadFault) → IsAnswerTo cap r a → IsAnswerTo cap r b → a ≡ b
agree cap (Err f) a b h g = h ∙ sym g
agree cap (Ok s) (Ok d) (Ok e) h g = ap (λ (x : Database). Ok x) (h.1 ∙ sym g.1)
agree cap (Ok s) (Ok d) (Err (load.Unsound kind id)) h g = absurd (g.unsound h.0)
agree cap (Ok s) (Ok d) (Err fault) h g = absurd g
agree cap (Ok s) (Err (load.Unsound j i)) (Ok e) h g = absurd (h.unsound g.0)
agree cap (Ok s) (Err (load.Unsound j i)) (Err (load.Unsound k id)) h g =
    let one = one_place cap s j k i id h.least g.least in
    let kinds = one.0 in
    let ids = one.1 in
    cc
agree cap (Ok s) (Err (load.Unsound j i)) (Err fault) h g = absurd g
agree cap (Ok s) (Err fault) b h g = absurd h

pub one_answer : (cap : ℕ) (bytes : List ℕ) → HasOneAnswer cap bytes
one_answer cap bytes a b h g = agree cap (saved_in cap bytes) a b (answer_to cap bytes (saved_in cap bytes) a refl h) (answer_to cap bytes (saved_in cap bytes) b refl g)

-- ---- what an answer says

module _ (cap : ℕ) (bytes : List ℕ) where
  pub saved_of : (answer : Result Database LoadFault) → IsLoadAnswer cap bytes answer → IfOk answer (λ d. bytes ≡ save_bytes d)
  saved_of (Ok d) h = h.saved
  saved_of (Err fault) h = tt

  pub cap_of : (answer : Result Database LoadFault) → IsLoadAnswer cap bytes answer → IfOk answer (λ d. d.cap ≡ cap)
  cap_of (Ok d) h = h.capped
  cap_of (Err fault) h = tt

  cause : (fault : LoadFault) → IsLoadAnswer cap bytes (Err fault) → HasLoadCause cap bytes fault
  cause load.Memory h = tt
  cause fault h = h

  pub cause_of : (answer : Result Database LoadFault) → IsLoadAnswer cap bytes answer → IfErr answer (λ fault. HasLoadCause cap bytes fault)
  cause_of (Ok d) h = tt
  cause_of (Err fault) h = cause fault h

  no_other : (fault : LoadFault) (d : Database) → IsLoadAnswer cap bytes (Err fault) → IsLoaded cap bytes d → IsLoadedAs d (Err fault)
  no_other load.Memory d h loaded = tt
  no_other fault d h loaded = let same = one_answer cap bytes (Err fault) (Ok d) h loaded in absurd cc

  pub complete : (answer : Result Database LoadFault) → IsLoadAnswer cap bytes answer → (d : Database) → IsSoundDatabase d → d.cap ≡ cap → bytes ≡ save_bytes d → IsLoadedAs d answer
  complete (Ok other) h d sound capped saved = let same = one_answer cap bytes (Ok other) (Ok d) h (record { sound = sound; saved = saved; capped = capped }) in cc
  complete (Err fault) h d sound capped saved = no_other fault d h (record { sound = sound; saved = saved; capped = capped })
