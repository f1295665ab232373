-- Laws of the copying machine. That there is an answer is said as in classical logic: not each answer fails to be it.
use Rattle.std.specs.Prelude.{◌≡◌, ◌++◌, List, [], ◌∷◌, ℕ, IfSome, ⊤}
use Rattle.odb_fields.specs.Bytes.{AreBytes}
use Rattle.odb_outside.specs.Files.{File}
use Rattle.block_store.specs.Database.{IsSoundDatabase}
use Rattle.odb_save.specs.Loading.{HasAnAnswer}
use Rattle.odb_run.specs.Answering.{Answered, AreAnswers, IsAnswer, Machine}
use Rattle.odb_run.specs.Machine.{Kept, State}

-- the machine answers lines in one way
abbrev pub IsDetermined : Machine → List (List ℕ) → Type 0
IsDetermined m lines = (a b : List Answered) → AreAnswers m lines a → AreAnswers m lines b → a ≡ b

-- the machine has an answer to the line
abbrev pub HasAnswer : Machine → List ℕ → Type 0
HasAnswer m line = ¬ ((a : Answered) → ¬ (IsAnswer m line a))

-- behind these answers, the machine has answers to further lines
abbrev pub HasMoreAnswers : Machine → List (List ℕ) → List Answered → List (List ℕ) → Type 0
HasMoreAnswers m lines answers others = ¬ ((more : List Answered) → ¬ (AreAnswers m (lines ++ others) (answers ++ more)))

-- ---- machines that are sound

-- the copy that an ECO keeps is sound, with this cap
pub record IsSoundCopy (cap : ℕ) (kept : Kept) : Type 0 where
  pub sound : IsSoundDatabase kept.copy
  pub capped : kept.copy.cap ≡ cap

-- a state is sound with this cap: its database is, and so is the copy that an ECO keeps
pub record IsSoundState (cap : ℕ) (s : State) : Type 0 where
  pub sound : IsSoundDatabase s.database
  pub capped : s.database.cap ≡ cap
  pub copy : IfSome s.eco (IsSoundCopy cap)

-- loading any of these files has an answer
abbrev pub AreLoadable : ℕ → List File → Type 0
AreLoadable cap [] = ⊤
AreLoadable cap (f ∷ files) = HasAnAnswer cap f.bytes × AreLoadable cap files

-- a machine is sound with this cap: its state is, and loading any of its files has an answer
pub record IsSoundMachine (cap : ℕ) (m : Machine) : Type 0 where
  pub state : IsSoundState cap m.state
  pub files : AreLoadable cap m.files

-- these are files of bytes
abbrev pub AreFilesOfBytes : List File → Type 0
AreFilesOfBytes [] = ⊤
AreFilesOfBytes (f ∷ files) = AreBytes f.bytes × AreFilesOfBytes files
