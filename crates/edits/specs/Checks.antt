-- What is asked of the arguments of an edit, one question after another. The first that fails refuses the edit.
use Rattle.std.specs.Prelude.{Bool, List, ℕ, Option, None, Some, Result, Ok, Err, if◌then◌else◌}
use Rattle.odb_base.specs.Name.{name_fault}
use Rattle.odb_base.specs.declared.codes.kind.Kind.{Kind}
use Rattle.odb_base.specs.declared.name.NameFault.{NameFault}
use Rattle.edit_words.specs.declared.refusal.Refusal.{Refusal}
use Rattle.edit_words.specs.declared.refusal.Refusal.TheVariants as refusal
use Rattle.block_store.specs.Block.{Block, live_in}
use Rattle.block_store.specs.Names.{find_in}

-- a question, and then a second one which goes on with what the first gave
infixl 10 ◌>>=◌
abbrev pub ◌>>=◌ : {A B : Type 0} → Result A Refusal → (A → Result B Refusal) → Result B Refusal
(Ok x) >>= next = next x
(Err why) >>= next = Err why

-- it holds, or the edit is refused so
abbrev pub holds_or : Bool → Refusal → Result (Unit {0}) Refusal
holds_or b why = if b then Ok tt else Err why

-- there is something, or the edit is refused so
abbrev pub some_or : {A : Type 0} → Option A → Refusal → Result A Refusal
some_or None why = Err why
some_or (Some x) why = Ok x

-- the identifier has an object of the kind
abbrev pub live : Block → Kind → ℕ → Result (Unit {0}) Refusal
live b k id = holds_or (live_in k id b) (refusal.NotLive k id)

-- the value of the word at this place is in its set and its limit
abbrev pub allowed : Bool → ℕ → Result (Unit {0}) Refusal
allowed b place = holds_or b (refusal.BadValue place)

-- the word at this place has no fault as a name, or it is refused as a bad name
abbrev pub no_fault : Option NameFault → ℕ → Result (Unit {0}) Refusal
no_fault None place = Ok tt
no_fault (Some fault) place = Err (refusal.BadName place)

-- the word at this place is a lawful name
abbrev pub lawful : List ℕ → ℕ → Result (Unit {0}) Refusal
lawful name place = no_fault (name_fault name) place

-- nobody holds a name, or the edit is refused with who holds it
abbrev pub nobody : Option ℕ → Result (Unit {0}) Refusal
nobody None = Ok tt
nobody (Some holder) = Err (refusal.NameTaken holder)

-- no object of the kind has the name
abbrev pub unheld : Block → Kind → List ℕ → Result (Unit {0}) Refusal
unheld b k name = nobody (find_in k name b)

-- the tables allow the new objects, or the edit is refused with the kind whose table doesn't
abbrev pub nothing_lacks : Option Kind → Result (Unit {0}) Refusal
nothing_lacks None = Ok tt
nothing_lacks (Some k) = Err (refusal.TableFull k)
