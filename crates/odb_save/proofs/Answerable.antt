-- Loading bytes has an answer: they spell a sound database, or there is a first fault. It is there as in classical logic:
-- not each answer fails to be it.
use Rattle.std.proofs.Common.{◌≡◌, ◌≤◌, ◌<◌, ◌+◌, ◌⊎◌, List, ℕ, zero, suc, Option, Some, None, Result, Ok, Err, get_or, inl, inr, refl, subst, arith, lit≤}
use Rattle.std.proofs.lemmas.Bool.{cases_lt}
use Rattle.odb_base.specs.Kind.{kind_code, kinds}
use Rattle.odb_base.specs.declared.codes.kind.Kind.{Kind}
use Rattle.odb_base.specs.declared.codes.kind.Kind.TheVariants as kind
use Rattle.odb_fields.specs.Bytes.{AreBytes}
use Rattle.library.specs.declared.master.Master.{Master}
use Rattle.tech.specs.Technology.{Technology}
use Rattle.block_store.specs.Block.{Block, slots_in}
use Rattle.block_store.specs.Database.{IsSoundDatabase}
use Rattle.block_tables.specs.Places.{IsFirstFault, IsLeastInKind}
use Rattle.block_tables.specs.Rules.{IsSoundHeader, IsSoundKind, IsSoundRecord, IsSoundTable}
use Rattle.block_tables.proofs.Beyond.{at_zero, past_slots}
use Rattle.odb_base.proofs.KindCodes.{codes_within, same_kind}
use Rattle.block_tables.proofs.KindOrder.{code_of_item}
use Rattle.block_tables.proofs.Parts.{sound_by_parts}
use Rattle.saved_reader.specs.declared.saved.Saved.{Saved}
use Rattle.saved_fields.specs.Fault as read
use Rattle.saved_fields.specs.Fault.{Fault}
use Rattle.saved_reader.specs.Saved.{saved_in}
use Rattle.odb_save.specs.declared.load_fault.LoadFault.TheVariants as load
use Rattle.odb_save.specs.Design.{IsDesign}
use Rattle.odb_save.specs.Loading.{HasAnAnswer, IsLeastUnsound}
use Rattle.odb_save.specs.Spelled.{database_of}
use Rattle.odb_save.proofs.Loads.{loaded}

-- ---- what can't fail to be

abbrev Surely : Type 0 → Type 0
Surely P = ¬ (¬ P)

surely : {P : Type 0} → P → Surely P
surely p none = none p

surely_then : {P Q : Type 0} → Surely P → (P → Surely Q) → Surely Q
surely_then some next none = some (λ p. next p none)

surely_either : (P : Type 0) → Surely (P ⊎ (¬ P))
surely_either P none = none (inr (λ p. none (inl p)))

-- of the first numbers all are so, or there is a first that isn't
record IsFirstNot (Is : ℕ → Type 0) (id : ℕ) : Type 0 where
  this : ¬ (Is id)
  before : (lesser : ℕ) → lesser < id → Is lesser

abbrev FirstNot : (ℕ → Type 0) → Type 0
FirstNot Is = (id : ℕ) × IsFirstNot Is id

first_not : (Is : ℕ → Type 0) (n : ℕ) → Surely (((id : ℕ) → id < n → Is id) ⊎ FirstNot Is)
first_not Is zero = surely (inl (λ id below. absurd (omega (arith, below))))
first_not Is (suc n) = surely_then (first_not Is n) (elim [
  | inr first ↦ surely (inr first)
  | inl all ↦ surely_then (surely_either (Is n)) (elim [
    | inr not ↦ surely (inr (n, record { this = not; before = all }))
    | inl this ↦ surely (inl (one_more Is n all this))
  ])
]) where
  one_more : (Is : ℕ → Type 0) (n : ℕ) → ((id : ℕ) → id < n → Is id) → Is n → (id : ℕ) → id < suc n → Is id
  one_more Is n all this id below = elim (cases_lt id n) [
    | inl before ↦ all id before
    | inr from ↦ let same : n ≡ id = omega (arith, below, from) in subst Is same this
  ]

-- ---- the first place that isn't sound

module _ (tech : Technology) (library : List Master) (cap : ℕ) (b : Block) where
  -- a kind whose table is sound
  of_records : (k : Kind) → IsSoundTable cap b k → (((id : ℕ) → id < slots_in k b + 1 → IsSoundRecord tech library b k id) ⊎ FirstNot (IsSoundRecord tech library b k)) → IsSoundKind tech library cap b k ⊎ ((id : ℕ) × IsFirstFault tech library cap b k id)
  of_records k table (inl all) = inl (record { table = table; records = λ id. records id }) where
    records : (id : ℕ) → IsSoundRecord tech library b k id
    records id = elim (cases_lt id (slots_in k b + 1)) [
      | inl within ↦ all id within
      | inr past ↦ past_slots tech library b k id (omega (arith, past))
    ]
  of_records k table (inr first) = elim (cases_lt 0 first.0) [
    | inl some ↦ inr (
      first.0,
      record {
        table = λ none. absurd (omega (arith, some, none));
        sound_table = λ from. table;
        this = λ from. first.1.this;
        before = first.1.before;
      },
    )
    | inr none ↦ absurd (first.1.this (at_zero tech library b k first.0 none))
  ]

  of_table : (k : Kind) → (IsSoundTable cap b k ⊎ (¬ (IsSoundTable cap b k))) → Surely (IsSoundKind tech library cap b k ⊎ ((id : ℕ) × IsFirstFault tech library cap b k id))
  of_table k (inl table) = surely_then (first_not (IsSoundRecord tech library b k) (slots_in k b + 1)) (λ found. surely (of_records k table found))
  of_table k (inr not) = surely (inr (
    0,
    record {
      table = λ none. not;
      sound_table = λ from. absurd (omega (arith, from));
      this = λ from. absurd (omega (arith, from));
      before = λ lesser below. absurd (omega (arith, below));
    },
  ))

  -- a kind is sound, or has a first place that isn't
  kind_judged : (k : Kind) → Surely (IsSoundKind tech library cap b k ⊎ ((id : ℕ) × IsFirstFault tech library cap b k id))
  kind_judged k = surely_then (surely_either (IsSoundTable cap b k)) (of_table k)

  abbrev Least : Type 0
  Least = (k : Kind) × (id : ℕ) × IsLeastInKind tech library cap b k id

  abbrev SoundUpTo : ℕ → Type 0
  SoundUpTo n = (k : Kind) → kind_code k ≤ n → IsSoundKind tech library cap b k

  codes_from : (k : Kind) → 1 ≤ kind_code k
  codes_from kind.Inst = lit≤ tt
  codes_from k = lit≤ tt

  -- a kind after those that are sound
  next_kind : (n : ℕ) (k : Kind) → kind_code k ≡ n + 1 → IsSoundHeader tech library b → SoundUpTo n → (IsSoundKind tech library cap b k ⊎ ((id : ℕ) × IsFirstFault tech library cap b k id)) → SoundUpTo (suc n) ⊎ Least
  next_kind n k code header sound (inr first) = inr (
    k,
    first.0,
    record {
      header = header;
      lesser = λ other before. sound other (omega (arith, before, code));
      first = first.1;
    },
  )
  next_kind n k code header sound (inl this) = inl (λ j within. upto j within) where
    upto : SoundUpTo (suc n)
    upto j within = elim (cases_lt (kind_code j) (suc n)) [
      | inl before ↦ sound j (omega (arith, before))
      | inr from ↦ let same : k ≡ j = same_kind k j (omega (arith, within, from, code)) in subst (IsSoundKind tech library cap b) same this
    ]

  kinds_judged : IsSoundHeader tech library b → (n : ℕ) → n ≤ 12 → Surely (SoundUpTo n ⊎ Least)
  kinds_judged header zero within = surely (inl (λ k upto. let from = codes_from k in absurd (omega (arith, from, upto))))
  kinds_judged header (suc n) within = surely_then (kinds_judged header n (omega (arith, within))) (elim [
    | inr least ↦ surely (inr least)
    | inl sound ↦
        let k = get_or kinds n kind.Inst in
        surely_then (kind_judged k) (λ judged. surely (next_kind n k (code_of_item kinds n refl (omega (arith, within))) header sound judged))
  ])

abbrev LeastUnsound : ℕ → Saved → Type 0
LeastUnsound cap s = (k : Option Kind) × (id : ℕ) × IsLeastUnsound cap s k id

module _ (cap : ℕ) (s : Saved) (within : cap ≤ 16777215) (not : ¬ (IsSoundDatabase (database_of cap s))) where
  of_kinds : IsDesign s.tech s.library → IsSoundHeader s.tech s.library s.tables → (SoundUpTo s.tech s.library cap s.tables 12 ⊎ Least s.tech s.library cap s.tables) → LeastUnsound cap s
  of_kinds design header (inr least) = (Some least.0, least.1, (design, least.2))
  of_kinds design header (inl sound) = absurd (not (record {
    tech = design.tech;
    library = design.library;
    block = (sound_by_parts s.tech s.library cap s.tables).1 (record { header = header; kinds = λ k. sound k (codes_within k) });
    capped = within;
  }))

  of_header : IsDesign s.tech s.library → (IsSoundHeader s.tech s.library s.tables ⊎ (¬ (IsSoundHeader s.tech s.library s.tables))) → Surely (LeastUnsound cap s)
  of_header design (inl header) = surely_then (kinds_judged s.tech s.library cap s.tables header 12 (omega arith)) (λ judged. surely (of_kinds design header judged))
  of_header design (inr fault) = surely (None, 0, (refl, λ x. fault x.header))

  of_design : (IsDesign s.tech s.library ⊎ (¬ (IsDesign s.tech s.library))) → Surely (LeastUnsound cap s)
  of_design (inl design) = surely_then (surely_either (IsSoundHeader s.tech s.library s.tables)) (of_header design)
  of_design (inr fault) = surely (None, 0, (refl, λ x. fault x.design))

  -- what isn't sound has a least place
  least_unsound : Surely (LeastUnsound cap s)
  least_unsound = surely_then (surely_either (IsDesign s.tech s.library)) of_design

-- ---- answers

module _ (cap : ℕ) (bytes : List ℕ) (within : cap ≤ 16777215) (are : AreBytes bytes) where
  of_saved : (s : Saved) → saved_in cap bytes ≡ Ok s → (IsSoundDatabase (database_of cap s) ⊎ (¬ (IsSoundDatabase (database_of cap s)))) → HasAnAnswer cap bytes
  of_saved s spelled (inl sound) none = none (Ok (database_of cap s)) (loaded cap bytes s are spelled sound)
  of_saved s spelled (inr not) none =
      least_unsound cap s within not (λ least. none (Err (load.Unsound least.0 least.1)) (record { saved = s; read = spelled; place = record { unsound = not; least = least.2 } }))

  of_read : (read : Result Saved Fault) → saved_in cap bytes ≡ read → HasAnAnswer cap bytes
  of_read (Ok s) spelled none = surely_either (IsSoundDatabase (database_of cap s)) (λ judged. of_saved s spelled judged none)
  of_read (Err read.NotSaved) spelled none = none (Err load.NotSaved) spelled
  of_read (Err (read.Version got)) spelled none = none (Err (load.Version got)) spelled
  of_read (Err (read.Cut at)) spelled none = none (Err (load.Cut at)) spelled
  of_read (Err (read.BadField at)) spelled none = none (Err (load.BadField at)) spelled
  of_read (Err (read.OverCap k)) spelled none = none (Err (load.OverCap k)) spelled
  of_read (Err (read.Trailing at)) spelled none = none (Err (load.Trailing at)) spelled

  pub has_an_answer : HasAnAnswer cap bytes
  has_an_answer = of_read (saved_in cap bytes) refl
