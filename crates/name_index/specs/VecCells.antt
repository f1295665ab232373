-- Names and chains in a vector: the cell of an identifier is the one at its place, counted from 1.
use Rattle.std.specs.Prelude.{Bool, false, List, [], ℕ, zero, suc, length, nat_lt, slice_index_or, slice_set}
use Rattle.std.proofs.Common.{◌≡◌, ◌≢◌, ◌<◌, ◌≤◌, true, ltb, refl, ap, ◌∙◌, arith, length-set, get_or-set_same, get_or-set_other, get_or, set, inl, inr, sym}
use Rattle.std.proofs.lemmas.Bool.{cases_eq, ltb-true, false≢true}
use Rattle.name_index.specs.Index.{Index, Stands, names_in}
use Rattle.name_index.specs.Names.{Names}

-- the name of an identifier, and the next identifier of its chain, 0 for none
abbrev pub Cell : Type 0
Cell = List ℕ × ℕ

-- an empty name, and no next identifier
abbrev pub no_cell : Cell
no_cell = ([], 0)

-- the identifier has a place
abbrev pub cell : List Cell → ℕ → Bool
cell cells zero = false
cell cells (suc place) = nat_lt place (length cells)

-- the cell of an identifier; 0 has no place
abbrev pub cell_at : List Cell → ℕ → Cell
cell_at cells zero = no_cell
cell_at cells (suc place) = slice_index_or cells place no_cell

-- the name of an identifier
abbrev pub name_of : List Cell → ℕ → List ℕ
name_of cells id = (cell_at cells id).0

-- the next identifier of an identifier's chain, 0 for none
abbrev pub chain_of : List Cell → ℕ → ℕ
chain_of cells id = (cell_at cells id).1

-- the cells with another next identifier for this one; 0 has no place
abbrev pub with_chain : List Cell → ℕ → ℕ → List Cell
with_chain cells zero next = cells
with_chain cells (suc place) next = slice_set cells place ((slice_index_or cells place no_cell).0, next)

-- The laws of cells.

-- where a next identifier is set, the identifiers with a place stay
pub cell-with_chain : (cells : List Cell) (id other next : ℕ) → cell cells id ≡ true
    → cell (with_chain cells id next) other ≡ cell cells other
cell-with_chain cells zero other next is = refl
cell-with_chain cells (suc place) zero next is = refl
cell-with_chain cells (suc place) (suc other) next is =
    ap (λ n. ltb other n) (length-set cells place ((slice_index_or cells place no_cell).0, next))

-- the identifier's place lies within the vector
pub within : (cells : List Cell) (id : ℕ) → cell cells id ≡ true → (0 < id) × (id ≤ length cells)
within cells zero is = absurd (false≢true is)
within cells (suc place) is = (omega arith, omega (arith, ltb-true place (length cells) is))

-- where a next identifier is set, the names stay
pub name_of-with_chain : (cells : List Cell) (id other next : ℕ) → cell cells id ≡ true
    → name_of (with_chain cells id next) other ≡ name_of cells other
name_of-with_chain cells zero other next is = refl
name_of-with_chain cells (suc place) zero next is = refl
name_of-with_chain cells (suc place) (suc other) next is = elim (cases_eq other place) [
  | inl e ↦
      let h : place < length cells = omega (arith, (within cells (suc place) is).1) in
      ap (λ k. (get_or (set cells place ((get_or cells place no_cell).0, next)) k no_cell).0) e
      ∙ ap (λ (c : Cell). c.0) (get_or-set_same cells place ((get_or cells place no_cell).0, next) no_cell h)
      ∙ ap (λ k. (get_or cells k no_cell).0) (sym e)
  | inr ne ↦ ap (λ (c : Cell). c.0) (get_or-set_other cells place other ((get_or cells place no_cell).0, next) no_cell ne)
]

-- the next identifier that is set is that of its identifier then
pub chain_of-set : (cells : List Cell) (id next : ℕ) → cell cells id ≡ true
    → chain_of (with_chain cells id next) id ≡ next
chain_of-set cells zero next is = absurd (false≢true is)
chain_of-set cells (suc place) next is =
    let h : place < length cells = omega (arith, (within cells (suc place) is).1) in
    ap (λ (c : Cell). c.1) (get_or-set_same cells place ((get_or cells place no_cell).0, next) no_cell h)

-- where a next identifier is set, those of other identifiers stay
pub chain_of-others : (cells : List Cell) (id other next : ℕ) → cell cells id ≡ true → other ≢ id
    → chain_of (with_chain cells id next) other ≡ chain_of cells other
chain_of-others cells zero other next is ne = refl
chain_of-others cells (suc place) zero next is ne = refl
chain_of-others cells (suc place) (suc other) next is ne =
    ap (λ (c : Cell). c.1)
    (get_or-set_other cells place other ((get_or cells place no_cell).0, next) no_cell (λ e. ne (ap suc e)))

-- the map that an index has over the cells
abbrev pub held_names : List Cell → Index → Names
held_names cells index = names_in (name_of cells) (chain_of cells) index

-- the index stands for some map
abbrev pub IsIndex : List Cell → Index → Type 0
IsIndex cells index = Stands (cell cells) (name_of cells) (chain_of cells) index (held_names cells index)
