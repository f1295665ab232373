-- The terminals of a master: what their places and their names say of each other.
use Rattle.std.proofs.Common.{◌≡◌, ℕ, List, [], Option, Some, None, refl, sym, ap, ◌∙◌}
use Rattle.std.specs.Option.{option_map, option_map_or}
use Rattle.named_list.proofs.Naming.{found_is_named, named_is_found}
use Rattle.library.specs.declared.master.Master.{Master}
use Rattle.library.specs.declared.mterm.MTerm.{MTerm}
use Rattle.library.specs.Laws.{FoundTerminalsAreNamed, NamedTerminalsAreFound, TerminalsAreOfMasters}
use Rattle.library.specs.Terminals.{term_index}

pub terminals_are_of_masters : (masters : List Master) → TerminalsAreOfMasters masters
terminals_are_of_masters masters id master at = ap (λ m. option_map_or (λ m. m.terminals) m []) at

-- the terminal whose name stands at a place
named_place : (terminal : Option MTerm) (name : List ℕ) → option_map (λ t. t.name) terminal ≡ Some name → (t : MTerm) × (terminal ≡ Some t) × (t.name ≡ name)
named_place None name h = cc
named_place (Some t) name h = (t, refl, cc)

pub named_terminals_are_found : (master : Master) → NamedTerminalsAreFound master
named_terminals_are_found master place name apart h =
    let t = named_place _ name h in
    ap (term_index master) (sym t.2) ∙ named_is_found (λ (t : MTerm). t.name) master.terminals place t.0 apart t.1

pub found_terminals_are_named : (master : Master) → FoundTerminalsAreNamed master
found_terminals_are_named master name place h =
    let found = found_is_named (λ (t : MTerm). t.name) master.terminals name place h in
    ap (option_map (λ t. t.name)) found.1 ∙ ap Some found.2
