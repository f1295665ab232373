use Rattle.library.proofs.TerminalNames.{found_terminals_are_named, named_terminals_are_found, terminals_are_of_masters}
use Rattle.library.proofs.laws.masters_and_terminals.Goals as goal

pub returns : goal.returns
returns c = record {
  terminals = terminals_are_of_masters;
  named = named_terminals_are_found;
  found = found_terminals_are_named;
}
