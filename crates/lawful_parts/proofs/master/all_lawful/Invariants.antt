use Rattle.std.proofs.Common.{◌≡◌, drop}
use Rattle.std.specs.List.{list_all}
use Rattle.lawful_parts.specs.Tests.{is_mterm}
use Rattle.lawful_parts.proofs.master.all_lawful.Given as goal

abbrev pub invariant-loop-terminal : goal.invariant-loop-terminal
invariant-loop-terminal l = list_all (is_mterm l.tech) (drop l.terminal-index l.terminals) ≡ list_all (is_mterm l.tech) l.terminals
