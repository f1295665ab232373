use Rattle.std.proofs.Common.{◌≡◌, drop}
use Rattle.std.specs.List.{list_any}
use Rattle.std.specs.Str.{bytes_eq}
use Rattle.lawful_parts.proofs.master.has_name.Given as goal

abbrev pub invariant-loop-terminal : goal.invariant-loop-terminal
invariant-loop-terminal l =
    list_any (λ other. bytes_eq l.name other.name) (drop l.terminal-index l.terminals) ≡ list_any (λ other. bytes_eq l.name other.name) l.terminals
