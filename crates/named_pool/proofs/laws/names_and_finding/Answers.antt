use Rattle.named_pool.proofs.Finding.{found_have_the_name, free_names_are_not_found}
use Rattle.named_pool.proofs.laws.names_and_finding.Goals as goal

pub returns-clause-free : goal.returns-clause-free
returns-clause-free g c name_of t = free_names_are_not_found name_of t

pub returns-clause-found : goal.returns-clause-found
returns-clause-found g c name_of t = found_have_the_name name_of t
