use Rattle.std.proofs.Common.{arith, ap, length}
use Rattle.name_index.proofs.Buckets.{stands_none}
use Rattle.name_index.proofs.index.NameIndex.new.Goals as goal

pub returns-clause-stands : goal.returns-clause-stands
returns-clause-stands c cell name chain =
    stands_none cell name chain c.new.result.items (λ k h. absurd (omega (arith, h, ap length c.new.ensures.items)))
