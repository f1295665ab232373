use Rattle.std.proofs.Common.{◌≡◌, eq-eqb, count_by, min, ap, ◌∙◌, arith}
use Rattle.std.proofs.lemmas.Bool.{eqb-true}
use Rattle.named_pool.specs.Names.{is_named}
use Rattle.block_tables.specs.Counting.{holders_in}
use Rattle.block_tables.proofs.Aloneness.{alone_if_one, one_if_alone}
use Rattle.block_tables.proofs.names.is_alone.Goals as goal

pub returns-in-Some : goal.returns-in-Some
returns-in-Some g c = λ object at.
    let own = g.T.Named.own_name in
    let same : c.in-Some.object.now ≡ object = cc (c.in-Some.ensures, at) in
    let count : c.of.result ≡ min 2 (count_by (is_named own (own object)) c.args.table.now.slots) = c.of.ensures ∙ ap (λ n. holders_in c.args.holders.now.counts n) (c.bytes.ensures.value ∙ c.name.ensures ∙ ap own same) ∙ c.requires (own object) in (
      (λ t. let one = eqb-true c.of.result 1 t in alone_if_one own c.args.table.now c.args.id object at (omega (arith, one, count))),
      (λ alone. let one = one_if_alone own c.args.table.now c.args.id object at alone in eq-eqb c.of.result 1 (omega (arith, one, count))),
    )
