use Rattle.std.proofs.Common.{arith, refl, eqb-true, eq-eqb}
use Rattle.std.proofs.lemmas.Bool.{false_from_ne_true}
use Rattle.ham_content.specs.Kept.{content}
use Rattle.ham_content.specs.Counted.{at_columns}
use Rattle.ham_content.proofs.Tallies.{tally-few}
use Rattle.ham_content.proofs.Sieving.{sieve_more, sieve_beside_more}
use Rattle.ham_content.proofs.sieve.sit_row.Goals as goal

pub seat_row-requires-clause-fits : goal.seat_row-requires-clause-fits
seat_row-requires-clause-fits c =
    let few = tally-few c.args.facts.now c.args.amounts.now c.args.sieve.now.relation c.args.sieve.now.columns (at_columns c.args.sieve.now.columns c.args.row) in
    let is = c.requires.sieve.tallied (at_columns c.args.sieve.now.columns c.args.row) in
    let small = c.len-few.ensures.small in
    let len = c.len-few.ensures.len in
    omega arith

pub returns-then-sieve-relation-clause-sieve : goal.returns-then-sieve-relation-clause-sieve
returns-then-sieve-relation-clause-sieve c =
    sieve_more (content c.args.facts.now c.args.amounts.now) c.args.relation c.args.row c.args.sieve.now _ refl refl (eq-eqb c.args.sieve.now.relation c.args.relation c.if-sieve-relation.true) c.requires.absent
    c.seat_row.ensures.counts c.seat_row.ensures.listed c.seat_row.ensures.rows c.requires.sieve

pub returns-else-sieve-relation-clause-sieve : goal.returns-else-sieve-relation-clause-sieve
returns-else-sieve-relation-clause-sieve c =
    sieve_beside_more (content c.args.facts.now c.args.amounts.now) c.args.relation c.args.row c.args.sieve.now
    (false_from_ne_true _ (λ e. c.if-sieve-relation.false (eqb-true c.args.sieve.now.relation c.args.relation e))) c.requires.absent c.requires.sieve
