use Rattle.std.proofs.Common.{refl, eqb-true, eq-eqb}
use Rattle.std.proofs.lemmas.Bool.{false_from_ne_true}
use Rattle.ham_content.specs.Kept.{content}
use Rattle.ham_content.proofs.Sieving.{sieve_less, sieve_beside_less}
use Rattle.ham_content.proofs.sieve.stand_row.Goals as goal

pub returns-then-sieve-relation-clause-sieve : goal.returns-then-sieve-relation-clause-sieve
returns-then-sieve-relation-clause-sieve c =
    sieve_less (content c.args.facts.now c.args.amounts.now) c.args.relation c.args.row c.args.sieve.now _ refl refl (eq-eqb c.args.sieve.now.relation c.args.relation c.if-sieve-relation.true) c.requires.there
    c.unseat_row.ensures.counts c.unseat_row.ensures.listed c.unseat_row.ensures.rows c.requires.sieve

pub returns-else-sieve-relation-clause-sieve : goal.returns-else-sieve-relation-clause-sieve
returns-else-sieve-relation-clause-sieve c =
    sieve_beside_less (content c.args.facts.now c.args.amounts.now) c.args.relation c.args.row c.args.sieve.now
    (false_from_ne_true _ (λ e. c.if-sieve-relation.false (eqb-true c.args.sieve.now.relation c.args.relation e))) c.requires.there c.requires.sieve
