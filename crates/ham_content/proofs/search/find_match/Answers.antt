use Rattle.std.proofs.Common.{refl, length}
use Rattle.std.proofs.lemmas.Option.{slice_get_read}
use Rattle.ham_steps.specs.Pattern.{matches}
use Rattle.ham_content.proofs.Searching.{match_found}
use Rattle.ham_content.proofs.search.find_match.Goals as goal

pub failing_at-requires-clause-sieve : goal.failing_at-requires-clause-sieve
failing_at-requires-clause-sieve c = c.requires.sieves c.loop-sieve.sieve-index c.sieve-item.result (slice_get_read c.args.sieves.now (length c.args.sieves.now) c.loop-sieve.sieve-index c.sieve-item.result refl c.loop-sieve-test.true c.sieve-item.is)

pub returns-in-Some : goal.returns-in-Some
returns-in-Some c = match_found c.args.facts.now c.args.amounts.now c.sieve-item.result c.args.relation (matches c.args.pattern.now) c.in-Some.key c.failing_at.result c.if-sieve-relation.true c.in-Some.ensures c.failing_at.ensures
