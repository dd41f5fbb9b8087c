use Rattle.std.proofs.Common.{refl, length, ◌∙◌}
use Rattle.std.proofs.lemmas.Option.{slice_get_read}
use Rattle.ham_steps.specs.Pattern.{matches}
use Rattle.ham_content.specs.Kept.{content}
use Rattle.ham_state.specs.Ahead.{is_sound_after}
use Rattle.ham_state.proofs.Sieved.{none_by, matched_by_sieve}
use Rattle.ham_state.proofs.holds.Look.matched_pass.Goals as goal

pub failing_at-requires-clause-sieve : goal.failing_at-requires-clause-sieve
failing_at-requires-clause-sieve c = c.args.self.now.ahead.sieved c.loop-sieve.sieve-index c.sieve-item.result (slice_get_read c.args.self.now.ahead.sieves.now (length c.args.self.now.ahead.sieves.now) c.loop-sieve.sieve-index c.sieve-item.result refl c.loop-sieve-test.true c.sieve-item.is)

pub returns-in-Some : goal.returns-in-Some
returns-in-Some c =
    none_by c.failing_at.result c.is_none.result c.is_none.ensures
    ∙ matched_by_sieve c.args.self.now.ahead.facts.now c.args.self.now.ahead.amounts.now c.sieve-item.result c.args.relation c.in-Some.key c.if-sieve-relation.true
    (matches c.args.pattern.now) (is_sound_after (content c.args.self.now.ahead.facts.now c.args.self.now.ahead.amounts.now) c.args.self.now.watch.now.invariant c.args.self.now.ahead.steps.now) c.failing_at.result c.in-Some.ensures c.failing_at.ensures
