use Rattle.std.proofs.Common.{refl, length, ◌∙◌}
use Rattle.std.proofs.lemmas.Bool.{or_right}
use Rattle.std.proofs.lemmas.Option.{slice_get_read}
use Rattle.ham_content.specs.Kept.{content}
use Rattle.ham_state.specs.Ahead.{unless_gone}
use Rattle.ham_state.proofs.Sieved.{none_by, kept_by_sieve}
use Rattle.ham_state.proofs.rows_after.kept_pass.Goals as goal

pub failing_at-requires-clause-sieve : goal.failing_at-requires-clause-sieve
failing_at-requires-clause-sieve g c = c.args.ahead.now.sieved c.loop-sieve.sieve-index c.sieve-item.result (slice_get_read c.args.ahead.now.sieves.now (length c.args.ahead.now.sieves.now) c.loop-sieve.sieve-index c.sieve-item.result refl c.loop-sieve-test.true c.sieve-item.is)

pub returns-then-are_same : goal.returns-then-are_same
returns-then-are_same g c =
    none_by c.failing_at.result c.is_none.result c.is_none.ensures
    ∙ kept_by_sieve c.args.ahead.now.facts.now c.args.ahead.now.amounts.now c.sieve-item.result c.args.relation c.args.key.now c.if-sieve-relation.true
    c.args.columns.now (unless_gone (content c.args.ahead.now.facts.now c.args.ahead.now.amounts.now) c.args.ahead.now.steps.now c.args.relation (g.T.RowTest.test c.args.test.now)) c.failing_at.result (c.are_same.ensures.0 c.if-are_same.true)
    (λ x e. or_right _ _ (c.requires.elsewhere x e)) c.failing_at.ensures
