use Rattle.std.proofs.Common.{◌∙◌, sym, refl, true, false}
use Rattle.ham_state.proofs.Standing.{all_after_by}
use Rattle.ham_state.proofs.rows_after.each_passes.Goals as goal

pub returns-then-kept_pass : goal.returns-then-kept_pass
returns-then-kept_pass g c =
    all_after_by c.args.ahead.now.facts.now c.args.ahead.now.amounts.now c.args.ahead.now.steps.now c.args.relation (g.T.RowTest.test c.args.test.now) true c.puts_pass.result
    (sym c.if-kept_pass.true ∙ c.kept_pass.ensures) c.puts_pass.ensures

pub returns-else-kept_pass : goal.returns-else-kept_pass
returns-else-kept_pass g c =
    c.if-kept_pass.false
    ∙ all_after_by c.args.ahead.now.facts.now c.args.ahead.now.amounts.now c.args.ahead.now.steps.now c.args.relation (g.T.RowTest.test c.args.test.now) false _
    (sym c.if-kept_pass.false ∙ c.kept_pass.ensures) refl
