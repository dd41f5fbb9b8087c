use Rattle.std.proofs.Common.{◌-◌, ◌∙◌, sym, arith}
use Rattle.ham_content.specs.Kept.{content}
use Rattle.ham_content.proofs.Searching.{none_past, seated_is, all_pass}
use Rattle.ham_content.proofs.search.failing_at.Goals as goal

pub loop-left-init : goal.loop-left-init
loop-left-init g c = none_past (content c.args.facts.now c.args.amounts.now) c.args.sieve.now c.requires.sieve c.args.key.now (g.T.RowTest.test c.args.test.now) c.count_at-left.result c.count_at-left.ensures

pub returns : goal.returns
returns g c = all_pass (content c.args.facts.now c.args.amounts.now) c.args.sieve.now c.requires.sieve c.args.key.now (g.T.RowTest.test c.args.test.now) c.loop-left.left (omega arith) c.loop-left.invariant

pub returns-then-not-passes : goal.returns-then-not-passes
returns-then-not-passes g c =
    let there = seated_is (content c.args.facts.now c.args.amounts.now) c.args.sieve.now c.requires.sieve c.args.key.now (c.loop-left.left - 1) c.in-Some.row (sym c.row_at.ensures ∙ c.in-Some.is) in
    (there.0, there.1, sym c.passes.ensures ∙ c.if-not-passes.true)
