use Rattle.std.proofs.Common.{◌∙◌, arith}
use Rattle.ham_tables.proofs.derived.fill_conflicts.Goals as goal

pub conflict_at-requires-clause-above : goal.conflict_at-requires-clause-above
conflict_at-requires-clause-above c = λ lt. c.loop-n.invariant.others c.loop-n.n c.args.m (λ e. omega arith) ∙ c.requires.above c.loop-n.n lt
