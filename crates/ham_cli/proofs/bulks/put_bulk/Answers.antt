use Rattle.ham_cli.proofs.Telling.{told_bulk}
use Rattle.ham_cli.proofs.bulks.put_bulk.Goals as goal

pub returns-clause-ends : goal.returns-clause-ends
returns-clause-ends g c = told_bulk _ _ _ c.plan_for-plan.ensures _ _ _ _ c.exit_of_replay.ensures c.bulk.ensures.ends c.bulk.ensures.writes
