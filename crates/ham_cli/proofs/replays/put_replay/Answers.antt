use Rattle.ham_cli.proofs.Telling.{told_replay}
use Rattle.ham_cli.proofs.replays.put_replay.Goals as goal

pub returns-clause-ends : goal.returns-clause-ends
returns-clause-ends g c = told_replay _ _ _ c.plans_of.ensures.derived c.plans_of.ensures.sound c.replay.ensures.faithful _ _ _ _ c.exit_of_replay.ensures c.replay.ensures.ends c.replay.ensures.writes
