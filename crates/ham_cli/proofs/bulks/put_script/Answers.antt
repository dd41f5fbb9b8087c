use Rattle.ham_cli.proofs.Telling.{told_script}
use Rattle.ham_cli.proofs.Drawn.{was_done, is_replayed}
use Rattle.ham_cli.proofs.bulks.put_script.Goals as goal

pub returns-clause-ends : goal.returns-clause-ends
returns-clause-ends g c = told_script _ _ _ c.plan_for-plan.ensures _ _ _ _ c.exit_of_replay.ensures c.script.ensures.ends c.script.ensures.writes

pub returns-clause-replays : goal.returns-clause-replays
returns-clause-replays g c = λ done. is_replayed c.derived_plans_have_one_setting.ensures _ _ _ c.plan_for-plan.ensures.plan c.requires.replicas.some c.requires.replicas.few (c.script.ensures.replays (was_done _ _ c.exit_of_replay.ensures done))
