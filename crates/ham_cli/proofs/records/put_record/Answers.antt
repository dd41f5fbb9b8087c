use Rattle.ham_cli.proofs.Recording.{told_record, recorded_well}
use Rattle.ham_cli.proofs.records.put_record.Goals as goal

pub returns-clause-ends : goal.returns-clause-ends
returns-clause-ends g c = told_record _ _ c.plans_of.ensures.derived _ _ _ _ _ c.exit_of_replay.ensures c.write_logs.ensures.ends c.write_logs.ensures.writes

pub returns-clause-well : goal.returns-clause-well
returns-clause-well g c = recorded_well _ _ c.plans_of.ensures.derived _ _ _ c.exit_of_replay.ensures c.write_logs.ensures.accepted
