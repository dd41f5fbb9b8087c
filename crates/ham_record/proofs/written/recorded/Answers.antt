use Rattle.ham_replay.specs.Claims.{settings_of}
use Rattle.ham_replay.specs.Replays.{played}
use Rattle.ham_record.proofs.Accepted.{world_runs, whole_record}
use Rattle.ham_record.proofs.written.recorded.Goals as goal

pub logs_text-requires-clause-going : goal.logs_text-requires-clause-going
logs_text-requires-clause-going c = c.in_ok-world.ensures.going

pub logs_text-requires-clause-run : goal.logs_text-requires-clause-run
logs_text-requires-clause-run c =
    world_runs c.args.object.now c.args.plans.now.at (played c.args.object.now (settings_of c.args.plans.now.at) c.args.schedule.now) c.in_ok-world.world c.in_ok-world.ensures
    (c.replays_are_runs.ensures c.args.object.now c.args.plans.now.at c.args.schedule.now c.requires)

pub returns : goal.returns
returns c =
    whole_record c.args.object.now c.args.plans.now.at (played c.args.object.now (settings_of c.args.plans.now.at) c.args.schedule.now) c.in_ok-world.world c.in_ok-world.ensures
    (c.replays_are_runs.ensures c.args.object.now c.args.plans.now.at c.args.schedule.now c.requires)
    (c.records_read_back.ensures.reads c.args.object.now c.methods.ensures.checked) c.runs_have_no_fault.ensures _ c.in_ok-logs_text.ensures.text c.in_ok-logs_text.ensures.spelled
