use Rattle.ham_bulk.proofs.Texts.{where_ok, script_replays}
use Rattle.ham_bulk.proofs.writing.script.Goals as goal

pub returns-clause-replays : goal.returns-clause-replays
returns-clause-replays g c = script_replays c.scripts_replay.ensures c.args.object.now c.args.plan.now c.args.seed c.args.rounds c.put.result c.requires.planned
    (c.put.ensures.ends _ c.script_of.ensures.made) (λ done. where_ok c.script_of.result (c.put.ensures.made done) c.script_of.ensures.spelled)
