use Rattle.std.proofs.Common.{◌++◌, [], arith}
use Rattle.ham_text.specs.Written.{line_text}
use Rattle.ham_records.specs.Texts.{opening_words, replicas_words}
use Rattle.ham_record.specs.Recorded.{entries_at}
use Rattle.ham_record.proofs.Lined.{next_at, spelled_at, is_next, all_put, all_spelled}
use Rattle.ham_record.proofs.logs.logs_text.Goals as goal

pub push_log-requires-clause-replica : goal.push_log-requires-clause-replica
push_log-requires-clause-replica c = is_next c.args.world.now.plan _ c.loop-before.before c.replicas-replicas.ensures.replicas c.loop-before-test.true

pub loop-before-preserved : goal.loop-before-preserved
loop-before-preserved c =
    let o = c.args.world.now.object in
    let f = entries_at c.args.world.now in
    record {
      text = next_at o f ([] ++ (line_text opening_words ++ line_text (replicas_words c.replicas-replicas.result))) _ _ c.loop-before.before c.loop-before.invariant.text c.in_ok-push_log.ensures.text;
      spelled = spelled_at o f c.loop-before.before c.loop-before.invariant.spelled c.in_ok-push_log.ensures.spelled;
    }

pub returns-clause-text : goal.returns-clause-text
returns-clause-text c =
    all_put c.args.world.now.object (entries_at c.args.world.now) c.args.world.now.plan c.replicas-replicas.result c.loop-before.before _ _ c.replicas-replicas.ensures.replicas (omega arith) (omega arith)
    c.loop-before.invariant.text c.in_ok-push_end.ensures

pub returns-clause-spelled : goal.returns-clause-spelled
returns-clause-spelled c =
    all_spelled c.args.world.now.object (entries_at c.args.world.now) c.args.world.now.plan c.replicas-replicas.result c.loop-before.before c.replicas-replicas.ensures.replicas (omega arith) (omega arith)
    c.object-planned.ensures.planned.plan c.loop-before.invariant.spelled
