use Rattle.std.proofs.Common.{◌≡◌}
use Rattle.ham_workers.proofs.Ending.{ends_after, counted_since}
use Rattle.ham_workers.proofs.run.run_opened.Goals as goal

pub returns-in-Ok-run_tasks-clause-ends : goal.returns-in-Ok-run_tasks-clause-ends
returns-in-Ok-run_tasks-clause-ends g c =
    ends_after g.L.Home.object g.L.Home.plan g.L.Home.me (g.K.Sink.taken c.args.out.now) (g.K.Sink.taken c.put_all.new.out) (g.K.Sink.taken c.put_stopped.new.out) c.in-Ok-run_tasks.entries g.L.Ledger.parts c.put_stopped.result c.in-Ok.ensures.whole c.requires.seats c.in-Ok-run_tasks.ensures c.put_stopped.ensures.ends

pub returns-in-Ok-run_tasks-clause-counted : goal.returns-in-Ok-run_tasks-clause-counted
returns-in-Ok-run_tasks-clause-counted g c board board_now =
    counted_since board board_now (g.K.Sink.faults c.args.out.now) (g.K.Sink.faults c.put_all.new.out) (g.K.Sink.faults c.put_stopped.new.out) c.put_stopped.result c.put_all.ensures.later (c.put_stopped.ensures.counted board board_now)
