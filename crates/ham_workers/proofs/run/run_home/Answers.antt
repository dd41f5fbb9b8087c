use Rattle.ham_workers.proofs.run.run_home.Goals as goal

pub returns-in-Ok-clause-counted : goal.returns-in-Ok-clause-counted
returns-in-Ok-clause-counted g c = c.run_opened.ensures.counted (g.B.Switchboard.faults c.args.board.now) (g.B.Switchboard.faults c.open.new.board)
