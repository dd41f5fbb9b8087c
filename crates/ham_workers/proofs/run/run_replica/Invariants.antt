use Rattle.ham_workers.proofs.run.run_replica.Given as goal

abbrev pub ghosts-run_home-L-Home : goal.ghosts-run_home-L-Home
ghosts-run_home-L-Home g a = record { object = a.object.now; plan = a.plan.now; me = a.me }

abbrev pub ghosts-run_home-L-Ledger : goal.ghosts-run_home-L-Ledger
ghosts-run_home-L-Ledger g a = record { name = a.blank.name; parts = a.blank.parts }
