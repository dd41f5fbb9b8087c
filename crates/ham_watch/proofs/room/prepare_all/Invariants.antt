use Rattle.ham_content.proofs.Each.{Changed}
use Rattle.ham_watch.proofs.Moves.{Prepared}
use Rattle.ham_watch.proofs.room.prepare_all.Given as goal

abbrev pub invariant-loop-watch : goal.invariant-loop-watch
invariant-loop-watch l = Changed (Prepared l.steps) l.initial.watches l.watches l.watch-index
