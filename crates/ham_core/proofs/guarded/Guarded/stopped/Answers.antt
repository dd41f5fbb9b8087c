use Rattle.ham_core.specs.Kept.{core_in}
use Rattle.ham_journal.proofs.Stops.{stopped_by_stop}
use Rattle.ham_core.proofs.guarded.Guarded.stopped.Goals as goal

pub returns-clause-exactly : goal.returns-clause-exactly
returns-clause-exactly g c = rw (← c.self.view_is)
    (stopped_by_stop g.L.Home.object g.L.Home.plan g.L.Home.me (core_in c.self.inside.replica c.self.inside.boxes c.self.inside.stopped) c.self.inside.journal.items c.self.invariant.0.folded)
