use Rattle.ham_core.specs.Kept.{core_in}
use Rattle.ham_journal.proofs.Closing.{histories_closed}
use Rattle.ham_core.proofs.guarded.Guarded.closed_log.Goals as goal

pub returns : goal.returns
returns g c = rw (← c.self.view_is)
    (histories_closed g.L.Home.object g.L.Home.plan g.L.Home.me (core_in c.self.inside.replica c.self.inside.boxes c.self.inside.stopped) c.self.inside.journal.items c.self.invariant.0.others c.self.invariant.0.folded)
