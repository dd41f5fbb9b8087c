use Rattle.ham_core.proofs.guarded.Guarded.sleeps.Goals as goal

pub invariant_of-self : goal.invariant_of-self
invariant_of-self g c = c.self.invariant
