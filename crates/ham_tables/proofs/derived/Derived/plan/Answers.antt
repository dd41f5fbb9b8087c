use Rattle.ham_tables.proofs.Deriving.{derived_sound, IsDerivedPlan-made}
use Rattle.ham_tables.proofs.derived.Derived.plan.Goals as goal

pub returns-clause-sound : goal.returns-clause-sound
returns-clause-sound c = λ o checked is.
    let seen = c.self.view_is in
    derived_sound o checked c.make.result (IsDerivedPlan-made o c.args.self.now c.make.result is (rw (← seen) c.make.ensures.methods) (rw (← seen) c.make.ensures.conflict) (rw (← seen) c.make.ensures.depends) c.make.ensures.plan)
