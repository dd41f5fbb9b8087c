use Rattle.ham_steps.specs.declared.step.Step.TheVariants as steps
use Rattle.ham_witness.specs.Cases.{row_by}
use Rattle.ham_witness.proofs.Building.{Filled}
use Rattle.ham_witness.proofs.states.push_inserts.Given as goal

abbrev pub invariant-loop-mask : goal.invariant-loop-mask
invariant-loop-mask l = Filled (λ mask. steps.Insert l.relation (row_by l.ids l.width mask)) l.mask l.initial.steps l.steps
