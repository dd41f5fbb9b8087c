use Rattle.std.proofs.Common.{ℕ, List, ◌∙◌, ap, ◌++◌, ◌∷◌, []}
use Rattle.ham_steps.specs.declared.step.Step.TheVariants as steps
use Rattle.ham_witness.specs.Cases.{row_by}
use Rattle.ham_witness.proofs.Building.{filled-more}
use Rattle.ham_witness.proofs.states.push_inserts.Goals as goal

pub loop-mask-preserved : goal.loop-mask-preserved
loop-mask-preserved c =
    filled-more (λ mask. steps.Insert c.args.relation (row_by c.args.ids c.args.width mask)) c.loop-mask.mask c.args.steps.now c.loop-mask.steps _ c.loop-mask.invariant
    (c.in_ok-push.ensures.ok ∙ ap (λ (row : List ℕ). c.loop-mask.steps ++ steps.Insert c.args.relation row ∷ []) c.row_by.ensures)
