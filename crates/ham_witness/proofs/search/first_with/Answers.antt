use Rattle.std.proofs.Common.{List, ◌∙◌, ap}
use Rattle.ham_steps.specs.declared.step.Step.{Step}
use Rattle.ham_steps.specs.Content.{opening}
use Rattle.ham_steps.specs.Steps.{after_steps}
use Rattle.ham_witness.proofs.Made.{made_is}
use Rattle.ham_witness.proofs.search.first_with.Goals as goal

pub first_mask-requires-clause-state : goal.first_mask-requires-clause-state
first_mask-requires-clause-state c =
    made_is c.args.object.now c.args.ids c.args.kinds c.in_ok-steps.steps c.in_ok-state.state.content c.in_ok-steps.ensures.steps
    (c.in_ok-state.ensures.made ∙ ap (λ (xs : List Step). after_steps xs opening) c.items.ensures)
