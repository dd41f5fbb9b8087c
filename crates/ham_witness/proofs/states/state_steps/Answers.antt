use Rattle.std.proofs.Common.{◌≤◌, ◌++◌, ◌∙◌, List, length, ap, sym, subst}
use Rattle.std.specs.List.{AllByRecursion}
use Rattle.ham_steps.specs.declared.step.Step.{Step}
use Rattle.ham_steps.specs.Steps.{IsWithin}
use Rattle.ham_witness.specs.Cases.{row_steps, value_steps}
use Rattle.ham_witness.proofs.Made.{few_steps, small_steps}
use Rattle.ham_witness.proofs.states.state_steps.Goals as goal

pub returns-clause-steps : goal.returns-clause-steps
returns-clause-steps c =
    c.in_ok-push_values.ensures
    ∙ ap (λ (front : List Step). front ++ value_steps c.args.object.now c.args.ids c.args.kinds.counters)
    (c.in_ok-push_rows.ensures.steps ∙ ap (λ (old : List Step). old ++ row_steps c.args.object.now c.args.ids c.args.kinds.rows) c.new-steps.ensures)

pub returns-clause-few : goal.returns-clause-few
returns-clause-few c = subst (λ (xs : List Step). length xs ≤ 288) (sym (returns-clause-steps c)) (few_steps c.args.object.now c.args.ids c.args.kinds c.push_rows.ensures.checked)

pub returns-clause-small : goal.returns-clause-small
returns-clause-small c = subst (AllByRecursion (IsWithin 1125899906842624)) (sym (returns-clause-steps c)) (small_steps c.args.object.now c.args.ids c.args.kinds)
