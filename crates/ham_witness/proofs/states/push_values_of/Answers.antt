use Rattle.std.proofs.Common.{◌≡◌, ◌++◌, List, subst}
use Rattle.std.specs.Prelude.{OnOk}
use Rattle.ham_steps.specs.declared.step.Step.{Step}
use Rattle.ham_witness.proofs.Made.{two_changes, one_change}
use Rattle.ham_witness.proofs.states.push_values_of.Goals as goal

pub returns-then-counter_at : goal.returns-then-counter_at
returns-then-counter_at c =
    subst (λ (changes : List Step). OnOk c.extend.result (c.extend.new.self ≡ c.args.steps.now ++ changes))
    (two_changes c.args.object.now c.args.ids c.args.kind c.args.counter c.counter_at.result.now c.counter_at.ensures c.change_of-at_c.result c.change_of-at_d.result c.change_of-at_c.ensures c.change_of-at_d.ensures c.if-counter_at.true) c.extend.ensures.ok

pub returns-else-counter_at : goal.returns-else-counter_at
returns-else-counter_at c =
    subst (λ (changes : List Step). OnOk c.push.result (c.push.new.self ≡ c.args.steps.now ++ changes))
    (one_change c.args.object.now c.args.ids c.args.kind c.args.counter c.counter_at.result.now c.counter_at.ensures c.change_of.result c.change_of.ensures c.if-counter_at.false) c.push.ensures.ok
