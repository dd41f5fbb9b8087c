use Rattle.std.proofs.Common.{◌≡◌, ◌++◌, ◌∙◌, ℕ, List, ap, subst}
use Rattle.std.specs.Prelude.{OnOk}
use Rattle.ham_text.specs.Written.{lines_text}
use Rattle.ham_witness.specs.ExampleText.{value_lines_at}
use Rattle.ham_witness.proofs.Written.{two-written, one-written}
use Rattle.ham_witness.proofs.printer.push_values_of.Goals as goal

pub returns-in_ok-push_value : goal.returns-in_ok-push_value
returns-in_ok-push_value c =
    subst (λ (t : List ℕ). OnOk c.push_value-then-counter_at.result (c.push_value-then-counter_at.new.text ≡ t))
    (ap (λ (key : ℕ). c.push_value.new.text ++ lines_text (value_lines_at c.args.object.now c.args.state.now.content c.args.c key)) c.max.ensures
    ∙ two-written c.args.object.now c.args.ids c.args.state.now.content c.args.c c.counter_at.result.now c.counter_at.ensures c.args.text.now c.push_value.new.text c.if-counter_at.true
    (c.in_ok-push_value.ensures ∙ ap (λ (key : ℕ). c.args.text.now ++ lines_text (value_lines_at c.args.object.now c.args.state.now.content c.args.c key)) c.min.ensures)) c.push_value-then-counter_at.ensures

pub returns-else-counter_at : goal.returns-else-counter_at
returns-else-counter_at c =
    subst (λ (t : List ℕ). OnOk c.push_value-else-counter_at.result (c.push_value-else-counter_at.new.text ≡ t))
    (one-written c.args.object.now c.args.ids c.args.state.now.content c.args.c c.counter_at.result.now c.counter_at.ensures c.args.text.now c.if-counter_at.false) c.push_value-else-counter_at.ensures
