use Rattle.std.proofs.Common.{◌≡◌, ◌∙◌, ℕ, List, Bool, Option, Some, None, ap, sym}
use Rattle.std.specs.Prelude.{unwrap_or}
use Rattle.ham_steps.specs.declared.step.Step.{Step}
use Rattle.ham_steps.specs.Content.{State, has}
use Rattle.ham_steps.specs.Steps.{after_steps}
use Rattle.ham_steps.specs.Touch.{last_touch}
use Rattle.ham_steps.proofs.LastTouch.{has-after_steps}
use Rattle.ham_content.specs.Kept.{content}
use Rattle.ham_state.proofs.ahead.is_there.Goals as goal

there_by : (net : List Step) (s : State) (r : ℕ) (x : List ℕ) (o : Option Bool) → o ≡ last_touch net r x → unwrap_or o (has s r x) ≡ has (after_steps net s) r x
there_by net s r x o e = ap (λ q. unwrap_or q (has s r x)) e ∙ sym (has-after_steps net s r x)

pub returns-in-Some : goal.returns-in-Some
returns-in-Some c = there_by c.args.ahead.now.steps.now (content c.args.ahead.now.facts.now c.args.ahead.now.amounts.now) c.args.relation c.args.row.now (Some c.in-Some.puts) (c.in-Some.ensures ∙ ap (last_touch c.args.ahead.now.steps.now c.args.relation) c.items.ensures.value)

pub returns-in-None : goal.returns-in-None
returns-in-None c = c.has_row.ensures ∙ there_by c.args.ahead.now.steps.now (content c.args.ahead.now.facts.now c.args.ahead.now.amounts.now) c.args.relation c.args.row.now None (c.in-None.ensures ∙ ap (last_touch c.args.ahead.now.steps.now c.args.relation) c.items.ensures.value)
