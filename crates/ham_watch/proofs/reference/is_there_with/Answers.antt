use Rattle.std.proofs.Common.{sym, ap, ◌∙◌, ◌||◌}
use Rattle.ham_content.specs.Kept.{content}
use Rattle.ham_steps.specs.Content.{has}
use Rattle.ham_content.proofs.Counting.{there_more}
use Rattle.ham_watch.proofs.reference.is_there_with.Goals as goal

pub returns-then-is_this : goal.returns-then-is_this
returns-then-is_this c = sym (there_more (content c.args.facts.now c.args.amounts.now) c.args.relation c.args.row c.args.to c.args.key ∙ ap (λ b. b || has (content c.args.facts.now c.args.amounts.now) c.args.to c.args.key) (sym c.is_this.ensures ∙ c.if-is_this.true))

pub returns-else-is_this : goal.returns-else-is_this
returns-else-is_this c = c.has_row.ensures ∙ sym (there_more (content c.args.facts.now c.args.amounts.now) c.args.relation c.args.row c.args.to c.args.key ∙ ap (λ b. b || has (content c.args.facts.now c.args.amounts.now) c.args.to c.args.key) (sym c.is_this.ensures ∙ c.if-is_this.false))
