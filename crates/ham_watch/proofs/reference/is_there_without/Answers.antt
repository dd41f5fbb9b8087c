use Rattle.std.proofs.Common.{◌≡◌, refl, sym, ap, ◌∙◌, ◌&&◌, not, Bool, true, false}
use Rattle.ham_content.specs.Kept.{content}
use Rattle.ham_steps.specs.Content.{has}
use Rattle.ham_content.proofs.Counting.{there_less}
use Rattle.ham_watch.proofs.reference.is_there_without.Goals as goal

gone : (b : Bool) → (b && not true) ≡ false
gone true = refl
gone false = refl

kept : (b : Bool) → (b && not false) ≡ b
kept true = refl
kept false = refl

pub returns-then-is_this : goal.returns-then-is_this
returns-then-is_this c = sym (there_less (content c.args.facts.now c.args.amounts.now) c.args.relation c.args.row c.args.to c.args.key ∙ ap (λ b. has (content c.args.facts.now c.args.amounts.now) c.args.to c.args.key && not b) (sym c.is_this.ensures ∙ c.if-is_this.true) ∙ gone (has (content c.args.facts.now c.args.amounts.now) c.args.to c.args.key))

pub returns-else-is_this : goal.returns-else-is_this
returns-else-is_this c = c.has_row.ensures ∙ sym (there_less (content c.args.facts.now c.args.amounts.now) c.args.relation c.args.row c.args.to c.args.key ∙ ap (λ b. has (content c.args.facts.now c.args.amounts.now) c.args.to c.args.key && not b) (sym c.is_this.ensures ∙ c.if-is_this.false) ∙ kept (has (content c.args.facts.now c.args.amounts.now) c.args.to c.args.key))
