use Rattle.std.proofs.Common.{◌∙◌, ◌<◌, sym, subst}
use Rattle.ham_steps.specs.Steps.{after_steps}
use Rattle.ham_content.specs.Kept.{content}
use Rattle.ham_state.proofs.Stepping.{inserted, deleted, unchanged, some_goes}
use Rattle.ham_state.proofs.after.tally_then.Goals as goal

pub lowered-requires : goal.lowered-requires
lowered-requires c = λ e. subst (λ n. 0 < n) (sym c.requires.number) (some_goes (after_steps c.args.earlier.now.steps.now (content c.args.earlier.now.facts.now c.args.earlier.now.amounts.now)) c.in-Delete.from c.in_ok-row-in-Delete.row c.args.relation c.args.columns.now c.args.key.now (sym c.goes-old.ensures ∙ e))

pub returns-in-Insert : goal.returns-in-Insert
returns-in-Insert c = inserted (after_steps c.args.earlier.now.steps.now (content c.args.earlier.now.facts.now c.args.earlier.now.amounts.now)) c.args.step.now c.in-Insert.into c.in-Insert.row c.args.relation c.args.columns.now c.args.key.now c.args.number c.raised.result c.comes-new.result c.in-Insert.is c.requires.number c.comes-new.ensures c.raised.ensures

pub returns-in_ok-row-in-Delete : goal.returns-in_ok-row-in-Delete
returns-in_ok-row-in-Delete c = deleted (after_steps c.args.earlier.now.steps.now (content c.args.earlier.now.facts.now c.args.earlier.now.amounts.now)) c.args.step.now c.in-Delete.from c.in-Delete.pattern c.items.result.now c.in_ok-row-in-Delete.row c.args.relation c.args.columns.now c.args.key.now c.args.number c.lowered.result c.goes-old.result c.in-Delete.is c.in_ok-row-in-Delete.ensures.1 c.items.ensures.value c.requires.number c.goes-old.ensures c.lowered.ensures

pub returns-in-Change : goal.returns-in-Change
returns-in-Change c = unchanged (after_steps c.args.earlier.now.steps.now (content c.args.earlier.now.facts.now c.args.earlier.now.amounts.now)) c.args.step.now c.in-Change.counter c.in-Change.key c.in-Change.by c.args.relation c.args.columns.now c.args.key.now c.args.number c.in-Change.is c.requires.number
