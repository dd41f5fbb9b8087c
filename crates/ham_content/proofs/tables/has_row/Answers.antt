use Rattle.std.proofs.Common.{sym, ◌∙◌}
use Rattle.ham_content.proofs.Contents.{has-content}
use Rattle.ham_content.proofs.tables.has_row.Goals as goal

pub returns : goal.returns
returns c = c.has.ensures ∙ sym (has-content c.args.facts.now c.args.amounts.now c.args.relation c.args.row)
