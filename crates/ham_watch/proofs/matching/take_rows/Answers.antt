use Rattle.std.proofs.Common.{◌∙◌}
use Rattle.ham_content.specs.Kept.{content}
use Rattle.ham_watch.proofs.Matched.{constants_gone}
use Rattle.ham_watch.proofs.matching.take_rows.Goals as goal

pub returns-in-Some-clause-content : goal.returns-in-Some-clause-content
returns-in-Some-clause-content c = c.take_row.ensures.content ∙ constants_gone (content c.args.facts.now c.args.amounts.now) c.args.relation c.in-Some.row c.args.pattern.now c.in-Some.ensures.1
