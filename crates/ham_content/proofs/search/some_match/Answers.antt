use Rattle.std.proofs.Common.{◌∙◌}
use Rattle.ham_steps.specs.Pattern.{matches}
use Rattle.ham_content.specs.Kept.{content}
use Rattle.ham_content.proofs.Matched.{some_row, constants_match}
use Rattle.ham_content.proofs.Searching.{match_some}
use Rattle.ham_content.proofs.search.some_match.Goals as goal

pub returns-in-Some : goal.returns-in-Some
returns-in-Some c = c.has_row.ensures ∙ constants_match (content c.args.facts.now c.args.amounts.now) c.args.relation c.in-Some.row c.args.pattern.now c.in-Some.ensures.1

pub returns-in-None : goal.returns-in-None
returns-in-None c =
    c.is_some.ensures ∙ match_some c.args.facts.now c.args.relation (matches c.args.pattern.now) c.find_match.result c.find_match.ensures
    ∙ some_row c.args.facts.now c.args.amounts.now c.args.relation (matches c.args.pattern.now)
