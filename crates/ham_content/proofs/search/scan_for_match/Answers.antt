use Rattle.std.proofs.Common.{sym, ◌∙◌}
use Rattle.ham_steps.specs.Pattern.{matches}
use Rattle.ham_content.proofs.Matched.{found_none, found_row}
use Rattle.ham_content.proofs.search.scan_for_match.Goals as goal

pub returns-in-Some : goal.returns-in-Some
returns-in-Some c = found_row c.args.relation (matches c.args.pattern.now) c.args.facts.now.keys c.in-Some.fact (sym c.find_fact.ensures ∙ c.in-Some.is)

pub returns-in-None : goal.returns-in-None
returns-in-None c = found_none _ c.args.facts.now.keys (sym c.find_fact.ensures ∙ c.in-None.is)
