use Rattle.std.proofs.Common.{rules, ◌≡◌, ◌&&◌, not}
use Rattle.std.specs.HashSet as bag
use Rattle.ham_content.specs.declared.tables.FactKey.{FactKey}
use Rattle.ham_content.specs.Kept.{fact, same_fact}
use Rattle.ham_content.proofs.Contents.{take_content}
use Rattle.ham_content.proofs.tables.take.Goals as goal

pub returns-clause-content : goal.returns-clause-content
returns-clause-content c =
    let less : (f : FactKey) → bag.contains same_fact c.remove.new.self f ≡ (not (same_fact (fact c.args.relation c.args.row) f) && bag.contains same_fact c.args.facts.now f) = λ f. search rules in
    take_content c.args.facts.now c.remove.new.self c.args.amounts.now c.args.relation c.args.row less
