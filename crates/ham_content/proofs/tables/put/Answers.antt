use Rattle.std.proofs.Common.{rules, ◌≡◌, ◌||◌}
use Rattle.std.specs.HashSet as bag
use Rattle.ham_content.specs.declared.tables.FactKey.{FactKey}
use Rattle.ham_content.specs.Kept.{fact, same_fact}
use Rattle.ham_content.proofs.Contents.{put_content}
use Rattle.ham_content.proofs.tables.put.Goals as goal

pub returns-clause-content : goal.returns-clause-content
returns-clause-content c =
    let more : (f : FactKey) → bag.contains same_fact c.insert.new.self f ≡ (same_fact (fact c.args.relation c.args.row) f || bag.contains same_fact c.args.facts.now f) = λ f. search rules in
    put_content c.args.facts.now c.insert.new.self c.args.amounts.now c.args.relation c.args.row more
