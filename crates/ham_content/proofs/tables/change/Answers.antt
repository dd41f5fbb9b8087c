use Rattle.std.proofs.Common.{rules, ◌≡◌, cond}
use Rattle.std.specs.Prelude.{pos, unwrap_or}
use Rattle.std.specs.HashMap as hash
use Rattle.ham_content.specs.declared.tables.Spot.{Spot}
use Rattle.ham_content.specs.Kept.{spot, same_spot}
use Rattle.ham_content.proofs.Contents.{change_content}
use Rattle.ham_content.proofs.tables.change.Goals as goal

pub returns-clause-content : goal.returns-clause-content
returns-clause-content c =
    let put : (s : Spot) → unwrap_or (hash.get same_spot c.set_amount.new.amounts s) (pos 0) ≡ cond (same_spot (spot c.args.counter c.args.key) s) c.args.number (unwrap_or (hash.get same_spot c.args.amounts.now s) (pos 0)) = λ s. search rules in
    change_content c.args.facts.now c.args.amounts.now c.set_amount.new.amounts c.args.counter c.args.key c.args.by c.args.number put c.requires.number
