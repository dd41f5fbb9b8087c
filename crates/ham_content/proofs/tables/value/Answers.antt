use Rattle.std.proofs.Common.{rules}
use Rattle.ham_content.proofs.Contents.{value-content}
use Rattle.ham_content.proofs.tables.value.Goals as goal

pub returns : goal.returns
returns c = rw (value-content c.args.facts.now c.args.amounts.now c.args.counter c.args.key) (search rules)
