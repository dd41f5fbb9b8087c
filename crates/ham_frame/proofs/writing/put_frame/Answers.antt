use Rattle.std.proofs.Common.{List, ℕ, ◌++◌, ap, ◌∙◌}
use Rattle.ham_frame.proofs.Plain.{plain_is}
use Rattle.ham_frame.proofs.writing.put_frame.Goals as goal

pub returns-clause-ok : goal.returns-clause-ok
returns-clause-ok c = c.in_default.ensures.ok ∙ ap (λ (bs : List ℕ). c.args.out.now ++ bs) (plain_is c.args.frame.now c.requires)
