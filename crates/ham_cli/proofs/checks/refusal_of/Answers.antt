use Rattle.std.proofs.Common.{refl}
use Rattle.ham_cli.proofs.Verdicts.{proved, ill_spelled}
use Rattle.ham_cli.proofs.checks.refusal_of.Goals as goal

pub returns-in-Err-BadLine : goal.returns-in-Err-BadLine
returns-in-Err-BadLine c = ill_spelled _ _ _ (c.in-Err-BadLine.ensures.bad_line c.in-Err-BadLine.line (cc)) (c.in-Err-BadLine.ensures.refused c.in-Err-BadLine.line (cc))

pub returns-in-Ok-check : goal.returns-in-Ok-check
returns-in-Ok-check c = proved _ _ _ _ c.in-Ok.ensures.text (c.in-Ok-check.ensures.good.0 refl) c.in-Ok-check.ensures.claim
