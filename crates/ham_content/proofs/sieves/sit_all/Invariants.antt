use Rattle.std.proofs.Common.{◌+◌}
use Rattle.ham_steps.specs.Content.{with_row}
use Rattle.ham_content.specs.Kept.{content}
use Rattle.ham_content.proofs.Each.{Changed}
use Rattle.ham_content.proofs.Sitting.{Sits}
use Rattle.ham_content.proofs.sieves.sit_all.Given as goal

abbrev pub invariant-loop-sieve : goal.invariant-loop-sieve
invariant-loop-sieve l = Changed (Sits (with_row (content l.facts l.amounts) l.relation l.row) (λ n. n + 1)) l.initial.sieves l.sieves l.sieve-index
