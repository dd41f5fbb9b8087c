use Rattle.ham_steps.specs.Pattern.{is_row}
use Rattle.ham_steps.specs.Content.{without_rows}
use Rattle.ham_content.specs.Kept.{content}
use Rattle.ham_content.proofs.Each.{Changed}
use Rattle.ham_content.proofs.Sitting.{Sits}
use Rattle.ham_content.proofs.sieves.stand_all.Given as goal

abbrev pub invariant-loop-sieve : goal.invariant-loop-sieve
invariant-loop-sieve l = Changed (Sits (without_rows (content l.facts l.amounts) l.relation (is_row l.row)) (λ n. n)) l.initial.sieves l.sieves l.sieve-index
