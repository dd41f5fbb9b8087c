use Rattle.ham_content.proofs.Each.{Changed}
use Rattle.ham_content.proofs.Sitting.{Prepared}
use Rattle.ham_content.proofs.sieves.prepare_sieves.Given as goal

abbrev pub invariant-loop-sieve : goal.invariant-loop-sieve
invariant-loop-sieve l = Changed (Prepared l.rows) l.initial.sieves l.sieves l.sieve-index
