use Rattle.ham_content.proofs.Sieving.{empty_is}
use Rattle.ham_content.proofs.sieve.empty_sieve.Goals as goal

pub returns-clause-sieve : goal.returns-clause-sieve
returns-clause-sieve c = empty_is _ c.new.ensures.empty c.new-2.ensures.empty c.new-3.ensures.empty
