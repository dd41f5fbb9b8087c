use Rattle.std.proofs.Common.{refl}
use Rattle.ham_content.specs.Seats.{seat}
use Rattle.ham_content.proofs.Sieving.{sieve_same}
use Rattle.ham_content.proofs.sieves.prepare_sieve.Goals as goal

pub returns-in_err-reserve-clause-sieve : goal.returns-in_err-reserve-clause-sieve
returns-in_err-reserve-clause-sieve c = λ s h. sieve_same s c.args.sieve.now _ refl refl c.reserve.ensures.entries.2 (λ k n. refl) (λ x. refl) h

pub returns-in_err-reserve-2-clause-sieve : goal.returns-in_err-reserve-2-clause-sieve
returns-in_err-reserve-2-clause-sieve c = λ s h. sieve_same s c.args.sieve.now _ refl refl c.reserve.ensures.entries.2 (λ k n. c.reserve-2.ensures.entries.2 (seat k n)) (λ x. refl) h

pub returns-clause-sieve : goal.returns-clause-sieve
returns-clause-sieve c = λ s h. sieve_same s c.args.sieve.now _ refl refl c.reserve.ensures.entries.2 (λ k n. c.reserve-2.ensures.entries.2 (seat k n)) c.reserve-3.ensures.entries.2 h
