use Rattle.std.proofs.Common.{sym, subst}
use Rattle.ham_steps.specs.Content.{opening}
use Rattle.ham_content.specs.Seats.{IsSieve, HasSeats, AreSieves, AllHaveSeats}
use Rattle.ham_content.proofs.Each.{each_push}
use Rattle.ham_state.proofs.choice.sieves.Goals as goal

pub loop-choice-preserved : goal.loop-choice-preserved
loop-choice-preserved c = record {
  sieves = subst (λ xs. AreSieves opening xs) (sym c.in_ok-push.ensures.items) (each_push (IsSieve opening) c.loop-choice.sieves.items c.empty_sieve.result c.loop-choice.invariant.sieves c.empty_sieve.ensures.sieve);
  room = subst (λ xs. AllHaveSeats 0 xs) (sym c.in_ok-push.ensures.items) (each_push (HasSeats 0) c.loop-choice.sieves.items c.empty_sieve.result c.loop-choice.invariant.room c.empty_sieve.ensures.room);
}
