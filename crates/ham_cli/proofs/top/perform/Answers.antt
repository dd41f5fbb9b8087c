use Rattle.ham_cli.proofs.Seeking.{sought_on, unfetched}
use Rattle.ham_cli.proofs.top.perform.Goals as goal

pub returns-in-Ok-clause-sought : goal.returns-in-Ok-clause-sought
returns-in-Ok-clause-sought g c = sought_on _ _ _ _ _ _ c.in-Ok.ensures.sought c.perform_read.ensures.sought

pub returns-in-Err-clause-sought : goal.returns-in-Err-clause-sought
returns-in-Err-clause-sought g c = unfetched _ _ _ _ c.in-Err.fault _ c.in-Err.ensures.sought c.exit_of_fetch.ensures
