use Rattle.ham_audit.proofs.Spelled.{texts_recorded}
use Rattle.ham_audit.proofs.laws.texts_are_recorded.Goals as goal

pub returns : goal.returns
returns c o p = texts_recorded o p
