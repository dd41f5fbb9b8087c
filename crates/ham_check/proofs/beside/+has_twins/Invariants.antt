use Rattle.std.proofs.Common.{length}
use Rattle.ham_check.proofs.beside.+has_twins.Given as goal

abbrev pub decreases-has_twins : goal.decreases-has_twins
decreases-has_twins l = length l.params.now
