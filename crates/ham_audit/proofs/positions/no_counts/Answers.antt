use Rattle.ham_syntax.specs.declared.limits.TheConstants.{MAX_LANES}
use Rattle.std.proofs.lemmas.List.{get_or-replicate}
use Rattle.ham_audit.proofs.positions.no_counts.Goals as goal

pub returns-clause-none : goal.returns-clause-none
returns-clause-none c = λ k h. get_or-replicate MAX_LANES k 0 0 h
