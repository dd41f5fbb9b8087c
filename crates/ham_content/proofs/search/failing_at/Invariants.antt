use Rattle.ham_content.proofs.Searching.{PassFrom}
use Rattle.ham_content.proofs.search.failing_at.Given as goal

abbrev pub decreases-loop-left : goal.decreases-loop-left
decreases-loop-left g l = l.left

abbrev pub invariant-loop-left : goal.invariant-loop-left
invariant-loop-left g l = PassFrom l.sieve l.key (g.T.RowTest.test l.test) l.left
