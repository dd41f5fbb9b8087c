use Rattle.std.proofs.lemmas.Result.{err_from_is_err_and}
use Rattle.ham_check.proofs.FirstFaultOr.{first_fault_or-Err}
use Rattle.ham_check.proofs.Ids.{ids_ills-step}
use Rattle.ham_check.proofs.scope.Scope.ids.Goals as goal

pub returns-in_err-id-clause-resolved : goal.returns-in_err-id-clause-resolved
returns-in_err-id-clause-resolved c =
    let p = err_from_is_err_and c.from_residual.result c.from_residual.ensures.1 in
    let step = ids_ills-step c.args.any c.args.self.now.params.now c.args.terms.now c.loop-term.term-index c.term-item.result c.loop-term-test.true c.term-item.is in
    rw (p.1, p.2, c.loop-term.invariant.rest, step) (first_fault_or-Err _ _ _ _ _ c.in_err-id.ensures.resolved)
