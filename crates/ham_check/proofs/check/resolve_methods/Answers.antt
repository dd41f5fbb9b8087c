use Rattle.std.proofs.lemmas.Result.{err_from_is_err_and}
use Rattle.ham_check.proofs.Walked.{IsWalked-stop}
use Rattle.ham_check.proofs.check.resolve_methods.Goals as goal

pub returns-in_err-method_entry-clause-checks : goal.returns-in_err-method_entry-clause-checks
returns-in_err-method_entry-clause-checks c =
    let p = err_from_is_err_and c.from_residual.result c.from_residual.ensures.1 in
    rw (p.1, p.2) (IsWalked-stop _ _ c.args.raw.now c.loop-i.i c.loop-i.methods c.index-raw-i.result c.in_err-method_entry.field-0.0 c.loop-i.invariant.walked c.loop-i-test.true c.index-raw-i.is c.in_err-method_entry.ensures.checks)
