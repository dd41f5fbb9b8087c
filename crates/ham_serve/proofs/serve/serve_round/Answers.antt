use Rattle.std.proofs.lemmas.Result.{err_from_is_err_and}
use Rattle.ham_serve.proofs.Heard.{answered_any}
use Rattle.ham_serve.proofs.serve.serve_round.Goals as goal

pub returns-in_err-push_replies-clause-err : goal.returns-in_err-push_replies-clause-err
returns-in_err-push_replies-clause-err g c =
    let p = err_from_is_err_and c.from_residual.result c.from_residual.ensures.1 in
    rw p.1 (answered_any _ _ _ _ _ _ _ _ _ _ c.enter_all-stopped.ensures.told)

pub returns-in_err-push_said-clause-err : goal.returns-in_err-push_said-clause-err
returns-in_err-push_said-clause-err g c =
    let p = err_from_is_err_and c.from_residual-in_err-push_said.result c.from_residual-in_err-push_said.ensures.1 in
    rw p.1 (answered_any _ _ _ _ _ _ _ _ _ _ c.enter_all-stopped.ensures.told)
