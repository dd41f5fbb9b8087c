use Rattle.ham_replica.proofs.Readiness.{none_is_settled, ready_is_unsettled}
use Rattle.ham_replica.proofs.look.is_settled.Goals as goal

pub returns : goal.returns
returns c =
    let told = rw (c.deref.ensures.value, c.deref-2.ensures.value) at c.is_settled.ensures in
    (λ t. none_is_settled _ _ c.requires (told.0 t), λ settled. told.1 (λ p ready. ready_is_unsettled _ _ c.requires p ready settled))
