use Rattle.std.proofs.Common.{◌∙◌, sym, arith}
use Rattle.std.proofs.lemmas.Bool.{eqb-true}
use Rattle.ham_node.proofs.Hiding.{nothing_entered}
use Rattle.ham_node.proofs.locked.LockedDoor.enter_all.Goals as goal

pub returns-then-is_empty-clause-told : goal.returns-then-is_empty-clause-told
returns-then-is_empty-clause-told g c =
    nothing_entered _ _ _ _ c.args.inputs.now.items _ (omega (arith, eqb-true _ 0 (sym c.is_empty.ensures ∙ c.if-is_empty.true), c.args.inputs.now.ok)) c.requires.empty
