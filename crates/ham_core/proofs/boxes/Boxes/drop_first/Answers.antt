use Rattle.std.proofs.Common.{◌∙◌, ap, arith, drop}
use Rattle.ham_journal.specs.declared.limits.TheConstants.{MAX_COLLECTED}
use Rattle.ham_core.proofs.Boxed.{item_box, item_set}
use Rattle.ham_core.proofs.boxes.Boxes.drop_first.Goals as goal

pub returns-then-at-len : goal.returns-then-at-len
returns-then-at-len c =
    item_set c.self.inside.held.items c.args.self.now c.saturating_sub-at.result c.args.peer c.drop_first_of.new.queue _ c.self.view_is (omega arith)
    (c.drop_first_of.ensures.items ∙ ap (drop MAX_COLLECTED) (item_box c.self.inside.held.items c.args.self.now c.saturating_sub-at.result c.args.peer c.index_mut.result.now c.self.view_is (omega (arith, c.if-at-len.true, c.len.ensures)) (omega arith) c.index_mut.ensures.value))
