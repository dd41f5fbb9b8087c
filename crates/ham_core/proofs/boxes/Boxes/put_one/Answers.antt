use Rattle.std.proofs.Common.{◌∙◌, ap, arith}
use Rattle.ham_journal.specs.Cores.{with_room}
use Rattle.ham_core.proofs.Boxed.{item_roomy, still_roomy, item_box, item_set}
use Rattle.ham_core.proofs.boxes.Boxes.put_one.Goals as goal

pub push-requires : goal.push-requires
push-requires c = record { room = item_roomy c.self.inside.held.items c.saturating_sub-at.result c.index_mut.result.now c.self.invariant (omega (arith, c.if-at-len.true, c.len.ensures)) c.index_mut.ensures.value }

pub invariant_of-self : goal.invariant_of-self
invariant_of-self c = still_roomy c.self.inside.held.items c.saturating_sub-at.result c.index_mut.result.now c.push.new.queue c.self.invariant (omega (arith, c.if-at-len.true, c.len.ensures)) c.index_mut.ensures.value c.push.ensures.cap

pub returns-then-at-len : goal.returns-then-at-len
returns-then-at-len c =
    item_set c.self.inside.held.items c.args.self.now c.saturating_sub-at.result c.args.to c.push.new.queue _ c.self.view_is (omega arith)
    (c.push.ensures.items ∙ ap (λ b. with_room b c.args.waiting) (item_box c.self.inside.held.items c.args.self.now c.saturating_sub-at.result c.args.to c.index_mut.result.now c.self.view_is (omega (arith, c.if-at-len.true, c.len.ensures)) (omega arith) c.index_mut.ensures.value))
