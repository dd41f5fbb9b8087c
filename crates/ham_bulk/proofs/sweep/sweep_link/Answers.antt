use Rattle.ham_bulk.proofs.After.{ok_then, link_reached}
use Rattle.ham_bulk.proofs.sweep.sweep_link.Goals as goal

pub returns : goal.returns
returns c = ok_then c.deliver.result
    (link_reached c.args.world.now c.deliver.new.world c.args.draft.now c.deliver.new.draft c.args.reached.now _ (record { from = c.args.from; to = c.args.to }) _ _
    c.sent-count.ensures c.reach-before.ensures.before c.reach-before.ensures.after) c.deliver.ensures
