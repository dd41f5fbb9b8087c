use Rattle.ham_bulk.proofs.After.{if_ok_then, in_new_world}
use Rattle.ham_bulk.proofs.drafting.drafted.Goals as goal

pub returns : goal.returns
returns c = if_ok_then c.draft_of.result (λ d. in_new_world c.args.object.now c.args.plan.now _ _ d c.args.seed c.args.rounds c.scripts_print.ensures c.in_ok-world.ensures) c.draft_of.ensures
