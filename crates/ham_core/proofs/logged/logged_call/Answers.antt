use Rattle.ham_core.proofs.Recording.{none_there, copied_found}
use Rattle.ham_core.proofs.logged.logged_call.Goals as goal

pub returns : goal.returns
returns c = copied_found c.args.replica.now.lists c.args.place.now c.call_at.result c.in-Some.call c.copy.result c.in-Some.is c.call_at.ensures.call c.copy.ensures

pub unreachable-requires : goal.unreachable-requires
unreachable-requires c = none_there c.call_at.result c.in-None.is (c.call_at.ensures.logged.1 c.requires)
