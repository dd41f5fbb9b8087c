use Rattle.std.proofs.Common.{arith}
use Rattle.ham_world.proofs.Events.{a_part}
use Rattle.ham_world.proofs.step.tear_link.Goals as goal

pub slice_bounds-feed-end : goal.slice_bounds-feed-end
slice_bounds-feed-end c = (a_part c.spellings_are_short.ensures c.requires.part.0 c.args.link.now c.args.which c.args.bytes c.span-frame.result.now c.requires.part.1 c.requires.part.2 c.requires.first c.requires.last c.requires.part.3 c.span-frame.ensures).cut

pub feed-requires-clause-room : goal.feed-requires-clause-room
feed-requires-clause-room c = omega (arith, c.renew.ensures.few, (a_part c.spellings_are_short.ensures c.requires.part.0 c.args.link.now c.args.which c.args.bytes c.span-frame.result.now c.requires.part.1 c.requires.part.2 c.requires.first c.requires.last c.requires.part.3 c.span-frame.ensures).few)

pub feed-requires-clause-viable : goal.feed-requires-clause-viable
feed-requires-clause-viable c = rw c.renew.ensures.idle.rest (a_part c.spellings_are_short.ensures c.requires.part.0 c.args.link.now c.args.which c.args.bytes c.span-frame.result.now c.requires.part.1 c.requires.part.2 c.requires.first c.requires.last c.requires.part.3 c.span-frame.ensures).viable
