use Rattle.std.proofs.Common.{arith}
use Rattle.ham_world.specs.Worlds.{between}
use Rattle.ham_world.proofs.Events.{Joined, joined, read_back}
use Rattle.ham_world.proofs.step.read.Goals as goal

whole : (c : goal.After-frames-1) → Joined c.requires.cuts.0 c.args.first c.args.last c.args.cuts.now c.span.result.now
whole c = joined c.spellings_are_short.ensures c.requires.cuts.0 c.args.link.now c.args.first c.args.last c.args.cuts.now c.span.result.now c.requires.cuts.1 c.requires.cuts.2 c.requires.first c.requires.last c.requires.cuts.3 c.span.ensures

pub decode-requires-clause-room : goal.decode-requires-clause-room
decode-requires-clause-room c = omega (arith, c.renew.ensures.few, (whole c).few)

pub decode-requires-clause-cuts : goal.decode-requires-clause-cuts
decode-requires-clause-cuts c = (whole c).ascend

pub decode-requires-clause-stream : goal.decode-requires-clause-stream
decode-requires-clause-stream c = (between c.args.first c.args.last c.requires.cuts.0, (whole c).fit, (whole c).spelled)

pub returns-in-Ok-clause-frames : goal.returns-in-Ok-clause-frames
returns-in-Ok-clause-frames c = λ fs. λ fit. λ e.
    read_back fs c.args.link.now c.args.first c.args.last c.span.result.now c.new-frames.result c.decode.new.frames fit e c.span.ensures c.new-frames.ensures c.in-Ok.ensures.read
