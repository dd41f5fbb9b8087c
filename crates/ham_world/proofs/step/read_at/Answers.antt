use Rattle.std.proofs.Common.{◌≡◌, ◌<◌, List, Some, length, map, arith}
use Rattle.std.specs.Prelude.{slice_get}
use Rattle.std.proofs.lemmas.List.{length-map}
use Rattle.std.proofs.lemmas.Result.{IfOk-weaker, on_ok_weaker}
use Rattle.ham_frame.specs.declared.frame.Frame.{Frame}
use Rattle.ham_frame.specs.Spelling.{spelling}
use Rattle.ham_frame.specs.Spelling.{AllFit}
use Rattle.ham_world.specs.Worlds.{between}
use Rattle.ham_world.proofs.Events.{idle_set, idle_at, links_at}
use Rattle.ham_world.proofs.step.read_at.Goals as goal

here : (c : goal.After-index_mut-decoder) → c.index-link.result.now ≡ map spelling c.requires.cuts.0
here c = links_at c.args.links.now.items c.args.at c.index-link.result.now (map spelling c.requires.cuts.0) c.requires.cuts.2 c.index-link.ensures

pub read-requires-clause-idle : goal.read-requires-clause-idle
read-requires-clause-idle c =
    let lt : c.args.at < length c.args.decoders.now.items = omega (arith, c.requires.idle.0, c.requires.at) in
    idle_at c.args.decoders.now.items c.args.at c.index_mut-decoder.result.now c.requires.idle lt c.index_mut-decoder.ensures.value

pub read-requires-clause-last : goal.read-requires-clause-last
read-requires-clause-last c = rw (here c, length-map c.requires.cuts.0 spelling) c.requires.cuts.3

pub read-requires-clause-cuts : goal.read-requires-clause-cuts
read-requires-clause-cuts c = (c.requires.cuts.0, c.requires.cuts.1, here c, c.requires.cuts.4)

pub returns-clause-frames : goal.returns-clause-frames
returns-clause-frames c = IfOk-weaker c.read.result
    (λ frames. (fs : List Frame) → AllFit fs → c.index-link.result.now ≡ map spelling fs → frames ≡ between c.args.first c.args.last fs)
    (λ frames. (fs : List Frame) → AllFit fs → slice_get c.args.links.now.items c.args.at ≡ Some (map spelling fs) → frames ≡ between c.args.first c.args.last fs)
    (λ frames. λ h. λ fs. λ fit. λ e. h fs fit (links_at c.args.links.now.items c.args.at c.index-link.result.now (map spelling fs) e c.index-link.ensures))
    c.read.ensures.frames

pub returns-clause-idle : goal.returns-clause-idle
returns-clause-idle c = on_ok_weaker c.read.result (λ h. idle_set c.args.decoders.now.items c.args.at c.read.new.decoder c.requires.idle h) c.read.ensures.idle
