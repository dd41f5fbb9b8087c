use Rattle.std.proofs.Common.{◌≡◌, ◌<◌, length, map, arith}
use Rattle.std.proofs.lemmas.List.{length-map}
use Rattle.std.proofs.lemmas.Result.{on_ok_weaker}
use Rattle.ham_frame.specs.Spelling.{spelling}
use Rattle.ham_world.proofs.Events.{idle_set, idle_at, links_at}
use Rattle.ham_world.proofs.step.tear_at.Goals as goal

here : (c : goal.After-index_mut-decoder) → c.index-link.result.now ≡ map spelling c.requires.part.0
here c = links_at c.args.links.now.items c.args.at c.index-link.result.now (map spelling c.requires.part.0) c.requires.part.2 c.index-link.ensures

pub tear_link-requires-clause-idle : goal.tear_link-requires-clause-idle
tear_link-requires-clause-idle c =
    let lt : c.args.at < length c.args.decoders.now.items = omega (arith, c.requires.idle.0, c.requires.at) in
    idle_at c.args.decoders.now.items c.args.at c.index_mut-decoder.result.now c.requires.idle lt c.index_mut-decoder.ensures.value

pub tear_link-requires-clause-last : goal.tear_link-requires-clause-last
tear_link-requires-clause-last c = rw (here c, length-map c.requires.part.0 spelling) c.requires.part.3

pub tear_link-requires-clause-part : goal.tear_link-requires-clause-part
tear_link-requires-clause-part c = (c.requires.part.0, c.requires.part.1, here c, c.requires.part.4)

pub returns : goal.returns
returns c = on_ok_weaker c.tear_link.result (λ h. idle_set c.args.decoders.now.items c.args.at c.tear_link.new.decoder c.requires.idle h) c.tear_link.ensures
