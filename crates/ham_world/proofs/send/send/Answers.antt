use Rattle.std.specs.Option.{option_copied}
use Rattle.ham_site.specs.Outs.{calls_to}
use Rattle.ham_world.specs.Sending.{IsOnLink}
use Rattle.ham_world.proofs.Each.{each-parts}
use Rattle.ham_world.proofs.Sent.{sends_twice}
use Rattle.ham_world.proofs.send.send.Goals as goal

pub send_decided-requires-clause-on : goal.send_decided-requires-clause-on
send_decided-requires-clause-on c = (each-parts IsOnLink (calls_to c.parts-parts.result.me c.parts-parts.result.replicas (option_copied c.parts-parts.result.call)) c.parts-parts.result.rest.now (rw c.parts-parts.ensures at c.requires.on)).0

pub send_all-requires-clause-on : goal.send_all-requires-clause-on
send_all-requires-clause-on c = (each-parts IsOnLink (calls_to c.parts-parts.result.me c.parts-parts.result.replicas (option_copied c.parts-parts.result.call)) c.parts-parts.result.rest.now (rw c.parts-parts.ensures at c.requires.on)).1

pub returns-clause-links : goal.returns-clause-links
returns-clause-links c =
    sends_twice c.args.links.now.items c.send_decided.new.links.items c.send_all.new.links.items c.args.me (calls_to c.parts-parts.result.me c.parts-parts.result.replicas (option_copied c.parts-parts.result.call)) c.parts-parts.result.rest.now c.args.outs.now c.parts-parts.ensures
    c.in_ok-calls.ensures.links c.in_ok-send_all.ensures.links
