use Rattle.std.proofs.lemmas.Result.{on_ok_weaker}
use Rattle.ham_world.proofs.Sent.{sends_one}
use Rattle.ham_world.proofs.send.send_one.Goals as goal

pub returns-clause-links : goal.returns-clause-links
returns-clause-links c = on_ok_weaker c.put.result
    (λ new. sends_one c.args.links.now.items c.args.me c.place.result c.args.out.now c.index_mut-link.result.now c.put.new.self c.place.ensures.is c.requires.me c.requires.on.some c.requires.on.few c.requires.links c.index_mut-link.ensures.value new)
    c.put.ensures.ok
