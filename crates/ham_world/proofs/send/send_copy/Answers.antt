use Rattle.std.proofs.Common.{sym}
use Rattle.ham_world.proofs.Sent.{sends_to}
use Rattle.ham_world.proofs.send.send_copy.Goals as goal

pub returns-in-Ok-clause-links : goal.returns-in-Ok-clause-links
returns-in-Ok-clause-links c = λ f. λ e.
    sends_to c.args.links.now.items c.args.me c.place.result c.args.by c.args.to f c.index_mut-link.result.now c.push.new.self c.args.spelled.now c.place.ensures.is c.requires.me c.requires.some (c.requires.few c.if-to-by.false) c.if-to-by.false c.requires.links c.index_mut-link.ensures.value c.in-Ok.ensures.ok e
