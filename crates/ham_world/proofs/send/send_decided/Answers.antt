use Rattle.ham_world.proofs.send.send_decided.Goals as goal

pub returns-in-Some-clause-links : goal.returns-in-Some-clause-links
returns-in-Some-clause-links c = rw c.in-Some.is c.send_call.ensures.links
