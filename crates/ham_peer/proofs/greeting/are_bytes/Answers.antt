use Rattle.ham_frame.proofs.Typed.{all_below}
use Rattle.ham_peer.proofs.greeting.are_bytes.Goals as goal

pub returns-clause-each : goal.returns-clause-each
returns-clause-each c = all_below 256 c.args.digest.now c.fits-digest
