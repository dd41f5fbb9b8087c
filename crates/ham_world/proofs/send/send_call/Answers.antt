use Rattle.std.proofs.Common.{◌≡◌, ◌≤◌, sym, arith}
use Rattle.ham_frame.specs.declared.frame.Frame.TheVariants as frames
use Rattle.ham_world.specs.Sending.{IsOnLink, first_but}
use Rattle.ham_world.proofs.Sent.{first_peer_is, peer_within}
use Rattle.ham_world.proofs.send.send_call.Goals as goal

pub put_frame-requires : goal.put_frame-requires
put_frame-requires c =
    let first = first_peer_is c.args.by in
    let there : first_but c.args.by ≤ c.args.replicas = omega (arith, c.first_peer.ensures, c.if-first_peer-replicas.false) in
    rw c.in_ok-copy.ensures (peer_within IsOnLink (frames.Call c.args.call.now) c.args.by c.args.replicas (first_but c.args.by) c.requires.on first.0 there first.1).fit

pub send_copies-requires-clause-few : goal.send_copies-requires-clause-few
send_copies-requires-clause-few c = λ q. λ some. λ few. λ other. (peer_within IsOnLink (frames.Call c.args.call.now) c.args.by c.args.replicas q c.requires.on some few other).few
