use Rattle.std.proofs.Common.{◌∙◌, arith, refl}
use Rattle.ham_peer.specs.Delivering.{PeerRound, PeerHalt}
use Rattle.ham_peer.proofs.Delivered.{at_home, starts, going_on, halts, carried}
use Rattle.ham_peer.proofs.serving.serve_peer.Goals as goal

pub loop-init : goal.loop-init
loop-init g c =
    record {
      going = starts _ _ _ _ _ _ _ c.new-decoder.ensures;
      replica = c.requires.replica;
      another = c.requires.another;
      faults = omega arith;
      ends = omega arith;
      stops = omega arith;
      fulls = omega arith;
      refusals = omega arith;
      object = refl;
      plan = refl;
      me = refl;
    }

pub loop-preserved : goal.loop-preserved
loop-preserved g c =
    let i = c.loop.invariant in
    record {
      going = going_on _ _ _ _ _ _ _ _ _ _ _ _ _ _ i.going
          (at_home (λ o p m. PeerRound o p m c.args.greeting.now (g.D.Door.history c.loop.door) (g.D.Door.history c.peer_round.new.door) (g.K.Link.left c.loop.link) (g.K.Link.left c.peer_round.new.link) c.loop.greeted c.in-Ok.now c.loop.decoder c.peer_round.new.decoder) _ _ _ _ _ _ i.object i.plan i.me c.in-Ok.ensures.on);
      replica = rw c.peer_round.ensures.plan i.replica;
      another = rw c.peer_round.ensures.me i.another;
      faults = omega (arith, i.faults, c.peer_round.ensures.later_faults);
      ends = omega (arith, i.ends, c.peer_round.ensures.later_ends);
      stops = omega (arith, i.stops, c.peer_round.ensures.stops);
      fulls = omega (arith, i.fulls, c.peer_round.ensures.fulls);
      refusals = omega (arith, i.refusals, c.peer_round.ensures.refusals);
      object = c.peer_round.ensures.object ∙ i.object;
      plan = c.peer_round.ensures.plan ∙ i.plan;
      me = c.peer_round.ensures.me ∙ i.me;
    }

pub returns-in-Err-clause-peered : goal.returns-in-Err-clause-peered
returns-in-Err-clause-peered g c =
    let i = c.loop.invariant in
    halts _ _ _ _ _ _ _ _ _ _ _ _ _ i.going
    (at_home (λ o p m. PeerHalt c.in-Err.end o p m c.args.greeting.now (g.D.Door.history c.loop.door) (g.D.Door.history c.peer_round.new.door) (g.K.Link.left c.loop.link) (g.K.Link.left c.peer_round.new.link) c.loop.greeted c.loop.decoder) _ _ _ _ _ _ i.object i.plan i.me c.in-Err.ensures.off)
