use Rattle.std.proofs.Common.{◌≡◌, ◌+◌, ◌++◌, ◌∙◌, List, drop, take, sym, arith, refl, inl, inr}
use Rattle.ham_frame.specs.declared.frame.Frame.{Frame}
use Rattle.ham_peer.specs.Delivering.{None_yet, Meets, Ends, Goes, going}
use Rattle.ham_peer.proofs.Each.{all_cut}
use Rattle.ham_peer.proofs.Delivered.{at_home, delivers_next}
use Rattle.ham_peer.proofs.meeting.meet_all.Goals as goal

pub loop-frame-init : goal.loop-frame-init
loop-frame-init g c =
    record {
      met = None_yet;
      replica = c.requires.replica;
      another = c.requires.another;
      stops = omega arith;
      fulls = omega arith;
      refusals = omega arith;
      object = refl;
      plan = refl;
      me = refl;
    }

pub loop-frame-preserved : goal.loop-frame-preserved
loop-frame-preserved g c =
    let i = c.loop-frame.invariant in
    record {
      met = delivers_next _ _ _ _ _ _ _ _ _ _ c.items-all.result.now c.loop-frame.frame-index c.frame-item.result c.loop-frame-test.true c.frame-item.is i.met
          (at_home (λ o p m. Meets o p m c.args.greeting.now (going c.loop-frame.greeted) (g.D.Door.history c.loop-frame.door) c.frame-item.result Goes (g.D.Door.history c.meet.new.door)) _ _ _ _ _ _ i.object i.plan i.me (rw c.in-Ok.ensures at c.in-Ok-meet.ensures.on));
      replica = rw c.meet.ensures.plan i.replica;
      another = rw c.meet.ensures.me i.another;
      stops = omega (arith, i.stops, c.meet.ensures.stops);
      fulls = omega (arith, i.fulls, c.meet.ensures.fulls);
      refusals = omega (arith, i.refusals, c.meet.ensures.refusals);
      object = c.meet.ensures.object ∙ i.object;
      plan = c.meet.ensures.plan ∙ i.plan;
      me = c.meet.ensures.me ∙ i.me;
    }

pub returns-in-Err-clause-off : goal.returns-in-Err-clause-off
returns-in-Err-clause-off g c =
    let i = c.loop-frame.invariant in (
      take c.loop-frame.frame-index c.items-all.result.now,
      drop c.loop-frame.frame-index c.items-all.result.now,
      going c.loop-frame.greeted,
      sym c.items-all.ensures ∙ all_cut c.items-all.result.now c.loop-frame.frame-index,
      inr (refl, (c.loop-frame.greeted, refl)),
      i.met,
    )

pub returns-in-Err-meet-clause-off : goal.returns-in-Err-meet-clause-off
returns-in-Err-meet-clause-off g c =
    let i = c.loop-frame.invariant in (
      take (c.loop-frame.frame-index + 1) c.items-all.result.now,
      drop (c.loop-frame.frame-index + 1) c.items-all.result.now,
      Ends c.in-Err-meet.end,
      sym c.items-all.ensures ∙ all_cut c.items-all.result.now (c.loop-frame.frame-index + 1),
      inl refl,
      delivers_next _ _ _ _ _ _ _ _ _ _ c.items-all.result.now c.loop-frame.frame-index c.frame-item.result c.loop-frame-test.true c.frame-item.is i.met
          (at_home (λ o p m. Meets o p m c.args.greeting.now (going c.loop-frame.greeted) (g.D.Door.history c.loop-frame.door) c.frame-item.result (Ends c.in-Err-meet.end) (g.D.Door.history c.meet.new.door)) _ _ _ _ _ _ i.object i.plan i.me (rw c.in-Ok.ensures at c.in-Err-meet.ensures.off)),
    )
