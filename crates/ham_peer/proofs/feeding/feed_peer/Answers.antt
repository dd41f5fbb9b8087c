use Rattle.std.proofs.Common.{◌∙◌, subst, arith, refl}
use Rattle.ham_frame.specs.declared.frame.Frame.{Frame}
use Rattle.ham_frame.specs.Spelling.{spelling}
use Rattle.ham_links.specs.Links.{Goes, GoesSome}
use Rattle.ham_peer.specs.Collecting.{FeedRound, FeedHalt}
use Rattle.ham_peer.proofs.Delivered.{at_home}
use Rattle.ham_peer.proofs.Collected.{hello_failed, hello_sent, feeding_on, feeding_ends}
use Rattle.ham_peer.proofs.feeding.feed_peer.Goals as goal

pub returns-in-Err-clause-fed : goal.returns-in-Err-clause-fed
returns-in-Err-clause-fed g c = hello_failed _ _ _ _ _ c.args.greeting.now _ (g.K.Link.sent c.args.link.now) (g.K.Link.sent c.send.new.link) _ _
    (subst (λ (f : Frame). GoesSome (g.K.Link.sent c.args.link.now) (g.K.Link.sent c.send.new.link) (spelling f)) c.hello-first.ensures.hello c.in-Err.ensures.front) c.in-Err.ensures.cause

pub loop-init : goal.loop-init
loop-init g c =
    record {
      feeding = hello_sent _ _ _ _ c.args.greeting.now _ (g.K.Link.sent c.args.link.now) (g.K.Link.sent c.send.new.link)
          (subst (λ (f : Frame). Goes (g.K.Link.sent c.args.link.now) (g.K.Link.sent c.send.new.link) (spelling f)) c.hello-first.ensures.hello c.in-Ok.ensures.sent);
      later = c.send.ensures.later;
      stops = omega arith;
      fulls = omega arith;
      object = refl;
      plan = refl;
      me = refl;
    }

pub loop-preserved : goal.loop-preserved
loop-preserved g c =
    let i = c.loop.invariant in
    record {
      feeding = feeding_on _ _ _ _ _ _ _ _ _ _ _ i.feeding
          (at_home (λ o p m. FeedRound o p m c.args.peer (g.D.Door.history c.loop.door) (g.D.Door.history c.feed_round.new.door) (g.K.Link.sent c.loop.link) (g.K.Link.sent c.feed_round.new.link)) _ _ _ _ _ _ i.object i.plan i.me c.in-Ok-feed_round.ensures.on);
      later = omega (arith, i.later, c.feed_round.ensures.later);
      stops = omega (arith, i.stops, c.feed_round.ensures.stops);
      fulls = omega (arith, i.fulls, c.feed_round.ensures.fulls);
      object = c.feed_round.ensures.object ∙ i.object;
      plan = c.feed_round.ensures.plan ∙ i.plan;
      me = c.feed_round.ensures.me ∙ i.me;
    }

pub loop-preserved-then-none : goal.loop-preserved-then-none
loop-preserved-then-none g c =
    let i = c.loop.invariant in
    record {
      feeding = feeding_on _ _ _ _ _ _ _ _ _ _ _ i.feeding
          (at_home (λ o p m. FeedRound o p m c.args.peer (g.D.Door.history c.loop.door) (g.D.Door.history c.feed_round.new.door) (g.K.Link.sent c.loop.link) (g.K.Link.sent c.feed_round.new.link)) _ _ _ _ _ _ i.object i.plan i.me c.in-Ok-feed_round.ensures.on);
      later = omega (arith, i.later, c.feed_round.ensures.later);
      stops = omega (arith, i.stops, c.feed_round.ensures.stops);
      fulls = omega (arith, i.fulls, c.feed_round.ensures.fulls);
      object = c.feed_round.ensures.object ∙ i.object;
      plan = c.feed_round.ensures.plan ∙ i.plan;
      me = c.feed_round.ensures.me ∙ i.me;
    }

pub returns-in-Err-feed_round-clause-fed : goal.returns-in-Err-feed_round-clause-fed
returns-in-Err-feed_round-clause-fed g c =
    let i = c.loop.invariant in
    feeding_ends _ _ _ _ _ _ _ _ _ _ _ _ i.feeding
    (at_home (λ o p m. FeedHalt c.in-Err-feed_round.end o p m c.args.peer (g.D.Door.history c.loop.door) (g.D.Door.history c.feed_round.new.door) (g.K.Link.sent c.loop.link) (g.K.Link.sent c.feed_round.new.link)) _ _ _ _ _ _ i.object i.plan i.me c.in-Err-feed_round.ensures.off)
