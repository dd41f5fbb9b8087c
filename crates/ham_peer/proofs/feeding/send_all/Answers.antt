use Rattle.std.proofs.Common.{List, subst, arith}
use Rattle.ham_frame.specs.declared.frame.Frame.{Frame}
use Rattle.ham_frame.specs.Spelling.{stream}
use Rattle.ham_links.specs.Links.{GoesSome}
use Rattle.ham_peer.proofs.Collected.{sent_next, sent_front}
use Rattle.ham_peer.proofs.feeding.send_all.Goals as goal

pub returns-in-Err-clause-front : goal.returns-in-Err-clause-front
returns-in-Err-clause-front g c =
    let i = c.loop-frame.invariant in
    subst (λ (fs : List Frame). GoesSome (g.K.Link.sent c.args.link.now) (g.K.Link.sent c.send.new.link) (stream fs)) c.items-all.ensures
    (sent_front _ _ _ c.items-all.result.now c.loop-frame.frame-index c.frame-item.result c.loop-frame-test.true c.frame-item.is i.sent c.in-Err.ensures.front)

pub loop-frame-preserved : goal.loop-frame-preserved
loop-frame-preserved g c =
    let i = c.loop-frame.invariant in
    record {
      sent = sent_next _ _ _ c.items-all.result.now c.loop-frame.frame-index c.frame-item.result c.loop-frame-test.true c.frame-item.is i.sent c.in-Ok.ensures.sent;
      later = omega (arith, i.later, c.send.ensures.later);
    }
