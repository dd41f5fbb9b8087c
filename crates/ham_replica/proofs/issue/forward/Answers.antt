use Rattle.ham_replica.specs.Shown.{lists_of}
use Rattle.ham_replica.specs.Values.{words}
use Rattle.ham_replica.proofs.Staying.{one_frame}
use Rattle.ham_replica.proofs.Forwarding.{forwarded, lane_elsewhere, few_requests}
use Rattle.ham_replica.proofs.Refusing.{accepted_elsewhere}
use Rattle.ham_replica.proofs.issue.forward.Goals as goal

pub returns-in-Ok : goal.returns-in-Ok
returns-in-Ok c =
    let few = few_requests c.args.site.now (lists_of c.args.held.now) c.requires.kept c.args.act.now c.args.group c.requires.may in
    record {
      accepted = accepted_elsewhere c.args.site.now (words (lists_of c.args.held.now)) c.args.act.now
          c.requires.may.method c.requires.may.fits (lane_elsewhere c.args.site.now c.args.act.now c.args.group c.requires.may) (few c.in-Ok.ensures.2);
      frame = c.requires.may.frame;
      answers = forwarded c.args.site.now (lists_of c.args.held.now) c.requires.kept c.args.act.now c.args.group c.requires.may
          _ _ _ _ _ c.requires.settled c.in-Ok.ensures.2 c.in-Ok.ensures.0 c.decider_of-to.ensures c.in-Ok.ensures.1
          (one_frame _ _ _ _ c.of_frames.ensures c.with_frame.ensures c.in_ok-rest.ensures.empty) c.new.ensures;
    }
