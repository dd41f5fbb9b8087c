use Rattle.std.proofs.Common.{◌≤◌, take}
use Rattle.ham_frame.specs.Spelling.{stream}
use Rattle.ham_links.specs.Links.{Goes}
use Rattle.ham_peer.proofs.feeding.send_all.Given as goal

abbrev pub invariant-loop-frame : goal.invariant-loop-frame
invariant-loop-frame g l =
    record {
      sent : Goes (g.K.Link.sent l.initial.link) (g.K.Link.sent l.link) (stream (take l.frame-index l.all));
      later : g.K.Link.faults l.initial.link ≤ g.K.Link.faults l.link;
    }
