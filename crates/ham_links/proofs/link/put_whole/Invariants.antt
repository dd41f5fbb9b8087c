use Rattle.std.proofs.Common.{◌≡◌, ◌≤◌, length}
use Rattle.ham_links.proofs.Sending.{Sending}
use Rattle.ham_links.proofs.link.put_whole.Given as goal

abbrev pub invariant-loop-rest : goal.invariant-loop-rest
invariant-loop-rest g l =
    record {
      sending : Sending (g.K.Link.sent l.initial.link) (g.K.Link.sent l.link) l.text l.rest;
      left : g.K.Link.left l.link ≡ g.K.Link.left l.initial.link;
      later : g.K.Link.faults l.initial.link ≤ g.K.Link.faults l.link;
      ends : g.K.Link.ends l.link ≡ g.K.Link.ends l.initial.link;
    }

abbrev pub decreases-loop-rest : goal.decreases-loop-rest
decreases-loop-rest g l = length l.rest
