use Rattle.std.specs.FinMap as finmap
use Rattle.ham_replica.specs.Shown.{lists_of}
use Rattle.ham_replica.specs.Kept.{IsKept}
use Rattle.ham_replica.specs.Drains.{GoesOn}
use Rattle.ham_replica.proofs.drain.drain.Given as goal

abbrev pub invariant-drain : goal.invariant-drain
invariant-drain l = record {
  kept : IsKept l.site (lists_of l.held);
  goes : GoesOn l.site (lists_of l.initial.held) (lists_of l.held) l.initial.places.items l.places.items;
}

abbrev pub decreases-drain : goal.decreases-drain
decreases-drain l = finmap.len l.held.buffer.kept
