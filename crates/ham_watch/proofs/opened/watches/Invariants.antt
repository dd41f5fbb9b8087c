use Rattle.std.proofs.Common.{◌≡◌, map, take}
use Rattle.ham_steps.specs.Content.{opening}
use Rattle.ham_watch.specs.Watches.{AreWatches, HaveRoom}
use Rattle.ham_watch.proofs.opened.watches.Given as goal

abbrev pub invariant-loop-invariant : goal.invariant-loop-invariant
invariant-loop-invariant l = record {
  watched : AreWatches opening l.watches.items;
  room : HaveRoom 0 l.watches.items;
  invariants : map (λ w. w.invariant) l.watches.items ≡ take l.invariant-index l.invariants;
}
