use Rattle.ham_meaning.specs.OfObjects.{meaning}
use Rattle.ham_laws.proofs.Keeping.{delivery_keeps}
use Rattle.ham_laws.proofs.Drain.{part_keeps}
use Rattle.ham_laws.proofs.turns.deliveries_keep.Goals as goal

pub returns : goal.returns
returns c = record {
  deliveries = λ o p e later well turn. delivery_keeps (meaning o) p e later well turn;
  half_way = λ o p e later r delivered well turn. part_keeps (meaning o) p e later r delivered well turn;
}
