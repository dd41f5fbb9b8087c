use Rattle.std.proofs.Common.{◌∙◌, refl, arith}
use Rattle.ham_node.specs.Beats.{Still}
use Rattle.ham_node.proofs.Beating.{beats_at}
use Rattle.ham_node.proofs.ticker.beat.Goals as goal

pub loop-init : goal.loop-init
loop-init g c = record { beats = Still; later = omega arith; object = refl; plan = refl; me = refl }

pub loop-preserved : goal.loop-preserved
loop-preserved g c =
    let i = c.loop.invariant in
    record {
      beats = beats_at _ _ _ _ _ _ _ _ _ _ i.beats i.object i.plan i.me c.enter.ensures.told;
      later = omega (arith, i.later, c.enter.ensures.stops);
      object = c.enter.ensures.object ∙ i.object;
      plan = c.enter.ensures.plan ∙ i.plan;
      me = c.enter.ensures.me ∙ i.me;
    }
