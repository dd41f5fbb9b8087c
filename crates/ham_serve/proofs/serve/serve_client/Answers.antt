use Rattle.std.proofs.Common.{◌∙◌, refl, arith}
use Rattle.ham_serve.proofs.Talks.{talked_start, round_at, halt_at}
use Rattle.ham_serve.proofs.serve.serve_client.Goals as goal

pub loop-init : goal.loop-init
loop-init g c =
    record {
      talked = talked_start _ _ _ _ _ _ _ c.new-held.ensures.items;
      later = omega arith;
      faults = omega arith;
      ends = omega arith;
      object = refl;
      plan = refl;
      me = refl;
    }

pub returns-in-Err-clause-talk : goal.returns-in-Err-clause-talk
returns-in-Err-clause-talk g c =
    let i = c.loop.invariant in
    halt_at _ _ _ _ _ _ _ _ _ _ _ _ _ _ _ _ _ i.object i.plan i.me i.talked c.in-Err.ensures.off

pub loop-preserved : goal.loop-preserved
loop-preserved g c =
    let i = c.loop.invariant in
    record {
      talked = round_at _ _ _ _ _ _ _ _ _ _ _ _ _ _ _ _ _ i.object i.plan i.me i.talked c.in-Ok.ensures.on;
      later = omega (arith, i.later, c.round.ensures.later);
      faults = omega (arith, i.faults, c.round.ensures.faults);
      ends = omega (arith, i.ends, c.round.ensures.ends);
      object = c.round.ensures.object ∙ i.object;
      plan = c.round.ensures.plan ∙ i.plan;
      me = c.round.ensures.me ∙ i.me;
    }
