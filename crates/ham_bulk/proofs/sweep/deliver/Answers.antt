use Rattle.std.proofs.Common.{◌<◌, arith, refl}
use Rattle.ham_bulk.specs.Drafts.{seen}
use Rattle.ham_bulk.proofs.After.{none_yet, one_delivered, all_delivered}
use Rattle.ham_bulk.proofs.sweep.deliver.Goals as goal

pub loop-frame-init : goal.loop-frame-init
loop-frame-init c = record {
  after = none_yet c.args.world.now c.args.draft.now (record { from = c.args.from; to = c.args.to }) c.args.first;
  still = λ h. refl;
}

pub loop-frame-preserved : goal.loop-frame-preserved
loop-frame-preserved c = record {
  after = one_delivered _ _ _ _ _ (seen c.args.world.now c.args.draft.now) (record { from = c.args.from; to = c.args.to }) c.args.first c.loop-frame.frame _ (omega arith) c.delivery.ensures
      c.loop-frame.invariant.after c.in_ok-take.ensures;
  still = λ (h : c.args.count < c.args.first). absurd (omega (arith, h));
}

pub returns : goal.returns
returns c = all_delivered _ _ _ (seen c.args.world.now c.args.draft.now) (record { from = c.args.from; to = c.args.to }) c.args.first c.args.count c.loop-frame.frame
    c.loop-frame.invariant.still (omega arith) (λ h. omega (arith, h)) c.loop-frame.invariant.after
