use Rattle.ham_replica.specs.Shown.{lists_of}
use Rattle.ham_replica.proofs.Drained.{goes_nowhere, step_kept, step_goes, buffer_shorter, ends_settled, ends_stuck}
use Rattle.ham_replica.proofs.drain.drain.Goals as goal

pub drain-init : goal.drain-init
drain-init c = record { kept = c.requires; goes = goes_nowhere _ _ _ }

pub drain-preserved : goal.drain-preserved
drain-preserved c =
    record {
      kept = step_kept c.args.site.now _ _ _ _ c.drain.invariant.kept c.in-Logged.ensures;
      goes = step_goes c.args.site.now _ _ _ _ _ _ c.drain.invariant.kept c.drain.invariant.goes c.in-Logged.ensures;
    }

pub drain-smaller : goal.drain-smaller
drain-smaller c = buffer_shorter c.args.site.now (lists_of c.drain.held) (lists_of c.log_next.new.held) _ _ c.drain.invariant.kept c.in-Logged.ensures

pub returns-in-Settled : goal.returns-in-Settled
returns-in-Settled c = ends_settled _ _ _ _ _ _ _ c.drain.invariant.kept c.drain.invariant.goes c.in-Settled.ensures.0 c.in-Settled.ensures.1.0 c.in-Settled.ensures.1.1

pub returns-in-Stuck : goal.returns-in-Stuck
returns-in-Stuck c = ends_stuck _ _ _ _ _ _ _ c.drain.invariant.kept c.drain.invariant.goes c.in-Stuck.ensures
