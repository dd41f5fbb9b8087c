use Rattle.std.proofs.Common.{◌≡◌, ◌+◌, ◌≤◌, false, length}
use Rattle.ham_text.specs.Cuts.{lines_of}
use Rattle.ham_replay.specs.Ends.{left}
use Rattle.ham_record.proofs.Steps.{Running}
use Rattle.ham_record.proofs.running.run_rest.Given as goal

abbrev pub invariant-loop-rest : goal.invariant-loop-rest
invariant-loop-rest l =
    record {
      running : Running l.fn.world l.world (left l.fn.world l.fn.first (lines_of l.lines)) (left l.world l.number (lines_of l.rest));
      going : l.world.stopped ≡ false;
      few : l.number + length l.rest ≤ l.fn.first + length l.lines;
    }

abbrev pub decreases-loop-rest : goal.decreases-loop-rest
decreases-loop-rest l = length l.rest
