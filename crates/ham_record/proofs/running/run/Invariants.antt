use Rattle.std.proofs.Common.{◌≡◌, ◌+◌, ◌≤◌, length}
use Rattle.ham_text.specs.Cuts.{lines_of}
use Rattle.ham_replay.specs.Replays.{played, played_lines}
use Rattle.ham_replay.specs.Claims.{settings_of}
use Rattle.ham_record.proofs.running.run.Given as goal

abbrev pub invariant-loop-rest : goal.invariant-loop-rest
invariant-loop-rest l =
    record {
      same : played l.object (settings_of l.plans.at) l.schedule ≡ played_lines l.object (settings_of l.plans.at) l.number (lines_of l.rest);
      few : l.number + length l.rest ≤ length l.schedule + 1;
    }

abbrev pub decreases-loop-rest : goal.decreases-loop-rest
decreases-loop-rest l = length l.rest
