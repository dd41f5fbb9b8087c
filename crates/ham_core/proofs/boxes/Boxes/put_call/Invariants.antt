use Rattle.std.proofs.Common.{◌≡◌, length, fold, Some}
use Rattle.ham_site.specs.Outs.{calls_to}
use Rattle.ham_core.specs.Waits.{put}
use Rattle.ham_core.proofs.boxes.Boxes.put_call.Given as goal

abbrev pub invariant-loop-at : goal.invariant-loop-at
invariant-loop-at l =
    record {
      boxes : l.self ≡ fold put l.initial.self (calls_to l.me l.at (Some l.call));
      count : l.count ≡ length (calls_to l.me l.at (Some l.call));
    }
