use Rattle.std.proofs.Common.{◌≤◌, ◌+◌, length, None}
use Rattle.ham_serve.specs.Hearing.{HeardTo}
use Rattle.ham_serve.proofs.hearing.hear.Given as goal

abbrev pub invariant-loop-rest : goal.invariant-loop-rest
invariant-loop-rest l =
    record {
      heard : HeardTo l.object l.held l.inputs.items None l.rest;
      left : length l.rest + length l.inputs.items ≤ length l.held;
    }

abbrev pub decreases-loop-rest : goal.decreases-loop-rest
decreases-loop-rest l = length l.rest
