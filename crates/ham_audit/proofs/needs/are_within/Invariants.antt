use Rattle.std.proofs.Common.{◌≤◌, take}
use Rattle.std.specs.Prelude.{slice_index, All}
use Rattle.ham_audit.proofs.needs.are_within.Given as goal

abbrev pub invariant-loop-place : goal.invariant-loop-place
invariant-loop-place l = All (λ p. p.number ≤ slice_index l.counts p.lane) (take l.place-index l.reached)
