use Rattle.std.proofs.Common.{◌≡◌, ◌++◌, take}
use Rattle.std.specs.List.{flat_map}
use Rattle.ham_serve.specs.Recorded.{call_line}
use Rattle.ham_serve.proofs.recorded.push_recorded.Given as goal

abbrev pub invariant-loop-call : goal.invariant-loop-call
invariant-loop-call l = l.text ≡ l.initial.text ++ flat_map (call_line l.object) (take l.call-index l.calls)
