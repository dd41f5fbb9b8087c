use Rattle.std.proofs.Common.{◌≡◌, take}
use Rattle.std.specs.Prelude.{filter_map}
use Rattle.ham_replica.specs.Values.{words}
use Rattle.ham_journal.specs.Cores.{call_had}
use Rattle.ham_core.proofs.logged.logged_calls.Given as goal

abbrev pub invariant-loop-place : goal.invariant-loop-place
invariant-loop-place l = l.calls.items ≡ filter_map (call_had (words l.replica.lists)) (take l.place-index l.replica.lists.log)
