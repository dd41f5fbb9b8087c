use Rattle.std.proofs.Common.{◌≡◌, ℕ, ◌+◌, ◌-◌, ◌<◌, length, get_or, []}
use Rattle.ham_turns.specs.Settings.{IsReplica}
use Rattle.ham_site.specs.Sites.{setting_at}
use Rattle.ham_audit.specs.Records.{log_of}
use Rattle.ham_audit.specs.Lateness.{AreFronts}
use Rattle.ham_audit.proofs.needs.all_fronts.Given as goal

abbrev pub invariant-loop-replica : goal.invariant-loop-replica
invariant-loop-replica l = record {
  many : length l.fronts + 1 ≡ l.replica;
  each : (r : ℕ) → IsReplica (setting_at l.site) r → r < l.replica → AreFronts (setting_at l.site) r (log_of l.logs r) (get_or l.fronts (r - 1) []);
  size : (r : ℕ) → IsReplica (setting_at l.site) r → r < l.replica → length (get_or l.fronts (r - 1) []) ≡ length (log_of l.logs r);
}
