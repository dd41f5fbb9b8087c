use Rattle.std.proofs.Common.{◌≡◌, length, take}
use Rattle.ham_site.specs.Sites.{setting_at, slots_at}
use Rattle.ham_audit.specs.Records.{log_of}
use Rattle.ham_audit.specs.Lateness.{no_place, AreHighest, AreFarthest, AreFrontsBelow}
use Rattle.ham_audit.proofs.fronts.fronts_of.Given as goal

abbrev pub invariant-loop-logged : goal.invariant-loop-logged
invariant-loop-logged l = record {
  log : l.log ≡ log_of l.logs l.replica;
  lanes : length l.front.highest.items ≡ (setting_at l.site).lanes;
  slots : length l.front.farthest.items ≡ slots_at l.site;
  highest : AreHighest (take l.logged-index (log_of l.logs l.replica)) l.front.highest.items;
  farthest : AreFarthest (setting_at l.site) (take l.logged-index (log_of l.logs l.replica)) l.front.farthest.items no_place;
  fronts : AreFrontsBelow (setting_at l.site) l.replica (log_of l.logs l.replica) l.fronts l.logged-index;
  size : length l.fronts ≡ l.logged-index;
}
