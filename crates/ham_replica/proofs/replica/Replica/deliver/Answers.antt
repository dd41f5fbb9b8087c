use Rattle.std.proofs.Common.{◌≢◌, sym, subst}
use Rattle.ham_turns.specs.Settings.{setting_of, IsReplica}
use Rattle.ham_turns.specs.Ready.{IsSettled}
use Rattle.ham_replica.specs.Values.{Replica, words}
use Rattle.ham_replica.specs.Shown.{lists_of}
use Rattle.ham_replica.proofs.Requesting.{kept_after}
use Rattle.ham_replica.proofs.Turned.{delivers}
use Rattle.ham_replica.proofs.replica.Replica.deliver.Goals as goal

pub invariant_of-self : goal.invariant_of-self
invariant_of-self c = kept_after _ _ _ _ _ c.deliver_in.result c.self.invariant c.deliver_in.ensures

pub returns-clause-turn : goal.returns-clause-turn
returns-clause-turn c =
    let is = sym c.self.view_is in
    rw (← c.self.view_is)
    (delivers c.self.inside.site (lists_of c.self.inside.held) _ c.args.from _ c.deliver_in.result (record {
      kept = c.self.invariant;
      settled = subst (λ (r : Replica). IsSettled (setting_of r.site.plan) (words r.lists)) is c.requires.settled;
      sender = subst (λ (r : Replica). IsReplica (setting_of r.site.plan) c.args.from) is c.requires.sender;
      another = subst (λ (r : Replica). c.args.from ≢ r.site.me) is c.requires.another;
    }) c.requires.fits c.deliver_in.ensures)
