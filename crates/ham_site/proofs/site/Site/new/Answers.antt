use Rattle.std.proofs.Common.{sym, subst}
use Rattle.ham_syntax.specs.Objects.{Schema}
use Rattle.ham_site.specs.Sites.{rules_at, slots_at, IsSite}
use Rattle.ham_site.proofs.site.Site.new.Goals as goal

pub invariant_of-result : goal.invariant_of-result
unfolding rules_at slots_at
invariant_of-result c = (
  subst (λ (o : Schema). IsSite (record { object = o; plan = c.args.plan.now; me = c.args.me })) (sym c.in_ok-copy.ensures) (record {
    checked = c.methods-methods.ensures.checked;
    ranged = c.rules_are_ranged.ensures c.args.object.now c.methods-methods.ensures.checked;
    tabled = c.plans_are_tabled.ensures c.args.plan.now c.replicas-replicas.ensures.plan;
    me_exists = c.requires;
  }),
  record {
    many_methods = c.in_ok-methods.ensures.many;
    each_method = c.in_ok-methods.ensures.each;
    many_deciders = c.in_ok-deciders.ensures.many;
    each_decider = c.in_ok-deciders.ensures.each;
    groups = c.groups.ensures;
    lanes = c.lanes.ensures.lanes;
    slots = c.slots.ensures.slots;
  },
)
