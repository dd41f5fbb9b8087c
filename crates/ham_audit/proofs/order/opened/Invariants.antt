use Rattle.std.proofs.Common.{◌≡◌}
use Rattle.std.specs.Prelude.{replicate, All}
use Rattle.ham_site.specs.Sites.{rules_at}
use Rattle.ham_audit.specs.Passing.{contents}
use Rattle.ham_audit.proofs.order.opened.Given as goal

abbrev pub invariant-loop : goal.invariant-loop
invariant-loop l = record {
  contents : contents l.states.items ≡ replicate l.counter (rules_at l.site).opening;
  opened : All (λ s. s.invariants ≡ l.site.object.invariants) l.states.items;
}
