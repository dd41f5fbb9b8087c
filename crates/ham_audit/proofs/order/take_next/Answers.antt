use Rattle.std.proofs.Common.{◌≡◌, ◌<◌, ◌≤◌, ◌+◌, ℕ, None, Some, sym, subst, ap, ◌∙◌, arith}
use Rattle.std.specs.Option.{option_map}
use Rattle.ham_site.specs.Sites.{setting_at}
use Rattle.ham_records.specs.declared.records.Logged.{Logged}
use Rattle.ham_audit.specs.Order.{next_taken, taken_after}
use Rattle.ham_audit.specs.Passing.{next_in, own_in}
use Rattle.ham_audit.proofs.Choosing.{next_from, next_is, from_none, from_some}
use Rattle.ham_audit.proofs.order.take_next.Goals as goal

pub overflow_add-replica-end : goal.overflow_add-replica-end
overflow_add-replica-end c =
    let few = c.me-me.ensures.site.tabled.few_replicas in
    let n = c.replicas-replica-end.ensures in
    omega arith

pub decide-requires-clause-new : goal.decide-requires-clause-new
decide-requires-clause-new c =
    let y = setting_at c.args.site.now in
    let records = c.args.logs.now in
    let p = c.advance.new.progress in
    let r = c.loop-replica.replica in
    let taken = taken_after y records p.count in
    let found = sym c.own_next.ensures ∙ c.in-Some.is in
    let n = c.replicas-replica-end.ensures in
    let here = c.loop-replica-test.true in
    sym (subst (λ k. next_from y records (taken_after y records k) r y.replicas ≡ next_taken y records (taken_after y records k)) (sym c.in_ok-advance.ensures.count) c.loop-replica.invariant.rest)
    ∙ from_some y records taken r y.replicas c.in-Some.logged.place (omega arith)
    (next_is y records taken p.at.items r c.in_ok-advance.ensures.next ∙ ap (option_map (λ (e : Logged). e.place)) found)

pub loop-replica-preserved : goal.loop-replica-preserved
loop-replica-preserved c =
    let y = setting_at c.args.site.now in
    let records = c.args.logs.now in
    let p = c.advance.new.progress in
    let r = c.loop-replica.replica in
    let taken = taken_after y records p.count in
    let found = sym c.own_next.ensures ∙ c.in_default.is in
    let n = c.replicas-replica-end.ensures in
    let here = c.loop-replica-test.true in
    record {
      at = c.in_ok-advance.ensures.at;
      count = c.in_ok-advance.ensures.count ∙ c.loop-replica.invariant.count;
      rest = from_none y records taken r y.replicas (omega arith)
          (next_is y records taken p.at.items r c.in_ok-advance.ensures.next ∙ ap (option_map (λ (e : Logged). e.place)) found)
          ∙ subst (λ k. next_from y records (taken_after y records k) r y.replicas ≡ next_taken y records (taken_after y records k)) (sym c.in_ok-advance.ensures.count) c.loop-replica.invariant.rest;
    }
