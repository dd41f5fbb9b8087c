use Rattle.std.proofs.Common.{rules, ◌≡◌, ℕ, ◌+◌, ◌-◌, arith, ap, sym, subst, ◌∙◌, refl, slice_set}
use Rattle.ham_site.specs.Sites.{rules_at}
use Rattle.ham_audit.specs.Passing.{contents}
use Rattle.ham_audit.proofs.Held.{at_is, state_is, contents_set}
use Rattle.std.proofs.lemmas.List.Elements.{All-set}
use Rattle.ham_state.specs.Store.{Store}
use Rattle.ham_audit.proofs.order.pass.Goals as goal

pub returns : goal.returns
returns c =
    let p = c.args.progress.now in
    let r = c.args.replica in
    let low = c.requires.replica.0 in
    let high = c.requires.replica.1 in
    let many_at = c.requires.at in
    let many_states = c.requires.states in
    let here = at_is p.at.items r c.index_mut-2.result.now low (omega arith) c.index_mut-2.ensures.value in
    let was = state_is p.states.items r c.index_mut.result.now (rules_at c.args.site.now).opening low (omega arith) c.index_mut.ensures.value in
    record {
      at = ap (λ n. slice_set p.at.items (r - 1) (n + 1)) here;
      states = contents_set p.states.items r c.apply.new.state
          ∙ ap (λ s. slice_set (contents p.states.items) (r - 1) s) (c.in_ok-apply.ensures.applied ∙ ap (λ s. (rules_at c.args.site.now).update c.args.logged.now.act s) was);
      opened = All-set (λ (s : Store). s.invariants ≡ c.args.site.now.object.invariants) p.states.items (r - 1) c.apply.new.state
          (c.in_ok-apply.ensures.invariants ∙ ap (λ (s : Store). s.invariants) c.index_mut.ensures.value ∙ c.requires.opened (r - 1) c.index_mut.result.now (omega arith)) c.requires.opened;
      count = refl;
      forbidden = refl;
    }
