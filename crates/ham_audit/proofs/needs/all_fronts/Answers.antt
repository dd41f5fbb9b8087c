use Rattle.std.proofs.Common.{◌≡◌, ◌⊎◌, ◌++◌, ◌∷◌, [], ℕ, ◌+◌, ◌-◌, ◌<◌, ◌≤◌, length, length-append, get_or, List, sym, subst, ap, ◌∙◌, inl, inr, arith}
use Rattle.std.proofs.lemmas.Bool.{cases_eq}
use Rattle.std.proofs.lemmas.List.{get_or_push, get_or_append_left}
use Rattle.ham_syntax.specs.declared.act.Place.{Place}
use Rattle.ham_turns.specs.Settings.{IsReplica}
use Rattle.ham_site.specs.Sites.{setting_at}
use Rattle.ham_audit.specs.Records.{log_of}
use Rattle.ham_audit.specs.Lateness.{AreFronts}
use Rattle.ham_audit.proofs.Reaching.{kept_fronts}
use Rattle.ham_audit.proofs.needs.all_fronts.Goals as goal

pub overflow_add-replica-end : goal.overflow_add-replica-end
overflow_add-replica-end c =
    let few = c.me-me.ensures.site.tabled.few_replicas in
    let n = c.replicas-replica-end.ensures in
    omega arith

pub loop-replica-preserved : goal.loop-replica-preserved
loop-replica-preserved c =
    let y = setting_at c.args.site.now in
    let old = c.loop-replica.fronts in
    let x = c.in_ok-fronts_of.field-0 in
    let pushed = c.in_ok-push.ensures.ok in
    let size = length-append old (x ∷ []) in
    let many = ap (λ (l : List (List (List Place))). length l) pushed in
    let was = c.loop-replica.invariant.many in
    let step = kept_fronts y c.args.logs.now c.loop-replica.replica old x c.loop-replica.invariant.many c.loop-replica.invariant.each c.loop-replica.invariant.size c.in_ok-fronts_of.ensures.fronts c.in_ok-fronts_of.ensures.size in
    record {
      many = omega (arith, size, many, was);
      each = λ r there less. subst (λ (l : List (List (List Place))). AreFronts y r (log_of c.args.logs.now r) (get_or l (r - 1) [])) (sym pushed) (step r there less).0;
      size = λ r there less. subst (λ (l : List (List (List Place))). length (get_or l (r - 1) []) ≡ length (log_of c.args.logs.now r)) (sym pushed) (step r there less).1;
    }
