use Rattle.std.proofs.Common.{[], ◌∷◌, length, arith, sym, subst, ap, ◌∙◌}
use Rattle.std.proofs.lemmas.List.{length-append}
use Rattle.ham_site.specs.Tables.{IsMethodPlan, AreMethodPlans}
use Rattle.ham_site.proofs.Reading.{method_more}
use Rattle.ham_site.proofs.tables.method_plans.Goals as goal

pub loop-method-preserved : goal.loop-method-preserved
loop-method-preserved c =
    let items = c.in_ok-push.ensures.items in
    let many = c.loop-method.invariant.many in
    record {
      many = ap length items ∙ length-append c.loop-method.found.items (c.method_plan.result ∷ []) ∙ (let one = many in omega arith);
      each = subst (AreMethodPlans c.args.plan.now) (sym items)
          (method_more c.args.plan.now c.loop-method.found.items c.method_plan.result c.loop-method.invariant.each
          (subst (λ m. IsMethodPlan c.args.plan.now m c.method_plan.result) (sym many) c.method_plan.ensures));
    }
