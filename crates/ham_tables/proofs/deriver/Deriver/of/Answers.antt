use Rattle.std.proofs.Common.{◌<◌, ap, length, subst}
use Rattle.ham_tables.proofs.Deriving.{conflict_symmetric}
use Rattle.ham_tables.proofs.deriver.Deriver.of.Goals as goal

pub invariant_of-result : goal.invariant_of-result
invariant_of-result c = record {
  all = ap length c.methods.ensures.methods;
  few = rw c.methods.ensures.methods c.methods.ensures.checked.few_methods;
  symmetric = λ m n. conflict_symmetric c.args.object.now m n c.methods.ensures.checked;
  known = λ m h. c.each_sufficient-sufficient.ensures m (subst (λ k. m < k) (ap length c.methods.ensures.methods) h);
}
