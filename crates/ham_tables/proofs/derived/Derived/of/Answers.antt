use Rattle.std.proofs.Common.{◌<◌, sym, subst}
use Rattle.ham_tables.specs.DerivedPlans.{IsDerived}
use Rattle.ham_tables.proofs.Deriving.{among_symmetric}
use Rattle.ham_tables.proofs.derived.Derived.of.Goals as goal

pub invariant_of-result : goal.invariant_of-result
invariant_of-result c = record {
  few_methods = c.of-deriver.result.few;
  symmetric = among_symmetric c.of-deriver.result.object.now c.of-deriver.result.symmetric _ c.conflicts.result.at c.conflicts.ensures;
}

pub returns : goal.returns
returns c =
    let d = c.of-deriver.result in
    subst (λ o. IsDerived o (record { methods = d.methods; conflict = c.conflicts.result.at; depends = c.dependencies.result.at })) c.of-deriver.ensures
    (record {
      methods = d.all;
      conflict = λ m n h k. c.conflicts.ensures m n (subst (λ q. m < q) (sym d.all) h) (subst (λ q. n < q) (sym d.all) k);
      depends = λ m n h k. c.dependencies.ensures m n (subst (λ q. m < q) (sym d.all) h) (subst (λ q. n < q) (sym d.all) k);
    })
