use Rattle.std.proofs.Common.{◌∙◌, ◌<◌, ◌≤◌, arith, length}
use Rattle.std.proofs.lemmas.List.{length-set}
use Rattle.ham_rules.specs.declared.claim.Claim.TheVariants.{Is}
use Rattle.ham_rules.specs.Derivations.{is_derivable}
use Rattle.ham_tables.proofs.Filling.{known_more}
use Rattle.ham_tables.proofs.deriver.each_sufficient.Goals as goal

pub loop-m-preserved : goal.loop-m-preserved
loop-m-preserved c =
    let few : length c.methods.result.now ≤ 32 = rw c.methods.ensures.methods c.methods.ensures.checked.few_methods in
    let within : c.loop-m.m < length c.loop-m.each = omega (arith, c.loop-m-test.true, few, c.loop-m.invariant.long) in
    record {
      long = length-set _ _ _ ∙ c.loop-m.invariant.long;
      known = known_more (λ q. is_derivable c.args.object.now (Is q)) c.loop-m.each c.loop-m.m c.derivable.result within c.loop-m.invariant.known c.derivable.ensures.computed;
    }
