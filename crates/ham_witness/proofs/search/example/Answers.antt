use Rattle.std.proofs.Common.{List, sym, subst, true≢false}
use Rattle.ham_witness.specs.Cases.{Case}
use Rattle.ham_witness.specs.Shown.{NoneBreaks, IsFirstExample}
use Rattle.ham_witness.proofs.Breaking.{all-cases, holds_unless_sc}
use Rattle.ham_witness.proofs.search.example.Goals as goal

pub returns-in-Some-clause-answer : goal.returns-in-Some-clause-answer
returns-in-Some-clause-answer c =
    subst (λ (all : List Case). IsFirstExample c.args.object.now c.args.claim.now all c.in-Some.example) (all-cases c.args.object.now c.args.claim.now c.ids_of-ids.result c.ids_of-ids.ensures)
    (rw c.in-Some.is at c.in_ok-example.ensures)

pub returns-in-None-clause-answer : goal.returns-in-None-clause-answer
returns-in-None-clause-answer c = (
  λ d. true≢false (sym (c.if-derivable.ensures.exact.1 d)),
  subst (NoneBreaks c.args.object.now c.args.claim.now) (all-cases c.args.object.now c.args.claim.now c.ids_of-ids.result c.ids_of-ids.ensures) (rw c.in-None.is at c.in_ok-example.ensures),
)

pub returns-in-Some-clause-invariant : goal.returns-in-Some-clause-invariant
returns-in-Some-clause-invariant c =
    let e = c.in-Some.example in
    holds_unless_sc c.args.object.now c.args.claim.now e.state.content e.m e.n (returns-in-Some-clause-answer c).first.here
