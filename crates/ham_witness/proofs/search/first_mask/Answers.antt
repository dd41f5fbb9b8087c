use Rattle.std.proofs.Common.{sym, subst, Option}
use Rattle.ham_syntax.specs.declared.act.Act.{Act}
use Rattle.ham_syntax.specs.Objects.{columns_of}
use Rattle.ham_meaning.specs.OfObjects.{HasColumns}
use Rattle.ham_witness.specs.declared.answers.Shown.{Shown}
use Rattle.ham_witness.specs.Cases.{cases_with, case_of}
use Rattle.ham_witness.specs.Shown.{Breaks, Shows, IsFirstExample}
use Rattle.ham_witness.proofs.Breaking.{found-case, no-case}
use Rattle.ham_witness.proofs.First.{none-more}
use Rattle.ham_witness.proofs.Made.{well_formed}
use Rattle.ham_witness.proofs.search.first_mask.Goals as goal

pub shown_by-requires-clause-well_formed : goal.shown_by-requires-clause-well_formed
shown_by-requires-clause-well_formed c = subst (HasColumns (columns_of c.args.object.now)) (sym c.requires.state) (well_formed c.args.object.now c.args.ids c.args.kinds)

pub returns-in-Some : goal.returns-in-Some
returns-in-Some c =
    subst (λ (a : Act). IsFirstExample c.args.object.now c.args.claim.now (cases_with c.args.object.now c.args.ids c.args.claim.now c.args.kinds) (record { state = c.args.state.now; m = a; n = c.second_act-n.result; shown = c.in-Some.shown }))
    c.first_act-m.ensures
    (found-case c.args.object.now c.args.ids c.args.claim.now c.args.kinds c.loop-mask.mask c.mask_count-count.result c.args.state.now c.first_act-m.result c.second_act-n.result c.in-Some.shown
    c.requires.state c.requires.opened c.first_act-m.ensures c.second_act-n.ensures c.mask_count-count.ensures c.loop-mask-test.true c.loop-mask.invariant
    (subst (λ (found : Option Shown). Shows c.args.object.now c.args.claim.now c.args.state.now.content c.first_act-m.result c.second_act-n.result found) c.in-Some.is c.in_ok-shown.ensures))

pub loop-mask-preserved : goal.loop-mask-preserved
loop-mask-preserved c =
    none-more (Breaks c.args.object.now c.args.claim.now) (case_of c.args.object.now c.args.ids c.args.claim.now c.args.kinds) c.loop-mask.mask c.loop-mask.invariant
    (no-case c.args.object.now c.args.ids c.args.claim.now c.args.kinds c.loop-mask.mask c.args.state.now.content c.first_act-m.result c.second_act-n.result c.requires.state c.first_act-m.ensures c.second_act-n.ensures
    (subst (λ (found : Option Shown). Shows c.args.object.now c.args.claim.now c.args.state.now.content c.first_act-m.result c.second_act-n.result found) c.in-None.is c.in_ok-shown.ensures))
